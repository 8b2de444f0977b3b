-- `shipped::run` meets its contract: the two constants are the shipped sheet and its table, whose runs read the shipped rules.
use mathlib.Core.Path.{◌≡◌}
use mathlib.Core.List.{List}
use Prim.Native.Nat.{ℕ}
use Rattle.paper.specs.Shipped.{shipped}
use Rattle.paper.specs.Words.{read_word, word_outcome, Gives}
use Rattle.sheets.specs.SheetBytes.{sheet_of}
use Rattle.levels.specs.Layout.{table_of}
use Rattle.tables.specs.RunOutcomes.{run_outcome}
use Rattle.tables.specs.Demand3.{delivered_reads}
use Rattle.shipped.proofs.run.Goals as goal

given : (word : List ℕ) {sheet table after : List ℕ} {number value : ℕ} → sheet ≡ sheet_of shipped → table ≡ table_of shipped
    → Gives (run_outcome sheet table word) number value after
    → Gives (word_outcome (read_word shipped) word) number value after
given word is also gives = rw (is, also, delivered_reads) at gives

pub returns : goal.returns
returns c = given c.args.word.now c.sheet-rules.ensures
    c.table-nodes.ensures c.run.ensures
