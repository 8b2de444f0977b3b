-- `readings::step_5b` meets its contract: its one rule has the empty ending, and its condition asks for an l.
use borrow.Author.Tests.{ne_eqb}
use native.Mathlib.Omega.{arith}
use Prim.Native.Nat.{ℕ, ◌-◌}
use mathlib.Core.Path.{◌≡◌, refl, ◌∙◌}
use mathlib.Core.Bool.{and-false}
use mathlib.Core.List.{List}
use mathlib.Core.Option.{none}
use lib.ListN.{length}
use lib.Seq.{take-length}
use Rattle.paper.specs.Letters.{letter_at}
use Rattle.paper.specs.Conditions.{conditions, holds, last_is}
use Rattle.paper.specs.Groups.{before, obeyed}
use Rattle.paper.specs.FirstFits.{decided, rule_of, none_yet}
use Rattle.paper.specs.SameEnding.{ends_empty}
use Rattle.paper.specs.Shipped.{single, group_5b}
use Rattle.rules.specs.Rows.{rows_of}
use Rattle.groups.specs.ReadsLaws.{kept_whole}
use Rattle.readings.proofs.Narrow.{whole}
use Rattle.readings.proofs.Tests.{reads_5b, cuts_5b}
use Rattle.readings.proofs.step_5b.Goals as goal

other_letter : (word : List ℕ) → (letter_at 0 word ≡ 108 → ⊥) → obeyed word group_5b ≡ none
unfolding holds conditions last_is before single group_5b
other_letter word other =
    let all : length word - 0 ≡ length word = omega arith in
    decided word group_5b 0 (reads_5b (rows_of group_5b) refl).one (omega arith) (none_yet (rule_of group_5b) word) (ends_empty word)
    ∙ rw (all, take-length word, ne_eqb _ 108 other, and-false, and-false)

pub returns-then-letter_at-ne108 : goal.returns-then-letter_at-ne108
returns-then-letter_at-ne108 c = kept_whole group_5b _ (other_letter _ (rw (← c.letter_at.ensures) c.if-letter_at-ne108.true))

pub returns : goal.returns
returns c = (c.cut_by.ensures group_5b c.args.word.noted (whole (reads_5b _ c.table-rules.ensures)) cuts_5b).cut
