-- `readings::cut_within` meets its contract: the rules outside the block cannot end the word, and without a block it stays.
use mathlib.Core.Path.{ap, ◌∙◌}
use Rattle.rules.specs.Rows.{rows_of}
use Rattle.blocks.specs.Indexes.{group_of}
use Rattle.groups.specs.ReadsLaws.{kept_whole}
use Rattle.readings.proofs.Narrow.{narrowed}
use Rattle.readings.proofs.Tests.{reads_of}
use Rattle.readings.proofs.cut_within.Goals as goal

pub returns-in_default : goal.returns-in_default
returns-in_default c = kept_whole (group_of c.args.index) c.args.word.letters.now (rw c.in_default.is at c.block_of.ensures)

pub returns : goal.returns
returns c =
    let here = reads_of c.args.index _ (c.table-rules.ensures ∙ ap rows_of c.requires.same) in
    let outside = rw c.in-Some.is at c.block_of.ensures in
    (c.cut_by.ensures (group_of c.args.index) c.args.word.noted (narrowed here outside) c.requires.cut).cut
