-- `readings::step_2` meets its contract: the rules outside the block cannot end the word, and without a block it stays.
use Rattle.paper.specs.Shipped.{group_2}
use Rattle.groups.specs.ReadsLaws.{stays}
use Rattle.blocks.specs.declared.Index.TheVariants.{Step2}
use Rattle.readings.proofs.Narrow.{narrowed}
use Rattle.readings.proofs.Tests.{reads_of}
use Rattle.readings.proofs.step_2.Goals as goal

pub returns-in_default : goal.returns-in_default
returns-in_default c = stays group_2 c.requires.stands (rw c.in_default.is at c.block_of.ensures)

pub returns : goal.returns
returns c = let pre = c.requires in
    let here = reads_of Step2 _ c.table-rules.ensures in
    let outside = rw c.in-Some.is at c.block_of.ensures in
    c.write_by.ensures group_2 pre.stands (narrowed here outside) pre.word_in_bounds
