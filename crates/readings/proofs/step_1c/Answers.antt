-- `readings::step_1c` meets its contract: the one ending of group 1c is y.
use lib.ListN.{take}
use Rattle.paper.specs.Letters.{letters}
use Rattle.paper.specs.FirstFits.{not_one}
use Rattle.paper.specs.Shipped.{group_1c}
use Rattle.groups.specs.ReadsLaws.{stays}
use Rattle.readings.proofs.Narrow.{none_last, whole}
use Rattle.readings.proofs.Tests.{reads_1c, last_1c}
use Rattle.readings.proofs.step_1c.Goals as goal

pub returns-then-letter_at-ne121 : goal.returns-then-letter_at-ne121
unfolding letters
returns-then-letter_at-ne121 c = let word = take c.args.len c.args.word.now in
    stays group_1c c.requires.stands
    (none_last word (letters "y") group_1c last_1c (rw (← c.letter_at.ensures) (not_one _ 121 c.if-letter_at-ne121.true)))

pub returns : goal.returns
returns c = let pre = c.requires in
    c.write_by.ensures group_1c pre.stands (whole (reads_1c _ c.table-rules.ensures)) pre.word_in_bounds
