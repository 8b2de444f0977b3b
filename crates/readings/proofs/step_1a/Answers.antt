-- `readings::step_1a` meets its contract: every ending of group 1a has an s last.
use Rattle.paper.specs.Letters.{letters}
use Rattle.paper.specs.FirstFits.{not_one}
use Rattle.paper.specs.Shipped.{group_1a}
use Rattle.groups.specs.ReadsLaws.{kept_whole}
use Rattle.readings.proofs.Narrow.{none_last, whole}
use Rattle.readings.proofs.Tests.{reads_1a, cuts_1a, free_1a, last_1a}
use Rattle.readings.proofs.step_1a.Goals as goal

pub returns-then-letter_at-ne115 : goal.returns-then-letter_at-ne115
unfolding letters
returns-then-letter_at-ne115 c = let word = c.args.word.now in
    kept_whole group_1a word
    (none_last word (letters "s") group_1a last_1a (rw (← c.letter_at.ensures) (not_one _ 115 c.if-letter_at-ne115.true)))

pub returns : goal.returns
returns c = c.cut_free.ensures group_1a (whole (reads_1a _ c.table-rules.ensures)) free_1a cuts_1a
