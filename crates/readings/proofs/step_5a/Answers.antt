-- `readings::step_5a` meets its contract: both endings of group 5a are e.
use native.Mathlib.Omega.{arith}
use mathlib.Core.Path.{sym, ◌∙◌}
use Rattle.paper.specs.Letters.{letters}
use Rattle.paper.specs.FirstFits.{not_one, ends_one}
use Rattle.paper.specs.Shipped.{group_5a}
use Rattle.groups.specs.ReadsLaws.{kept_whole}
use Rattle.readings.proofs.Narrow.{none_last}
use Rattle.readings.proofs.Tests.{paired_5a, cuts_5a, last_5a}
use Rattle.readings.proofs.step_5a.Goals as goal

pub returns-then-letter_at-ne101 : goal.returns-then-letter_at-ne101
unfolding letters
returns-then-letter_at-ne101 c = let word = c.args.word.letters.now in
    kept_whole group_5a word
    (none_last word (letters "e") group_5a last_5a (rw (← c.letter_at.ensures) (not_one _ 101 c.if-letter_at-ne101.true)))

pub returns : goal.returns
unfolding letters
returns c = let word = c.args.word.letters.now in
    let ends = ends_one word 101 (omega arith) (sym c.letter_at.ensures ∙ c.if-letter_at-ne101.false) in
    c.cut_pair.ensures group_5a c.args.word.noted (paired_5a _ word c.table-rules.ensures ends) cuts_5a
