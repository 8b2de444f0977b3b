-- `answers::judge` meets its contract: what is said by the length and the first byte outside a to z is what is said of the word.
use mathlib.Core.Path.{ap, ◌∙◌}
use lib.ListN.{length}
use Rattle.paper.specs.Words.{judged_by}
use Rattle.paper.specs.WordsLaws.{judged_by_lem}
use Rattle.answers.proofs.judge.Goals as goal

pub returns : goal.returns
returns c = let word = c.args.word.now in
    c.judge_by.ensures ∙ ap (judged_by (length word)) c.first_other.ensures ∙ judged_by_lem word
