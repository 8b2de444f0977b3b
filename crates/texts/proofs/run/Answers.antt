-- `texts::run` meets its contract: with no list the word rule is the stemmer's own.
use Prim.Native.Nat.{ℕ}
use mathlib.Core.Path.{refl, subst}
use mathlib.Core.List.{List, []}
use Rattle.paper.specs.Groups.{Reading}
use Rattle.texts.specs.Texts.{text_outcome}
use Rattle.texts.specs.TextAnswers.{Answered}
use Rattle.texts.specs.RuleLaws.{rule_none}
use Rattle.texts.proofs.run.Goals as goal

pub returns : goal.returns
returns c = let called = c.rewrite in
    let text = c.args.text.now in
    subst (λ (rule : List ℕ → Reading). Answered (text_outcome rule text) called.result called.new.text) (rule_none [] refl)
    called.ensures
