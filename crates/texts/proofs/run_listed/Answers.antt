-- `texts::run_listed` meets its contract: 10 for a list that is refused; of one that is accepted the words have their listed stems.
use Rattle.std.proofs.Common.{ℕ, ◌≡◌, refl, subst, List, Result, Ok, Err}
use Rattle.std.proofs.lemmas.Result.{err_from_is_err_and}
use Rattle.std.specs.Result.{MatchResult, IsErrAnd}
use Rattle.answers.specs.declared.Counts.{Counts}
use Rattle.answers.specs.declared.TooLong.{TooLong}
use Rattle.answers.specs.declared.ListedRefusal.{ListedRefusal}
use Rattle.answers.specs.declared.ListedRefusal.TheVariants.{Call}
use Rattle.paper.specs.Groups.{Reading}
use Rattle.lists.specs.CheckLaws.{by_refused, by_accepted}
use Rattle.texts.specs.Texts.{Outcome, text_outcome}
use Rattle.texts.specs.ListedTexts.{listed_text}
use Rattle.texts.specs.TextAnswers.{Answered, AnsweredListed}
use Rattle.texts.specs.RuleLaws.{rule_held}
use Rattle.texts.proofs.run_listed.Goals as goal

-- a refusal of the run is told as one of the call
mapped : {outcome : Outcome} {after : List ℕ} (called : Result Counts TooLong) (result : Result Counts (ListedRefusal TooLong))
    → MatchResult called (λ counts. result ≡ Ok counts) (λ refusal. IsErrAnd result (λ told. told ≡ Call refusal))
    → Answered outcome called after
    → AnsweredListed outcome result after
mapped (Ok counts) result is gives = rw is gives
mapped (Err refusal) result is gives = let p = err_from_is_err_and result is in rw (p.1, p.2) gives

pub returns-in_err-check : goal.returns-in_err-check
unfolding listed_text
returns-in_err-check c =
    let p = err_from_is_err_and c.from_residual.result c.from_residual.ensures.1 in
    let is = by_refused _ c.in_err-check.ensures in
    rw (p.1, p.2, is) (record { number_is = refl; stemmed_is = refl; left_is = refl; text_is = refl })

pub returns : goal.returns
unfolding listed_text
returns c =
    let called = c.rewrite in
    let args = c.args in
    let is = by_accepted args.list.now c.in_ok-check.ensures in
    let rule = rule_held args.list.now is.0 is.1 in
    rw is.1
    (mapped called.result c.map_err.result c.map_err.ensures.cases
    (subst (λ (r : List ℕ → Reading). Answered (text_outcome r args.text.now) called.result called.new.text) rule called.ensures))
