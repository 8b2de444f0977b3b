-- `exceptions::stem` meets its contract: 10 for a list that is refused; with one that is accepted the word is answered as 02 says.
use Rattle.std.proofs.Common.{ℕ, ◌≡◌, refl, List, Result, Ok, Err}
use Rattle.std.proofs.lemmas.Result.{err_from_is_err_and}
use Rattle.paper.specs.Shipped.{shipped}
use Rattle.std.specs.Result.{MatchResult, IsErrAnd}
use Rattle.answers.specs.declared.WordRefusal.{WordRefusal}
use Rattle.answers.specs.declared.ListedRefusal.{ListedRefusal}
use Rattle.answers.specs.declared.ListedRefusal.TheVariants.{Call}
use Rattle.exceptions.specs.Judged.{Answered, AnsweredListed}
use Rattle.paper.specs.Words.{Outcome, stem}
use Rattle.lists.specs.CheckLaws.{by_refused, by_accepted}
use Rattle.lists.specs.ListedWords.{refused_10}
use Rattle.exceptions.specs.JudgedLaws.{accepted_as_listed}
use Rattle.exceptions.proofs.stem.Goals as goal

-- a refusal of the call is told as one of the call
mapped : {outcome : Outcome} {after : List ℕ} (called : Result ℕ WordRefusal) (result : Result ℕ (ListedRefusal WordRefusal))
    → MatchResult called (λ size. result ≡ Ok size) (λ refusal. IsErrAnd result (λ told. told ≡ Call refusal))
    → Answered outcome called after
    → AnsweredListed outcome result after
mapped (Ok size) result is gives = rw is gives
mapped (Err refusal) result is gives = let p = err_from_is_err_and result is in rw (p.1, p.2) gives

pub returns-in_err-check : goal.returns-in_err-check
returns-in_err-check c =
    let args = c.args in
    let p = err_from_is_err_and c.from_residual.result c.from_residual.ensures.1 in
    let is = by_refused args.list.now c.in_err-check.ensures in
    rw (p.1, p.2, refused_10 (stem shipped) args.list.now args.word.now is) (record { number_is = refl; value_is = refl; place_is = refl })

pub returns : goal.returns
returns c =
    let args = c.args in
    let is = by_accepted args.list.now c.in_ok-check.ensures in
    let gives = rw (accepted_as_listed (stem shipped) args.list.now args.word.now is.1) at c.stem_by.ensures in
    mapped c.stem_by.result c.map_err.result c.map_err.ensures.cases gives
