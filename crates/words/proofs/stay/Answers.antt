-- `words::stay` meets its contract: the word is refused as it is judged, or it is its own stem, whole.
use Rattle.std.proofs.Common.{refl}
use Rattle.std.proofs.lemmas.Result.{err_from_is_err_and}
use Rattle.paper.specs.Groups.{done}
use Rattle.paper.specs.WordsLaws.{gives_refused, gives_whole}
use Rattle.words.proofs.stay.Goals as goal

pub returns-in_err-judge : goal.returns-in_err-judge
returns-in_err-judge c =
    let p = err_from_is_err_and c.from_residual.result c.from_residual.ensures.1 in
    rw (p.1, p.2) (gives_refused done _ c.in_err-judge.ensures)

pub returns : goal.returns
returns c = gives_whole done _ c.in_ok-judge.ensures refl
