-- `sheets::check` meets its contract: what is read, and the nodes of an accepted sheet.
use Rattle.std.proofs.lemmas.Result.{err_from_is_err_and}
use Rattle.sheets.specs.ReadLaws.{check_refused, check_accepted}
use Rattle.sheets.proofs.check.Goals as goal

pub returns-in_err-groups : goal.returns-in_err-groups
returns-in_err-groups c =
    let p = err_from_is_err_and c.from_residual.result c.from_residual.ensures.1 in
    rw (p.1, p.2) (check_refused _ _ c.in_err-groups.ensures)

pub returns : goal.returns
returns c = let is = c.in_ok-groups.ensures in check_accepted _ _ _ is.0 c.count_nodes-nodes.ensures is.1
