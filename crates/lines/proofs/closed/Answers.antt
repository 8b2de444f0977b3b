-- `lines::closed` meets its contract.
use lib.ListN.{drop}
use mathlib.Core.Path.{◌≡◌, sym, ap, ◌∙◌}
use Rattle.lines.specs.Reading.{close_in, closed_in}
use Rattle.paper.specs.ListLaws.{to_the_end}
use Rattle.lines.proofs.closed.Goals as goal
use Rattle.lines.proofs.closed.Goals.{After-read_close}

-- what closes the line, in the part that was lent
closes : (c : After-read_close)
    → close_in (drop c.args.line.taken c.args.rest.now) ≡ c.read_close.result
closes c =
    let s = c.args in
    ap close_in (sym (to_the_end s.rest.now s.line.taken)) ∙ sym c.read_close.ensures

pub returns-in_err-read_close : goal.returns-in_err-read_close
unfolding closed_in
returns-in_err-read_close c =
    rw (closes (goal.at.returns-in_err-read_close c).After-read_close ∙ c.in_err-read_close.was, c.from_residual.ensures)

pub returns-in-Plain : goal.returns-in-Plain
unfolding closed_in
returns-in-Plain c =
    rw (closes (goal.at.returns-in-Plain c).After-read_close ∙ c.in_ok-read_close.was, c.in-Plain.is)

pub returns-in-Opens : goal.returns-in-Opens
unfolding closed_in
returns-in-Opens c =
    rw (closes (goal.at.returns-in-Opens c).After-read_close ∙ c.in_ok-read_close.was, c.in-Opens.is)
