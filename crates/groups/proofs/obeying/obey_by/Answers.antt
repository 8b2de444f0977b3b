-- `groups::obeying::obey_by` meets its contract: what was put follows the part, and the scan of its letters goes on from the part's state.
use native.Mathlib.Omega.{arith}
use mathlib.Core.Path.{refl, sym, ap, ◌∙◌}
use Rattle.paper.specs.Groups.{result}
use Rattle.places.specs.Put.{put_at}
use Rattle.groups.proofs.Written.{single_there, length_there, written_there}
use Rattle.groups.proofs.obeying.obey_by.Goals as goal

pub returns-in_default : goal.returns-in_default
unfolding result
returns-in_default c stands bound = rw c.in_default.is (refl, stands)

pub returns-then-single : goal.returns-then-single
returns-then-single c stands bound =
    rw c.in-Some.is (single_there c.in-Some.row stands (sym c.single.ensures ∙ c.if-single.true) c.cut-left.ensures)

pub returns-then-word-left : goal.returns-then-word-left
returns-then-word-left c stands bound =
    let long = length_there c.in-Some.row stands (sym c.single.ensures ∙ c.if-single.false) in
    let short = rw c.in-Some.is at bound in
    absurd (omega (arith, c.cut-left.ensures, long, short))

pub returns : goal.returns
returns c stands bound = let args = c.args in
    let row = c.in-Some.row in
    rw c.in-Some.is
    (written_there row stands (sym c.single.ensures ∙ c.if-single.false)
    (omega (arith, c.saturating_sub-part.ensures, c.size.ensures.value)) c.cut-left.ensures (omega arith)
    (c.put.ensures ∙ ap (put_at args.word.now _) c.written.ensures) (omega arith) (omega arith) c.renew.ensures)
