-- `conditions::holds_by` meets its contract; a state in a list of bytes is one of those that `least` speaks of.
use native.Mathlib.Omega.{arith}
use mathlib.Core.Path.{◌∙◌}
use lib.ListN.{length, get_or}
use Rattle.paper.specs.States.{reaches_holds}
use Rattle.conditions.proofs.holds_by.Goals as goal

pub returns-then-condition-lt4 : goal.returns-then-condition-lt4
returns-then-condition-lt4 c = let a = c.args in
    let n = length a.part.now in
    let state = get_or a.states.now n 0 in
    rw c.state_at.ensures (c.least.ensures state (omega (arith, c.shared_slice_known-2-1.given n)))
    ∙ reaches_holds a.condition a.part.now _ _ _ c.if-condition-lt4.true
