-- `conditions::least` meets its contract: each arm is where the condition of its number begins to hold, and no byte is 256.
use native.Mathlib.Omega.{arith}
use Prim.Native.Nat.{◌≤◌}
use mathlib.Core.Path.{sym, ◌∙◌}
use mathlib.Core.Bool.{true, false}
use mathlib.Core.List.{[], ◌∷◌}
use borrow.Author.Tests.{le-leb, lt-leb}
use lib.Dec.{ltb}
use lib.ListN.{get_or-eq_default}
use Rattle.paper.specs.States.{reaches_by}
use Rattle.conditions.proofs.least.Goals as goal

pub returns-in-0 : goal.returns-in-0
unfolding reaches_by
returns-in-0 c state below = rw c.in-0.is (le-leb 0 state (omega arith))

pub returns-in-1 : goal.returns-in-1
unfolding reaches_by
returns-in-1 c state below = rw c.in-1.is

pub returns-in-2 : goal.returns-in-2
unfolding reaches_by
returns-in-2 c state below = rw c.in-2.is

pub returns-in-3 : goal.returns-in-3
unfolding reaches_by
returns-in-3 c state below = rw c.in-3.is

pub returns-in_default : goal.returns-in_default
unfolding reaches_by
returns-in_default c state below = let above : 4 ≤ c.args.condition = omega (arith, c.in_default.in_default-own.rest) in
    lt-leb 256 state below ∙ sym (get_or-eq_default (true ∷ ltb 1 state ∷ ltb 3 state ∷ ltb 0 state ∷ []) false above)
