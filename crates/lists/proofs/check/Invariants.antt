-- `lists::check` meets its contract. The loop's invariant: `count` records of kind 4 stand before `at`, and the check of the whole list
-- is that of what is left, with so many words before.
use Prim.Native.Nat.{◌-◌, ◌≤◌}
use lib.ListN.{length}
use Rattle.lists.specs.CheckLaws.{State}
use Rattle.lists.proofs.check.Given as goal

abbrev pub invariant-loop-next : goal.invariant-loop-next
invariant-loop-next l = (l.at ≤ length l.list) × (l.count ≤ l.at) × State l.list l.at l.count

abbrev pub decreases-loop-next : goal.decreases-loop-next
decreases-loop-next l = length l.list - l.at
