-- `forests::shape_of` meets its contract. The loop's invariant: the nodes before this one are in their places.
use Prim.Native.Nat.{◌-◌}
use Rattle.forests.specs.ShapeSteps.{SoFar}
use Rattle.forests.proofs.shape_of.Given as goal

abbrev pub invariant-loop-i : goal.invariant-loop-i
invariant-loop-i l = SoFar l.table l.roots l.most l.i l.next

abbrev pub decreases-loop-i : goal.decreases-loop-i
decreases-loop-i l = l.most - l.i
