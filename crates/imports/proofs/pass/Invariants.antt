-- `imports::pass` meets its contract: at the loop's head the lines before `at` are taken, and their records were put.
use Prim.Native.Nat.{◌-◌, ◌≤◌}
use lib.ListN.{length}
use Rattle.imports.specs.Passing.{State}
use Rattle.imports.proofs.pass.Given as goal

abbrev pub invariant-loop-at : goal.invariant-loop-at
invariant-loop-at l = (l.at ≤ length l.text) × State l.text l.initial.sheet l.at l.groups l.rules l.size l.sheet

abbrev pub decreases-loop-at : goal.decreases-loop-at
decreases-loop-at l = length l.text - l.at
