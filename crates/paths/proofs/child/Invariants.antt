-- `paths::child` meets its contract: the child of a letter. The loop's invariant: what is found from here on is what is found
-- from the first child on.
use Prim.Native.Nat.{◌-◌}
use mathlib.Core.Path.{◌≡◌}
use Rattle.paths.specs.Children.{sought, child as child_of}
use Rattle.paths.proofs.child.Given as goal

abbrev pub invariant-loop-at : goal.invariant-loop-at
invariant-loop-at l = sought (l.at-end - l.at) l.table l.letter l.at ≡ child_of l.table l.parent l.letter
