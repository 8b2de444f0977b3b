-- `forests::rising` meets its contract. The loop's invariant: the letters so far rise, and the last of them is at hand.
use Prim.Native.Nat.{◌-◌, ◌<◌}
use mathlib.Core.Path.{◌≡◌}
use Rattle.paths.specs.Children.{letter}
use Rattle.forests.specs.Shapes.{Rises}
use Rattle.forests.proofs.rising.Given as goal

abbrev pub invariant-loop-k : goal.invariant-loop-k
invariant-loop-k l = (l.first < l.k) × (l.last ≡ letter l.table (l.k - 1)) × Rises l.table l.first l.k
