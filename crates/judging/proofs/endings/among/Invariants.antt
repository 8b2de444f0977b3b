-- `judging::endings::among` meets its contract. The loop's invariant: what is found from here on is what is found from the first on.
use Prim.Native.Nat.{◌-◌}
use mathlib.Core.Path.{◌≡◌}
use Rattle.paths.specs.Children.{sought}
use Rattle.judging.proofs.endings.among.Given as goal

abbrev pub invariant-loop-at : goal.invariant-loop-at
invariant-loop-at l = sought (l.end - l.at) l.table l.letter l.at ≡ sought (l.end - l.first) l.table l.letter l.first
