-- `forests::roots_bare` meets its contract. The loop's invariant: the roots so far have letter 0.
use Rattle.forests.specs.Shapes.{Bare}
use Rattle.forests.proofs.roots_bare.Given as goal

abbrev pub invariant-loop-k : goal.invariant-loop-k
invariant-loop-k l = Bare l.table l.k
