-- `letters::above` meets its contract: letters that follow never take away from the state.
use Prim.Native.Nat.{◌≤◌}
use Rattle.letters.proofs.Steps.{Passing}
use Rattle.letters.proofs.above.Given as goal

abbrev pub invariant-loop-letter : goal.invariant-loop-letter
invariant-loop-letter l = Passing l.part l.s l.letter-index × (l.s.state ≤ l.k)
