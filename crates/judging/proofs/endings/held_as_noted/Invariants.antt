-- `judging::endings::held_as_noted` meets its contract. The loop's invariant: so it is of the nodes before this one.
use Rattle.judging.specs.Notes.{Held}
use Rattle.judging.proofs.endings.held_as_noted.Given as goal

abbrev pub invariant-loop-i : goal.invariant-loop-i
invariant-loop-i l = Held l.table l.roots l.i l.notes
