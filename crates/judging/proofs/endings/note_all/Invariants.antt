-- `judging::endings::note_all` meets its contract. The loop's invariant: so many rules are noted.
use Prim.Native.Nat.{◌-◌}
use mathlib.Core.Path.{◌≡◌}
use lib.ListN.{length}
use Rattle.judging.specs.NoteLaws.{Noting}
use Rattle.judging.proofs.endings.note_all.Given as goal

abbrev pub invariant-loop-record : goal.invariant-loop-record
invariant-loop-record l = (length l.notes ≡ length l.initial.notes) × Noting l.bytes l.table l.at l.root l.groups l.rules l.notes

abbrev pub decreases-loop-record : goal.decreases-loop-record
decreases-loop-record l = length l.bytes - l.at
