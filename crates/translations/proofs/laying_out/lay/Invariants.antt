-- `translations::laying_out::lay` meets its contract. The loop's invariant: the table is midway, with so many rows finished.
use Prim.Native.Nat.{◌-◌}
use mathlib.Core.Path.{◌≡◌}
use lib.ListN.{length}
use Rattle.translations.specs.Midway.{Midway}
use Rattle.translations.proofs.laying_out.lay.Given as goal

abbrev pub invariant-loop-row : goal.invariant-loop-row
invariant-loop-row l = (length l.table ≡ length l.initial.table) × Midway l.sheet.bytes.now l.table l.row l.next

abbrev pub decreases-loop-row : goal.decreases-loop-row
decreases-loop-row l = length l.initial.table - l.row
