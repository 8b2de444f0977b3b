-- `translations::laying_out::begin` meets its contract. The loop's invariant: the roots of the groups passed wait in the table.
use Prim.Native.Nat.{◌-◌, ◌≤◌}
use lib.ListN.{length}
use Rattle.translations.specs.RootLaws.{Rooting}
use Rattle.translations.proofs.laying_out.begin.Given as goal

abbrev pub invariant-loop-record : goal.invariant-loop-record
invariant-loop-record l = (l.at ≤ length l.bytes) × (l.roots ≤ 16) × (l.rules ≤ 128) × Rooting l.bytes l.table l.at l.roots l.rules

abbrev pub decreases-loop-record : goal.decreases-loop-record
decreases-loop-record l = length l.bytes - l.at
