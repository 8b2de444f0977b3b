-- `sheets::read` meets its contract. The loop's invariant: the place and the counts are within their bounds, and `Reading`
-- says what the rest of the sheet decides. The measure is what is left of the sheet.
use Prim.Native.Nat.{◌-◌, ◌≤◌}
use lib.ListN.{length}
use Rattle.sheets.specs.ReadLaws.{Reading}
use Rattle.sheets.proofs.read.Given as goal

abbrev pub invariant-loop-record : goal.invariant-loop-record
invariant-loop-record l = (l.at ≤ length l.sheet) × (l.groups ≤ 16) × (l.rules ≤ 128) × Reading l.sheet l.at l.groups l.rules

abbrev pub decreases-loop-record : goal.decreases-loop-record
decreases-loop-record l = length l.sheet - l.at
