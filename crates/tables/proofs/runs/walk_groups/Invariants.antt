-- `tables::runs::walk_groups` meets its contract. The loop's invariant: the groups that are left decide, on the letters that
-- are left.
use Prim.Native.Nat.{◌-◌, ◌≤◌}
use mathlib.Core.Path.{◌≡◌}
use lib.ListN.{length, take}
use Rattle.paths.specs.Children.{nodes_in}
use Rattle.tables.specs.WalkingLaws.{Walking}
use Rattle.tables.proofs.runs.walk_groups.Given as goal

abbrev pub invariant-loop-record : goal.invariant-loop-record
invariant-loop-record l = (l.size ≤ length l.word)
    × (length l.word ≡ length l.initial.word)
    × Walking (nodes_in l.table) l.bytes l.initial.word l.at l.groups l.rules l.opened (take l.size l.word)

abbrev pub decreases-loop-record : goal.decreases-loop-record
decreases-loop-record l = length l.bytes - l.at
