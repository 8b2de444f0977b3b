-- `sheets::count_nodes` meets its contract. The loop's invariant: what is counted and what is left make the node count.
use Prim.Native.Nat.{◌-◌, ◌≤◌}
use lib.ListN.{length}
use Rattle.sheets.specs.NodeLaws.{Counting}
use Rattle.sheets.proofs.count_nodes.Given as goal

abbrev pub invariant-loop-record : goal.invariant-loop-record
invariant-loop-record l = (l.at ≤ length l.bytes) × Counting l.bytes l.at l.nodes l.first l.count

abbrev pub decreases-loop-record : goal.decreases-loop-record
decreases-loop-record l = length l.bytes - l.at
