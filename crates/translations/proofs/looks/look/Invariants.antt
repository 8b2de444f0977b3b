-- `translations::looks::look` meets its contract. The loop's invariant: whatever list of rules stands from the start on, the look
-- through it is midway here.
use Prim.Native.Nat.{◌-◌, ◌≤◌}
use mathlib.Core.List.{List}
use mathlib.Core.Path.{◌≡◌}
use lib.ListN.{length}
use Rattle.paper.specs.Groups.{Rule}
use Rattle.translations.specs.Looking.{Reads, Looking}
use Rattle.translations.proofs.looks.look.Given as goal

abbrev pub invariant-loop-record : goal.invariant-loop-record
invariant-loop-record l = (l.at ≤ length l.sheet)
    × (l.rule ≤ 128)
    × (length l.ends ≡ length l.initial.ends)
    × ((list : List Rule) → Reads l.sheet l.from l.before list → Looking l.sheet l.before list l.tail l.at l.number l.rule l.ends)

abbrev pub decreases-loop-record : goal.decreases-loop-record
decreases-loop-record l = length l.sheet - l.at
