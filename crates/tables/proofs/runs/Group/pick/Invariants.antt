-- `tables::runs::Group::pick` meets its contract. The loop's invariant: the rules that are left decide.
use Prim.Native.Nat.{◌+◌, ◌-◌}
use lib.ListN.{length}
use Rattle.paths.specs.Children.{nodes_in}
use Rattle.tables.specs.TryLaws.{Trying}
use Rattle.tables.proofs.runs.Group.pick.Given as goal

abbrev pub invariant-loop-record : goal.invariant-loop-record
invariant-loop-record l =
    let group = l.self in
    Trying (nodes_in group.table.now) group.root l.found l.word group.sheet.now (group.root + 1) group.at group.rules l.place l.number

abbrev pub decreases-loop-record : goal.decreases-loop-record
decreases-loop-record l = length l.self.sheet.now - l.place
