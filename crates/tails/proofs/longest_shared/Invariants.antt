-- `tails::longest_shared` meets its contract. The loop's invariant: the longest tail shared with all the rules is
-- the longer of the longest so far and of the longest shared with those that are left, which stand from `place` on.
use Rattle.std.proofs.Common.{◌≡◌, ◌-◌, max, drop}
use Rattle.paper.specs.LookBack.{shared}
use Rattle.tails.specs.Earlier.{tails_in}
use Rattle.tails.proofs.longest_shared.Given as goal

abbrev pub invariant-loop : goal.invariant-loop
invariant-loop l =
    shared l.ending (tails_in l.count (drop l.first l.sheet))
    ≡ max l.longest (shared l.ending (tails_in (l.count - l.counter) (drop l.place l.sheet)))
