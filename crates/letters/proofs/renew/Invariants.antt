-- `letters::renew` meets its contract: at the loop's head the states of the letters passed are in their places.
use Prim.Native.Nat.{◌+◌, ◌-◌, ◌≤◌, ◌<◌}
use mathlib.Core.Bool.{◌&&◌}
use lib.Dec.{ltb}
use lib.ListN.{length, get_or}
use Rattle.paper.specs.States.{even}
use Rattle.letters.proofs.Writes.{Writing}
use Rattle.letters.proofs.renew.Given as goal

abbrev pub invariant-loop-i : goal.invariant-loop-i
invariant-loop-i l = let here = get_or l.initial.states l.from 0 in
    (length l.word < length l.initial.states)
    × (here + (length l.word - l.from) ≤ 255)
    × Writing l.word l.initial.states l.from (ltb 0 l.from && even here) here l.states l.state l.consonant l.i
