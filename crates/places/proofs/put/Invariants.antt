-- `places::put` meets its contract: at the loop's head the letters passed are in their places.
use mathlib.Core.Path.{◌≡◌}
use lib.Seq.{paste}
use Rattle.places.proofs.put.Given as goal

abbrev pub invariant-loop-i : goal.invariant-loop-i
invariant-loop-i l = l.place ≡ paste l.initial.place l.at l.letters l.i
