-- `letters::note` meets its contract: at the loop's head the states of the letters passed are in their places, and what is left to find
-- lies in the bytes not passed yet; the class that is kept beside the state is a vowel where the state is odd.
use Prim.Native.Nat.{◌≤◌, ◌<◌}
use mathlib.Core.Path.{◌≡◌}
use mathlib.Core.Bool.{false}
use lib.ListN.{length}
use Rattle.letters.proofs.Classes.{odd}
use Rattle.pieces.specs.FirstOther.{Sought}
use Rattle.letters.proofs.Writes.{Writing}
use Rattle.letters.proofs.note.Given as goal

abbrev pub invariant-loop-i : goal.invariant-loop-i
invariant-loop-i l = (length l.word < length l.initial.states)
    × (length l.word ≤ 255)
    × Sought l.word l.i
    × Writing l.word l.initial.states 0 false 0 l.states l.state l.consonant l.i
    × (l.vowel ≡ odd l.state)
