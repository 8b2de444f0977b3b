-- `conditions::letter_at` meets its contract.
use Prim.Native.Nat.{◌≤◌}
use mathlib.Core.Path.{sym}
use lib.ListN.{length, get_or-eq_default, length-reverse}
use Rattle.paper.specs.Letters.{letter_at, inward}
use Rattle.paper.specs.LettersLaws.{letter_at_index}
use Rattle.conditions.proofs.letter_at.Goals as goal

pub returns-then-back-part : goal.returns-then-back-part
returns-then-back-part c = sym (letter_at_index _ c.args.back c.if-back-part.true)

pub returns-else-back-part : goal.returns-else-back-part
unfolding letter_at inward
returns-else-back-part c = let part = c.args.part.now in
    let outside : length (inward part) ≤ c.args.back = rw length-reverse c.if-back-part.false in
    sym (get_or-eq_default (inward part) 0 outside)
