-- `conditions::short` meets its contract.
use mathlib.Core.Bool.{or-false}
use Rattle.paper.specs.Letters.{letters, among}
use Rattle.conditions.proofs.short.Goals as goal

pub returns : goal.returns
unfolding among letters
returns c = rw (c.letter_at-last.ensures, or-false)
