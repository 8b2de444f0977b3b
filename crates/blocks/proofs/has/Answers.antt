-- `blocks::has` meets its contract: the shift is the quotient by a power of 2, as the set's definition has it.
use mathlib.Core.Path.{refl}
use Rattle.blocks.specs.Blocks.{member}
use Rattle.blocks.proofs.has.Goals as goal

pub returns : goal.returns
unfolding member
returns c = refl
