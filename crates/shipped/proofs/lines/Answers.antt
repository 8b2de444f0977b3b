-- `shipped::lines` meets its contract: the constant is the text of the shipped rules.
use mathlib.Core.Path.{refl}
use Rattle.paper.specs.Letters.{letters}
use Rattle.paper.specs.Shipped.{shipped}
use Rattle.printed.specs.Printed.{text_of}
use Rattle.lines.specs.Lines.{spellings, spelling, part, action, print}
use Rattle.imports.specs.EverySheet.{lines_of}
use Rattle.shipped.proofs.lines.Goals as goal

-- one computed test over all bytes of the constant
pub returns : goal.returns
unfolding letters shipped text_of spellings spelling part action print lines_of
returns c = refl
