-- `shipped::table` meets its contract: the constant is the shipped rules' table.
use mathlib.Core.Path.{refl}
use Rattle.paper.specs.Shipped.{shipped}
use Rattle.levels.specs.Layout.{computed}
use Rattle.shipped.proofs.table.Goals as goal

-- one computed test over all numbers of the constant
pub returns : goal.returns
unfolding shipped computed
returns c = refl
