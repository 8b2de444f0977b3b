-- `sheets::misplaced_group` meets its contract: the count of groups and the gate are held against their bounds.
use mathlib.Core.Path.{refl}
use Rattle.sheets.proofs.misplaced_group.Goals as goal

pub returns : goal.returns
returns c = refl
