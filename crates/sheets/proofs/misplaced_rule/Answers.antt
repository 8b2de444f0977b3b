-- `sheets::misplaced_rule` meets its contract: the counts of groups and of rules are held against their bounds.
use mathlib.Core.Path.{refl}
use Rattle.sheets.proofs.misplaced_rule.Goals as goal

pub returns : goal.returns
returns c = refl
