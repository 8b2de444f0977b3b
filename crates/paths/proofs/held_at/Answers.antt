-- `paths::held_at` meets its contract: the rule at the end of a path.
use mathlib.Core.Path.{sym, ◌∙◌}
use native.Mathlib.Omega.{arith}
use Rattle.paths.specs.BeyondLaws.{held_beyond}
use Rattle.paths.specs.FollowLaws.{none_there, node_there}
use Rattle.walks.specs.WalkSteps.{held_nowhere, held_reached}
use Rattle.paths.proofs.held_at.Goals as goal

-- the table has no such root
pub returns-then-table-root : goal.returns-then-table-root
returns-then-table-root c = sym (held_beyond _ _ c.if-table-root.true _)

pub returns-in_default : goal.returns-in_default
returns-in_default c = sym (held_nowhere _ _ _ 0 (none_there _ (sym c.in_default.is ∙ c.follow.ensures.value)))

pub returns : goal.returns
returns c = c.number_at.ensures.0 ∙ held_reached _ _ _ _ 0 (omega arith) (node_there _ _ c.in-Some.ensures.value)
