-- `groups::row::Row::opens` meets its contract.
use mathlib.Core.Path.{refl}
use Rattle.rules.specs.Rows.{rule_at}
use Rattle.groups.proofs.row.Row.opens.Goals as goal

pub returns : goal.returns
unfolding rule_at
returns c = refl
