-- `groups::row::Row::added` meets its contract.
use Rattle.rules.specs.Rows.{added_at}
use Rattle.groups.proofs.row.Row.added.Goals as goal

pub returns-clause-value : goal.returns-clause-value
unfolding added_at
returns-clause-value c = cc
