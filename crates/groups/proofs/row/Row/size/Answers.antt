-- `groups::row::Row::size` meets its contract.
use Rattle.rules.specs.Rows.{size_at}
use Rattle.groups.proofs.row.Row.size.Goals as goal

pub returns-clause-value : goal.returns-clause-value
unfolding size_at
returns-clause-value c = c.from.ensures
