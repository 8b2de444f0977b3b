-- `groups::write_by` meets its contract: what the rule leaves is what the group does, and the test holds of every word that stands.
use Rattle.groups.proofs.Written.{group_written}
use Rattle.groups.proofs.write_by.Goals as goal

pub returns : goal.returns
returns c group stands narrowed = group_written _ (c.chosen-row.ensures group stands.noted narrowed) (c.obey_by.ensures stands)
