-- `groups::write_pair` meets its contract: what the rule leaves is what the group does, and the test holds of every word that stands.
use Rattle.groups.proofs.Written.{group_written}
use Rattle.groups.proofs.write_pair.Goals as goal

pub returns : goal.returns
returns c group stands paired = group_written _ (c.chosen_pair-row.ensures group stands.noted paired) (c.obey_by.ensures stands)
