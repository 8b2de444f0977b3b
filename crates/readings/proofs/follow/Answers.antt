-- `readings::follow` meets its contract.
use Rattle.paper.specs.Shipped.{follow_up}
use Rattle.readings.proofs.Tests.{paired_follow_up}
use Rattle.readings.proofs.follow.Goals as goal

pub returns : goal.returns
returns c = let pre = c.requires in
    c.write_pair.ensures follow_up pre.stands (paired_follow_up _ _ c.table-rules.ensures) pre.word_in_bounds
