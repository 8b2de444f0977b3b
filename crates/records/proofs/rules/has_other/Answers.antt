-- `records::rules::has_other` meets its contract: the first byte outside a to z stands before the end.
use Rattle.paper.specs.WordsLaws.{other_inside}
use Rattle.records.specs.Records.{outside}
use Rattle.records.proofs.rules.has_other.Goals as goal

pub returns : goal.returns
unfolding outside
returns c = rw c.first_other.ensures (other_inside c.args.bytes.now)
