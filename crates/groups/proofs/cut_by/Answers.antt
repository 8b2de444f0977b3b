-- `groups::cut_by` meets its contract.
use Rattle.groups.proofs.Cuts.{left_cuts}
use Rattle.groups.proofs.cut_by.Goals as goal

pub returns : goal.returns
returns c group noted narrowed all = let left = c.left_by.ensures in
    left_cuts _ group c.args.word.now (c.chosen.ensures group noted narrowed) all _ _ left.len_value left.opened_value
