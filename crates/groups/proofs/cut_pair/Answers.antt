-- `groups::cut_pair` meets its contract.
use Rattle.groups.proofs.Cuts.{left_cuts}
use Rattle.groups.proofs.cut_pair.Goals as goal

pub returns : goal.returns
returns c group noted paired all = let left = c.left_by.ensures in
    (left_cuts _ group c.args.word.now (c.chosen_pair.ensures group noted paired) all _ _ left.len_value left.opened_value).cut
