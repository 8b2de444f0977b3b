-- `groups::cut_free` meets its contract.
use Rattle.groups.proofs.Cuts.{left_cuts}
use Rattle.groups.proofs.Found.{found-free}
use Rattle.groups.proofs.cut_free.Goals as goal

pub returns : goal.returns
returns c group narrowed free all = let left = c.left_by.ensures in
    let picks = found-free _ group c.args.to _ narrowed free _ c.fitting.ensures in
    (left_cuts _ group c.args.word.now picks all _ _ left.len_value left.opened_value).cut
