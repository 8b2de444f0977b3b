-- `judging::endings::follow` meets its contract. The loop's invariant: the letters passed lead to this node, which is inside the table
-- with its children.
use mathlib.Core.Path.{◌≡◌}
use mathlib.Core.Option.{some}
use lib.ListN.{length, drop}
use Rattle.std.specs.Slice.Iter.{iter_rest}
use Rattle.std.specs.Iterator.Adapters.{rev_source}
use Rattle.paths.specs.Children.{nodes_in}
use Rattle.paths.specs.LettersLeft.{Left}
use Rattle.walks.specs.Walk.{reached}
use Rattle.judging.specs.FollowLaws.{At}
use Rattle.judging.proofs.endings.follow.Given as goal

abbrev pub invariant-loop-letter : goal.invariant-loop-letter
invariant-loop-letter l =
    let rest = iter_rest (rev_source l.letter-iterator) in
    (reached (nodes_in l.table) l.root (drop (length rest) l.ending) ≡ some l.at) × At l.table l.at 1552 × Left rest l.ending
