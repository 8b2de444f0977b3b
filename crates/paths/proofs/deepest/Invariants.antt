-- `paths::deepest` meets its contract: the deepest rule. The loop's invariant: the whole walk finds what the rest of
-- it finds, or else what was found so far.
use Prim.Native.Nat.{◌<◌, ◌^◌}
use mathlib.Core.Path.{◌≡◌}
use lib.ListN.{length, take}
use Rattle.std.specs.Slice.Iter.{iter_rest}
use Rattle.std.specs.Iterator.Adapters.{rev_source}
use Rattle.paper.specs.Letters.{inward}
use Rattle.paths.specs.Children.{nodes_in}
use Rattle.paths.specs.LettersLeft.{Left}
use Rattle.walks.specs.Walk.{deepest as deepest_of}
use Rattle.walks.specs.WalkSteps.{or_found}
use Rattle.paths.proofs.deepest.Given as goal

abbrev pub invariant-loop-letter : goal.invariant-loop-letter
invariant-loop-letter l =
    let rest = iter_rest (rev_source l.letter-iterator) in
    (deepest_of (nodes_in l.table) l.root (inward l.word)
    ≡ or_found (nodes_in l.table) l.at l.found (inward (take (length rest) l.word)))
    × (l.at < 2 ^ 62)
    × Left rest l.word
