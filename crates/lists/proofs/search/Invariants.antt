-- `lists::search` meets its contract. The loop's invariant: the search in the whole list is that in what is left.
use lib.ListN.{length}
use Rattle.lists.specs.Searching.{Left}
use Rattle.lists.proofs.search.Given as goal

abbrev pub invariant-loop-frame : goal.invariant-loop-frame
invariant-loop-frame l = Left l.list l.word l.rest

abbrev pub decreases-loop-frame : goal.decreases-loop-frame
decreases-loop-frame l = length l.rest
