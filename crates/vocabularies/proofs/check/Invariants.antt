-- `vocabularies::check` meets its contract: at the loop's head the lines before what is left are of the form, and their first wrong one is
-- noted.
use Rattle.std.proofs.Common.{length}
use Rattle.vocabularies.specs.Passing.{State}
use Rattle.vocabularies.proofs.check.Given as goal

abbrev pub invariant-loop-rest : goal.invariant-loop-rest
invariant-loop-rest l = State l.list l.rest l.number l.first_wrong

abbrev pub decreases-loop-rest : goal.decreases-loop-rest
decreases-loop-rest l = length l.rest
