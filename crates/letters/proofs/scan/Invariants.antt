-- `letters::scan` meets its contract: at the loop's head the numbers are those of the letters passed.
use Rattle.letters.proofs.Steps.{Passing}
use Rattle.letters.proofs.scan.Given as goal

abbrev pub invariant-loop-letter : goal.invariant-loop-letter
invariant-loop-letter l = Passing l.part l.s l.letter-index
