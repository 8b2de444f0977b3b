-- The front of a noted word is noted by the same states.
use Rattle.paper.specs.Noted.{noted_part}
use Rattle.readings.proofs.noted.NotedWord.front.Goals as goal

pub invariant_of-result : goal.invariant_of-result
invariant_of-result c = let word = c.args.self in
    record { noted = noted_part word.letters.now word.states.now word.noted _ c.requires }
