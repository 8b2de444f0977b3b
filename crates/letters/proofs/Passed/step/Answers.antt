-- `letters::Passed::step` meets its contract: the state is the next one, and the others move on.
use native.Mathlib.Omega.{arith}
use Rattle.letters.proofs.Steps.{next_most, one_more}
use Rattle.letters.proofs.Passed.step.Goals as goal

pub returns : goal.returns
returns c = let a = c.args in
    let next = c.next_state-state in
    record {
      state_bound = omega (arith, next.ensures, next_most a.self.consonant a.self.state a.letter);
      by_index = λ part h. one_more part a.self h a.letter next.result next.ensures;
    }
