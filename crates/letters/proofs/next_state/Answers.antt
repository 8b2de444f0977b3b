-- `letters::next_state` meets its contract: the class is another where the two tests differ.
use mathlib.Core.Path.{refl}
use Rattle.letters.proofs.Steps.{next_by_class}
use Rattle.letters.proofs.next_state.Goals as goal

pub returns-then-vowel_after-state : goal.returns-then-vowel_after-state
returns-then-vowel_after-state c = let a = c.args in
    let class = c.vowel_after in
    rw c.if-vowel_after-state.true at (next_by_class a.consonant _ class.result a.state a.letter refl class.ensures)

pub returns : goal.returns
returns c = let a = c.args in
    let class = c.vowel_after in
    rw c.if-vowel_after-state.false at (next_by_class a.consonant _ class.result a.state a.letter refl class.ensures)
