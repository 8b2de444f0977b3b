use native.Mathlib.Omega.{arith}
use mathlib.Core.Path.{◌≡◌, ◌∙◌}
use mathlib.Core.Bool.{false, beq}
use borrow.Author.Tests.{not-true, not-false}
use lib.ListN.{length, get_or}
use Rattle.paper.specs.Noted.{next_state}
use Rattle.pieces.specs.FirstOther.{below-found, above_found, sought_more, none_found}
use Rattle.letters.proofs.Steps.{next_by_class, next_odd}
use Rattle.letters.proofs.Writes.{writing_more, noted_is, noted_not}
use Rattle.letters.proofs.note.Goals as goal
use Rattle.letters.proofs.note.Goals.{else-now-vowel, then-now-vowel}

pub returns-then-states-word : goal.returns-then-states-word
returns-then-states-word c = let a = c.args in
    record {
      value = c.first_other.ensures;
      states_after = noted_not a.word.now a.states.now c.if-states-word.true;
    }

pub returns-then-letter-lt97 : goal.returns-then-letter-lt97
returns-then-letter-lt97 c = let at = c.loop-i in
    let a = c.args in
    let word = a.word.now in
    let first = below-found word at.i at.invariant.2 (omega arith) c.if-letter-lt97.true in
    record {
      value = first;
      states_after = noted_is word a.states.now at.states at.state at.consonant at.i at.invariant.0 at.invariant.3 first at.invariant.1;
    }

pub returns-then-letter-gt122 : goal.returns-then-letter-gt122
returns-then-letter-gt122 c = let at = c.loop-i in
    let a = c.args in
    let word = a.word.now in
    let first = above_found word at.i at.invariant.2 (omega arith) c.if-letter-gt122.true in
    record {
      value = first;
      states_after = noted_is word a.states.now at.states at.state at.consonant at.i at.invariant.0 at.invariant.3 first at.invariant.1;
    }

pub loop-i-preserved : goal.loop-i-preserved
loop-i-preserved c = let class = c.vowel_after-now in
    let at = c.loop-i in
    let a = c.args in
    let word = a.word.now in
    let letter = get_or word at.i 0 in
    let more = sought_more word at.i at.invariant.2 (omega arith) c.if-letter-lt97.false c.if-letter-gt122.false in
    let by-class = next_by_class at.consonant at.vowel class.result at.state letter at.invariant.4 class.ensures in
    let same = beq class.result at.vowel in
    let next : c.if-now-vowel.state ≡ next_state at.consonant at.state letter =
    elim c.if-now-vowel.branch [
      | then-now-vowel w ↦ w.state-is ∙ (rw (not-true same w.if-now-vowel.true) at by-class)
      | else-now-vowel w ↦ w.state-is ∙ (rw (not-false same w.if-now-vowel.false) at by-class)
    ] in
    let odd-next = next_odd at.consonant at.vowel class.result at.state letter at.invariant.4 class.ensures _ next in
    let wrote = writing_more word a.states.now 0 false 0 at.invariant.0 at.states at.state at.consonant at.i
    c.if-now-vowel.state at.invariant.3 (omega arith) next in
    (at.invariant.0, at.invariant.1, more, rw odd-next wrote, odd-next)

pub returns : goal.returns
returns c = let at = c.loop-i in
    let a = c.args in
    let word = a.word.now in
    let all : length word ≡ at.i = omega arith in
    let first = none_found word at.i at.invariant.2 (omega arith) in
    record {
      value = all ∙ first;
      states_after = noted_is word a.states.now at.states at.state at.consonant at.i at.invariant.0 at.invariant.3 first at.invariant.1;
    }
