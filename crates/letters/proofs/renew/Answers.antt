use Prim.Native.Nat.{◌+◌, ◌-◌}
use native.Mathlib.Omega.{arith}
use mathlib.Core.Bool.{and-false}
use borrow.Author.Tests.{le-ltb, lt-leb}
use lib.ListN.{length, get_or}
use Rattle.letters.specs.Notes.{renewed}
use Rattle.letters.proofs.Steps.{next_most}
use Rattle.letters.proofs.Writes.{writing_none, writing_more, renewed_is}
use Rattle.letters.proofs.renew.Goals as goal

pub returns-then-word-from : goal.returns-then-word-from
unfolding renewed
returns-then-word-from c = let a = c.args in rw (lt-leb a.from (length a.word.now) c.if-word-from.true)

pub returns-then-states-word : goal.returns-then-states-word
unfolding renewed
returns-then-states-word c = let a = c.args in
    rw (le-ltb (length a.word.now) (length a.states.now) c.if-states-word.true, and-false)

pub returns-then-state-word-gt255 : goal.returns-then-state-word-gt255
unfolding renewed
returns-then-state-word-gt255 c = let a = c.args in
    let most = get_or a.states.now a.from 0 + (length a.word.now - a.from) in
    rw (lt-leb most 255 (omega (arith, c.from-state.ensures, c.if-state-word-gt255.true)), and-false, and-false)

pub loop-i-init : goal.loop-i-init
loop-i-init c = let a = c.args in
    (omega arith, omega arith, rw (← c.from-state.ensures) (writing_none a.word.now a.states.now a.from _ _ (omega arith)))

pub overflow_cast-states : goal.overflow_cast-states
overflow_cast-states c = let at = c.loop-i in
    omega (arith, next_most at.consonant at.state (get_or c.args.word.now at.i 0))

pub loop-i-preserved : goal.loop-i-preserved
loop-i-preserved c = let at = c.loop-i in
    let a = c.args in
    let wrote = writing_more a.word.now a.states.now a.from _ _ at.invariant.0 at.states at.state at.consonant at.i
    c.next_state-state.result at.invariant.2 (omega arith) c.next_state-state.ensures in
    (at.invariant.0, at.invariant.1, wrote)

pub returns : goal.returns
returns c = let at = c.loop-i in
    let a = c.args in
    renewed_is a.word.now a.states.now at.states at.state at.consonant at.i at.invariant.0 a.from at.invariant.2
    (omega arith) at.invariant.1
