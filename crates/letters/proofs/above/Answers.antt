use Prim.Native.Nat.{◌+◌}
use borrow.Author.Tests.{lt-ltb}
use native.Mathlib.Omega.{arith}
use mathlib.Core.Path.{sym}
use Rattle.paper.specs.States.{state as state_of}
use Rattle.letters.proofs.Steps.{step_gives, state_passed}
use Rattle.letters.proofs.above.Goals as goal

pub returns-then-k-s : goal.returns-then-k-s
returns-then-k-s c = let at = c.loop-letter in
    let ran = c.step-s in
    let part = c.args.part.now in
    let passing = step_gives part at.s ran.result at.letter-index (omega arith) at.invariant.0
    ran.ensures.state_bound ran.ensures.by_index in
    let more = state_passed part ran.result (at.letter-index + 1) passing in
    sym (lt-ltb c.args.k (state_of part) (omega (arith, c.if-k-s.true, more)))
