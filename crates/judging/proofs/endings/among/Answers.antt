use Prim.Native.Nat.{◌+◌, ◌-◌, ◌<◌}
use mathlib.Core.Path.{◌≡◌, sym, ◌∙◌}
use native.Mathlib.Omega.{arith}
use Rattle.std.specs.Prelude.{eqb}
use borrow.Author.Tests.{eqb-true, eqb-false, ne_eqb}
use Rattle.paper.specs.TestLaws.{by_test}
use Rattle.paths.specs.Children.{letter}
use Rattle.paths.specs.ChildLaws.{sought_here, sought-past, sought_next, sought-over}
use Rattle.judging.proofs.endings.among.Goals as goal

pub returns-then-letter-here : goal.returns-then-letter-here
returns-then-letter-here c = let turn = c.loop-at in
    let a = c.args in
    let here = c.from-here.ensures in
    by_test (eqb a.letter c.from-here.result)
    (λ p.
    let found = sym (sought_here (a.end - turn.at) _ _ _ (omega arith) (eqb-true _ _ p ∙ here)) ∙ turn.invariant in
    rw (← found) (c.then_some.ensures ∙ rw (p, ne_eqb turn.at 0 (λ zero. omega arith))))
    (λ p.
    let past = sym (sought-past (a.end - turn.at) _ _ _ (omega (arith, eqb-false _ _ p, here))) ∙ turn.invariant in
    rw (← past) (c.then_some.ensures ∙ rw p))

pub loop-at-preserved : goal.loop-at-preserved
loop-at-preserved c = let turn = c.loop-at in
    let a = c.args in
    let fewer : a.end - turn.at - 1 ≡ a.end - (turn.at + 1) = omega arith in
    let less : letter a.table.now turn.at < a.letter = omega (arith, c.from-here.ensures) in
    rw (← fewer) (sym (sought_next (a.end - turn.at) _ _ _ (omega arith) less) ∙ turn.invariant)

pub returns : goal.returns
returns c =
    let none = sym (sought-over _ _ _ _ (omega arith)) ∙ c.loop-at.invariant in
    rw (← none)
