use Prim.Native.Nat.{◌+◌, ◌-◌, ◌<◌}
use mathlib.Core.Path.{◌≡◌, sym, ◌∙◌}
use native.Mathlib.Omega.{arith}
use borrow.Author.Tests.{ne_eqb}
use Rattle.paper.specs.ListLaws.{so_many}
use Rattle.paths.specs.Children.{letter, child as child_of}
use Rattle.paths.specs.ChildLaws.{child_beyond, sought_here, sought-past, sought_next, sought-over, named_as}
use Rattle.paths.proofs.child.Goals as goal
use Rattle.paths.proofs.child.Goals.{then-letter-here-2, else-letter-here-2}

-- no node is there
pub returns-then-table-parent-clause-value : goal.returns-then-table-parent-clause-value
returns-then-table-parent-clause-value c = rw (child_beyond c.args.table.now c.args.parent c.args.letter c.if-table-parent.true)

pub loop-at-init : goal.loop-at-init
unfolding child_of
loop-at-init c = rw (so_many c.number_at-first.result c.number_at-count.result, c.number_at-first.ensures.0, c.number_at-count.ensures.0)

pub returns-then-letter-here-clause-value : goal.returns-then-letter-here-clause-value
returns-then-letter-here-clause-value c = let turn = c.loop-at in
    let here = c.number_at-here.ensures.0 in
    elim c.if-letter-here-2.branch [
      | then-letter-here-2 w ↦
          let found = sym (sought_here _ _ _ _ (omega arith) (w.if-letter-here-2.true ∙ here)) ∙ turn.invariant in
          rw (← found) (c.then_some.ensures ∙ rw w.then_some-is (named_as turn.at))
      | else-letter-here-2 w ↦
          let past = sym (sought-past _ _ _ _ (omega (arith, c.if-letter-here.true, w.if-letter-here-2.false, here))) ∙ turn.invariant in
          rw (← past) (c.then_some.ensures ∙ rw (w.then_some-is, ne_eqb c.args.letter c.number_at-here.result w.if-letter-here-2.false))
    ]

pub loop-at-preserved : goal.loop-at-preserved
loop-at-preserved c = let turn = c.loop-at in
    let count = c.number_at-first.result + c.number_at-count.result - turn.at in
    let fewer : count - 1 ≡ c.number_at-first.result + c.number_at-count.result - (turn.at + 1) = omega arith in
    let less : letter c.args.table.now turn.at < c.args.letter = omega (arith, c.if-letter-here.false, c.number_at-here.ensures.0) in
    rw (← fewer) (sym (sought_next count c.args.table.now c.args.letter turn.at (omega arith) less) ∙ turn.invariant)

pub returns-clause-value : goal.returns-clause-value
returns-clause-value c =
    let none = sym (sought-over _ _ _ _ (omega arith)) ∙ c.loop-at.invariant in
    rw (← none)
