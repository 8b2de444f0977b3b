use native.Mathlib.Omega.{arith}
use Rattle.forests.specs.ShapeSteps.{many_roots, lettered_root, at_first, all_seen, leaf-astray, too_far, astray, falling, leaf, parent}
use Rattle.forests.proofs.shape_of.Goals as goal
use Rattle.forests.proofs.shape_of.Goals.{then-count-eq0+else-first-ne0, else-count-eq0+else-most-end+else-first-next+else-not-rising}

pub returns-then-most-roots : goal.returns-then-most-roots
returns-then-most-roots c = many_roots _ _ c.most_nodes-most.ensures c.if-most-roots.true

pub returns-then-not-roots_bare : goal.returns-then-not-roots_bare
returns-then-not-roots_bare c = lettered_root _ _ (rw c.if-not-roots_bare.true at c.roots_bare.ensures)

pub loop-i-init : goal.loop-i-init
loop-i-init c = at_first _ _ _ c.if-most-roots.false

pub returns-then-first-ne0 : goal.returns-then-first-ne0
returns-then-first-ne0 c = leaf-astray c.loop-i.invariant c.loop-i-test.true
    (rw c.from-count.ensures at c.if-count-eq0.true) (rw c.from-first.ensures at c.if-first-ne0.true)

pub returns-then-most-end : goal.returns-then-most-end
returns-then-most-end c = too_far c.loop-i.invariant c.loop-i-test.true c.most_nodes-most.ensures
    (rw c.from-count.ensures at c.if-most-end.true)

pub returns-then-first-next : goal.returns-then-first-next
returns-then-first-next c = astray c.loop-i.invariant c.loop-i-test.true
    (rw c.from-count.ensures at c.if-count-eq0.false) (rw c.from-first.ensures at c.if-first-next.true)

pub rising-requires : goal.rising-requires
rising-requires c = record { first_lt_end = omega (arith, c.if-count-eq0.false); end_in_bounds = omega arith }

pub returns-then-not-rising : goal.returns-then-not-rising
returns-then-not-rising c = let falls = rw c.if-not-rising.true at c.rising.ensures in
    falling c.loop-i.invariant c.loop-i-test.true (rw c.from-count.ensures at falls)

pub loop-i-preserved : goal.loop-i-preserved
loop-i-preserved c = let so_far = c.loop-i.invariant in
    let here = c.loop-i-test.true in
    let bare = rw c.if-not-roots_bare.false at c.roots_bare.ensures in
    elim c.if-count-eq0.branch [
      | then-count-eq0+else-first-ne0 w ↦ rw w.next-is
          (leaf so_far here bare (rw c.from-count.ensures at w.if-count-eq0.true) (rw c.from-first.ensures at w.if-first-ne0.false))
      | else-count-eq0+else-most-end+else-first-next+else-not-rising w ↦
          let rises = rw w.if-not-rising.false at w.rising.ensures in
          rw (w.next-is, c.from-count.ensures)
          (parent so_far here bare (rw c.from-count.ensures at w.if-count-eq0.false) (rw c.from-count.ensures at w.if-most-end.false)
          (rw c.from-first.ensures at w.if-first-next.false) (rw c.from-count.ensures at rises))
    ]

pub returns : goal.returns
returns c = all_seen c.loop-i.invariant c.most_nodes-most.ensures c.loop-i-test.false
