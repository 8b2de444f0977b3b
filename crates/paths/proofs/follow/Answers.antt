use Prim.Native.Nat.{ℕ, ◌-◌}
use mathlib.Core.Path.{◌≡◌, refl, sym, ap, ◌∙◌}
use native.Mathlib.Omega.{arith}
use lib.ListN.{length}
use Rattle.std.specs.Slice.Iter.{iter_rest}
use Rattle.std.specs.Iterator.Adapters.{rev_source}
use Rattle.paths.specs.Children.{nodes_in, child as child_of}
use Rattle.paths.specs.ChildLaws.{named_none, named_some}
use Rattle.paths.specs.LettersLeft.{Last, all_left, one_passed, before_it, letter_step}
use Rattle.walks.specs.WalkSteps.{LetterStep, reached_root, reached_on, reached_end}
use Rattle.paths.specs.FollowLaws.{leads-nowhere}
use Rattle.paths.proofs.follow.Goals as goal
use Rattle.paths.proofs.follow.Goals.{After-child}

-- the letter that the iterator gave
last : (c : After-child)
    → Last (iter_rest (rev_source c.loop-letter.letter-iterator)) (iter_rest (rev_source c.next.new.self)) c.in-Some.letter.now
last c = record { is = c.in-Some.ensures.steps }

-- one letter further
step_of : (c : After-child) (next : ℕ) → next ≡ child_of c.args.table.now c.loop-letter.at c.from.result
    → LetterStep (nodes_in c.args.table.now) c.args.ending.now c.loop-letter.at
    (length (iter_rest (rev_source c.loop-letter.letter-iterator))) c.from.result next
step_of c next stepped = letter_step c.loop-letter.invariant.2 (last c) c.from.ensures stepped

pub loop-letter-init : goal.loop-letter-init
loop-letter-init c = let a = c.args in
    let same : c.into_iter-letter-iterator.result.iter ≡ c.iter.result
    = ap rev_source c.into_iter-letter-iterator.ensures.into_iter_gives ∙ c.rev-letter-items.ensures.source in
    let all : iter_rest (rev_source c.into_iter-letter-iterator.result) ≡ a.ending.now = ap iter_rest same ∙ c.iter.ensures.rest in
    (rw all (reached_root (nodes_in a.table.now) a.root a.ending.now), λ low. low, rw all (all_left a.ending.now))

pub returns-in_err-at-clause-value : goal.returns-in_err-at-clause-value
returns-in_err-at-clause-value c =
    let none = named_none c.child.ensures.value c.in_err-at.was in
    let step = step_of (goal.at.returns-in_err-at-clause-value c).After-child 0 (sym none) in
    c.from_residual.ensures ∙ leads-nowhere _ _ _ _ (reached_end step c.args.root c.loop-letter.invariant.0 refl)

pub loop-letter-preserved : goal.loop-letter-preserved
loop-letter-preserved c = let now = c.loop-letter in
    let at = (goal.at.loop-letter-preserved c).After-child in
    let next = named_some c.child.ensures.value c.in_ok-at.was in
    let fewer : length (iter_rest (rev_source now.letter-iterator)) - 1 ≡ length (iter_rest (rev_source c.next.new.self))
    = omega (arith, before_it (last at)) in (
      rw (← fewer) (reached_on (step_of at _ next.0) c.args.root now.invariant.0 next.1),
      λ low. omega (arith, c.in_ok-at.ensures.upper_bound),
      one_passed now.invariant.2 (last at),
    )
