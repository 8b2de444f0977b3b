use Prim.Native.Nat.{ℕ, ◌+◌, ◌-◌}
use mathlib.Core.Path.{◌≡◌, refl, sym, ap, ◌∙◌}
use native.Mathlib.Omega.{arith}
use lib.ListN.{length}
use Rattle.std.specs.Slice.Iter.{iter_rest}
use Rattle.std.specs.Iterator.Adapters.{rev_source}
use Rattle.paths.specs.Children.{nodes_in, sought}
use Rattle.paths.specs.ChildLaws.{named_none, named_some}
use Rattle.paths.specs.LettersLeft.{Last, all_left, one_passed, before_it, letter_step}
use Rattle.paths.specs.FollowLaws.{leads-nowhere}
use Rattle.walks.specs.WalkSteps.{LetterStep, reached_root, reached_on, reached_end}
use Rattle.judging.specs.FollowLaws.{at_node, first_behind, child_among}
use Rattle.judging.proofs.endings.follow.Goals as goal
use Rattle.judging.proofs.endings.follow.Goals.{After-among}

-- the letter that the iterator gave
last : (c : After-among)
    → Last (iter_rest (rev_source c.loop-letter.letter-iterator)) (iter_rest (rev_source c.next.new.self)) c.in-Some.letter.now
last c = record { is = c.in-Some.ensures.steps }

-- one letter further
step_of : (c : After-among) (next : ℕ)
    → (let first = c.from-first.result in
    next ≡ sought (first + c.from.result - first) c.args.table.now c.from-in-loop-letter.result first)
    → LetterStep (nodes_in c.args.table.now) c.args.ending.now c.loop-letter.at
    (length (iter_rest (rev_source c.loop-letter.letter-iterator))) c.from-in-loop-letter.result next
step_of c next found =
    letter_step c.loop-letter.invariant.2 (last c) c.from-in-loop-letter.ensures
    (child_among _ _ _ _ _ _ c.from-first.ensures (ap (λ (count : ℕ). c.from-first.result + count) c.from.ensures) found)

pub loop-letter-init : goal.loop-letter-init
loop-letter-init c = let a = c.args in
    let same : c.into_iter-letter-iterator.result.iter ≡ c.iter.result
    = ap rev_source c.into_iter-letter-iterator.ensures.into_iter_gives ∙ c.rev-letter-items.ensures.source in
    let all : iter_rest (rev_source c.into_iter-letter-iterator.result) ≡ a.ending.now = ap iter_rest same ∙ c.iter.ensures.rest in
    let there = reached_root (nodes_in a.table.now) a.root a.ending.now in
    (rw all there, at_node c.requires _ _ there, rw all (all_left a.ending.now))

pub among-requires : goal.among-requires
among-requires c = let turn = c.loop-letter in
    let node = turn.invariant.1 in
    let behind = first_behind c.requires _ turn.at turn.invariant.0 in
    let first = c.from-first.ensures in
    let count = c.from.ensures in
    (omega arith, (omega arith, (omega arith, λ more. omega (arith, behind))))

pub returns-in_err-at : goal.returns-in_err-at
returns-in_err-at c =
    let none = named_none c.among.ensures c.in_err-at.was in
    let step = step_of (goal.at.returns-in_err-at c).After-among 0 (sym none) in
    c.from_residual.ensures ∙ leads-nowhere _ _ _ _ (reached_end step c.args.root c.loop-letter.invariant.0 refl)

pub loop-letter-preserved : goal.loop-letter-preserved
loop-letter-preserved c = let now = c.loop-letter in
    let at = (goal.at.loop-letter-preserved c).After-among in
    let fewer : length (iter_rest (rev_source now.letter-iterator)) - 1 ≡ length (iter_rest (rev_source c.next.new.self))
    = omega (arith, before_it (last at)) in
    let next = named_some c.among.ensures c.in_ok-at.was in
    let there = rw fewer at (reached_on (step_of at _ next.0) c.args.root now.invariant.0 next.1) in
    (there, at_node c.requires _ _ there, one_passed now.invariant.2 (last at))
