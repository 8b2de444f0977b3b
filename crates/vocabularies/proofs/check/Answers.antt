use Rattle.std.proofs.Common.{ℕ, ◌≡◌, ◌<◌, false, eqb, ◌≤◌, ok_or, Option, Some, None, Ok, Err, length, refl, sym, ◌∙◌, arith}
use Rattle.std.proofs.lemmas.Result.{err_from_is_err_and}
use borrow.Author.Tests.{eqb-true, eqb-false}
use Rattle.paper.specs.ListLaws.{to_the_end, so_many}
use Rattle.answers.proofs.Found.{some_found, none_found}
use Rattle.vocabularies.specs.Reading.{found_in, size}
use Rattle.vocabularies.specs.Passing.{starts, not_of_form, word_long, word_taken, line_inside, next, all_passed}
use Rattle.vocabularies.proofs.check.Goals as goal
use Rattle.vocabularies.proofs.check.Goals.{In_ok-found}

some_left : {n : ℕ} → false ≡ eqb n 0 → 0 < n
some_left {n = n} is = let some = eqb-false n 0 (sym is) in omega arith

-- the line that was found
line : (c : In_ok-found) → found_in c.loop-rest.rest.now ≡ Some c.in_ok-found.found
line c = sym c.line.ensures ∙ some_found c.line.result _ (sym c.in_ok-found.ensures.value)

inside : (c : In_ok-found) → size c.in_ok-found.found.word c.in_ok-found.found.stem ≤ length c.loop-rest.rest.now
inside c = line_inside c.loop-rest.invariant _ _ (line c)

pub loop-rest-init : goal.loop-rest-init
loop-rest-init c = starts _

pub returns-in_err-found : goal.returns-in_err-found
returns-in_err-found c =
    let p = err_from_is_err_and c.from_residual.result c.from_residual.ensures.1 in
    let none = none_found c.line.result _ (sym c.in_err-found.ensures.value) in
    rw (p.1, p.2, none.1) (not_of_form c.loop-rest.invariant (some_left c.loop-rest-test.ensures) (sym c.line.ensures ∙ none.0))

pub overflow_add-end : goal.overflow_add-end
overflow_add-end c = omega (arith, inside (goal.at.overflow_add-end c).In_ok-found)

pub overflow_add-end-in-loop-rest : goal.overflow_add-end-in-loop-rest
overflow_add-end-in-loop-rest c = omega (arith, inside (goal.at.overflow_add-end-in-loop-rest c).In_ok-found)

pub slice_bounds-noted-end : goal.slice_bounds-noted-end
slice_bounds-noted-end c = word_long c.loop-rest.invariant _ _ (line (goal.at.slice_bounds-noted-end c).In_ok-found)

pub overflow_add-found : goal.overflow_add-found
overflow_add-found c = omega (arith, inside (goal.at.overflow_add-found c).In_ok-found)

pub slice_bounds-noted-end-in-loop-rest : goal.slice_bounds-noted-end-in-loop-rest
slice_bounds-noted-end-in-loop-rest c = omega (arith, inside (goal.at.slice_bounds-noted-end-in-loop-rest c).In_ok-found)

pub noted-first_wrong-requires : goal.noted-first_wrong-requires
noted-first_wrong-requires c = word_taken c.loop-rest.invariant _ _ (line (goal.at.noted-first_wrong-requires c).In_ok-found)

pub overflow_add-rest : goal.overflow_add-rest
overflow_add-rest c = omega (arith, inside (goal.at.overflow_add-rest c).In_ok-found)

pub slice_bounds-rest-count : goal.slice_bounds-rest-count
slice_bounds-rest-count c = omega (arith, inside (goal.at.slice_bounds-rest-count c).In_ok-found)

pub slice_bounds-rest-start : goal.slice_bounds-rest-start
slice_bounds-rest-start c = omega (arith, inside (goal.at.slice_bounds-rest-start c).In_ok-found)

pub loop-rest-preserved : goal.loop-rest-preserved
loop-rest-preserved c =
    let is = rw so_many at c.noted-first_wrong.ensures in
    rw (to_the_end, is) (next c.loop-rest.invariant _ _ (line (goal.at.loop-rest-preserved c).In_ok-found))

pub returns : goal.returns
returns c = rw c.unwrap_or.ensures (all_passed c.loop-rest.invariant (eqb-true _ 0 (sym c.loop-rest-test.ensures)))
