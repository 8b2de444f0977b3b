-- `vocabularies::line` meets its contract: letters before a space, at least one, and letters before a line feed behind it.
use Rattle.std.proofs.Common.{◌≡◌, ◌+◌, Some, drop, sym, ap, ◌∙◌, arith}
use Rattle.paper.specs.ListLaws.{to_the_end}
use Rattle.vocabularies.specs.Reading.{letters_before}
use Rattle.vocabularies.specs.ReadingLaws.{letters_here, no_space, no_word, by_stem_lem}
use Rattle.vocabularies.proofs.line.Goals as goal
use Rattle.vocabularies.proofs.line.Goals.{After-letters_before-2, In_ok-word}

first : (c : In_ok-word) → letters_before 32 c.args.rest.now ≡ Some c.in_ok-word.word
first c = sym c.in_ok-word.ensures

-- what was asked of the part that was lent, said of the rest of the bytes
second : (c : After-letters_before-2)
    → letters_before 10 (drop (c.in_ok-word.word + 1) c.args.rest.now) ≡ c.letters_before-2.result
second c = ap (letters_before 10) (sym (to_the_end c.args.rest.now (c.in_ok-word.word + 1))) ∙ sym c.letters_before-2.ensures

pub returns-in_err-word : goal.returns-in_err-word
returns-in_err-word c = rw c.from_residual.ensures (sym (no_space _ (sym c.in_err-word.ensures)))

pub returns-then-word-eq0 : goal.returns-then-word-eq0
returns-then-word-eq0 c = sym (no_word _ (first (goal.at.returns-then-word-eq0 c).In_ok-word) c.if-word-eq0.true)

pub overflow_add-word : goal.overflow_add-word
overflow_add-word c = omega (arith, (letters_here 32 _ _ (first (goal.at.overflow_add-word c).In_ok-word)).inside)

pub slice_bounds-letters_before-count : goal.slice_bounds-letters_before-count
slice_bounds-letters_before-count c =
    omega (arith, (letters_here 32 _ _ (first (goal.at.slice_bounds-letters_before-count c).In_ok-word)).inside)

pub slice_bounds-letters_before-start : goal.slice_bounds-letters_before-start
slice_bounds-letters_before-start c =
    omega (arith, (letters_here 32 _ _ (first (goal.at.slice_bounds-letters_before-start c).In_ok-word)).inside)

pub returns-in_err-stem : goal.returns-in_err-stem
returns-in_err-stem c =
    let at = goal.at.returns-in_err-stem c in
    rw c.from_residual-in_err-stem.ensures
    (sym (by_stem_lem _ (first at.In_ok-word) c.if-word-eq0.false _ (second at.After-letters_before-2 ∙ c.in_err-stem.was)))

pub returns : goal.returns
returns c =
    let at = goal.at.returns c in
    sym (by_stem_lem _ (first at.In_ok-word) c.if-word-eq0.false _ (second at.After-letters_before-2 ∙ c.in_ok-stem.was))
