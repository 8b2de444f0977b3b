-- `translations::looks::note` meets its contract, case by case.
use mathlib.Core.Path.{◌≡◌, refl, sym, ◌∙◌}
use mathlib.Core.Bool.{true}
use borrow.Author.Tests.{not-true, not-false}
use Rattle.paper.specs.Groups.{ends_with}
use Rattle.translations.specs.EndingLaws.{noted_short, noted_other, noted_low, noted_kept, noted_new}
use Rattle.translations.proofs.looks.note.Goals as goal
use Rattle.translations.proofs.looks.note.Goals.{Else-not-ends_with}

-- the ending ends with the tail
ends_of : (c : Else-not-ends_with)
    → (let a = c.args in ends_with a.ending.now a.tail.now ≡ true)
ends_of c = sym c.ends_with.ensures ∙ not-false _ c.if-not-ends_with.false-raw

pub returns-then-ending-long : goal.returns-then-ending-long
returns-then-ending-long c = let a = c.args in
    noted_short a.ending.now a.end a.tail.now a.ends.now c.if-ending-long.true

pub returns-then-not-ends_with : goal.returns-then-not-ends_with
returns-then-not-ends_with c = let a = c.args in
    noted_other a.ending.now a.end a.tail.now a.ends.now c.if-ending-long.false
    (sym c.ends_with.ensures ∙ not-true _ c.if-not-ends_with.true-raw)

pub returns-then-letter-lt97 : goal.returns-then-letter-lt97
returns-then-letter-lt97 c = let a = c.args in
    noted_low a.ending.now a.end a.tail.now a.ends.now c.if-ending-long.false (ends_of (goal.at.returns-then-letter-lt97 c).Else-not-ends_with) _ c.from-letter.ensures
    c.if-letter-lt97.true

pub returns-then-number_at-eq0 : goal.returns-then-number_at-eq0
returns-then-number_at-eq0 c = let a = c.args in
    noted_new a.ending.now a.end a.tail.now a.ends.now c.if-ending-long.false (ends_of (goal.at.returns-then-number_at-eq0 c).Else-not-ends_with) _ c.from-letter.ensures
    _ refl c.if-letter-lt97.false (sym c.number_at.ensures.0 ∙ c.if-number_at-eq0.true) _
    c.put.ensures

pub returns-else-number_at-eq0 : goal.returns-else-number_at-eq0
returns-else-number_at-eq0 c = let a = c.args in
    noted_kept a.ending.now a.end a.tail.now a.ends.now c.if-ending-long.false (ends_of (goal.at.returns-else-number_at-eq0 c).Else-not-ends_with) _ c.from-letter.ensures
    _ refl c.if-letter-lt97.false (λ free. c.if-number_at-eq0.false (c.number_at.ensures.0 ∙ free))
