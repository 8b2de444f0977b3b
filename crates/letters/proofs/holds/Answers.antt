-- `letters::holds` meets its contract; without a last letter l condition 8 does not hold.
use borrow.Author.Tests.{ne_eqb}
use mathlib.Core.Path.{sym, ◌∙◌}
use mathlib.Core.Bool.{and-false}
use Rattle.paper.specs.Conditions.{last_is, conditions, holds}
use Rattle.paper.specs.States.{above_from, vowel_from_1, holds_by_states}
use Rattle.letters.proofs.holds.Goals as goal

pub returns-then-letter_at-ne108 : goal.returns-then-letter_at-ne108
unfolding holds conditions last_is
returns-then-letter_at-ne108 c = let no-l = ne_eqb _ _ c.if-letter_at-ne108.true in
    rw c.if-condition-eq8.true (simp (← c.letter_at.ensures, no-l, and-false))

pub returns-in-0 : goal.returns-in-0
unfolding holds conditions last_is
returns-in-0 c = rw c.in-0.is

pub returns-in-1 : goal.returns-in-1
unfolding holds conditions last_is
returns-in-1 c = rw c.in-1.is (c.above.ensures ∙ sym (above_from 0 _))

pub returns-in-2 : goal.returns-in-2
unfolding holds conditions last_is
returns-in-2 c = rw c.in-2.is (c.above-in-2.ensures ∙ sym (above_from 1 _))

pub returns-in-3 : goal.returns-in-3
unfolding holds conditions last_is
returns-in-3 c = rw c.in-3.is (c.above-in-3.ensures ∙ sym (vowel_from_1 _))

pub returns-else-condition-eq8 : goal.returns-else-condition-eq8
returns-else-condition-eq8 c = let a = c.args in
    cc (holds_by_states a.condition a.part.now)
