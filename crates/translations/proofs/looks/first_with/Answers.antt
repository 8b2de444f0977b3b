-- `translations::looks::first_with` meets its contract, case by case.
use mathlib.Core.Path.{sym, ◌∙◌}
use borrow.Author.Tests.{eq-eqb, ne_eqb}
use Rattle.paper.specs.GroupsLaws.{same_long}
use Rattle.translations.specs.EndingLaws.{same_ends}
use Rattle.translations.proofs.looks.first_with.Goals as goal

pub returns-then-rule-ne0 : goal.returns-then-rule-ne0
returns-then-rule-ne0 c = rw (ne_eqb _ 0 c.if-rule-ne0.true)

pub returns-then-ending-tail : goal.returns-then-ending-tail
returns-then-ending-tail c = rw (eq-eqb _ 0 c.if-rule-ne0.false, same_long _ _ c.if-ending-tail.true)

pub returns-then-ends_with : goal.returns-then-ends_with
returns-then-ends_with c = rw (
  eq-eqb _ 0 c.if-rule-ne0.false,
  same_ends _ _ c.if-ending-tail.false,
  sym c.ends_with.ensures ∙ c.if-ends_with.true,
)

pub returns-else-ends_with : goal.returns-else-ends_with
returns-else-ends_with c = rw (
  eq-eqb _ 0 c.if-rule-ne0.false,
  same_ends _ _ c.if-ending-tail.false,
  sym c.ends_with.ensures ∙ c.if-ends_with.false,
)
