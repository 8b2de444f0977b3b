-- `groups::choosing::chosen` meets its contract: the first rule that ends the word decides the group.
use mathlib.Core.Path.{sym, ◌∙◌}
use Rattle.groups.proofs.Endings.{asks_noted}
use Rattle.groups.proofs.Found.{chooses_none, chooses}
use Rattle.groups.proofs.choosing.chosen.Goals as goal

pub returns-in_default : goal.returns-in_default
returns-in_default c group noted narrowed =
    chooses_none _ group _ _ _ narrowed (rw c.in_default.is at c.fitting.ensures)

pub returns-then-allowed : goal.returns-then-allowed
returns-then-allowed c group noted narrowed = let row = c.in-Some.row in
    chooses _ group _ _ _ narrowed row (rw c.in-Some.is at c.fitting.ensures)
    (sym (asks_noted row.rules.now row.rule _ _ noted) ∙ sym c.allowed.ensures ∙ c.if-allowed.true)

pub returns-else-allowed : goal.returns-else-allowed
returns-else-allowed c group noted narrowed = let row = c.in-Some.row in
    chooses _ group _ _ _ narrowed row (rw c.in-Some.is at c.fitting.ensures)
    (sym (asks_noted row.rules.now row.rule _ _ noted) ∙ sym c.allowed.ensures ∙ c.if-allowed.false)
