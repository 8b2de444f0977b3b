use Rattle.std.specs.Prelude.{Some}
use mathlib.Core.Path.{sym, ap, ◌∙◌}
use native.Mathlib.Omega.{arith}
use Rattle.sheets.specs.SheetPlaces.{RuleNext, never-alone, rule_next}
use Rattle.tables.specs.TryLaws.{trying_over, trying_here, trying_next}
use Rattle.tables.proofs.runs.Group.pick.Goals as goal
use Rattle.tables.proofs.runs.Group.pick.Goals.{In-Rule}

-- a rule was passed, and this stands after it
rule-of : (c : In-Rule)
    → (let rule = c.in-Rule.rule in
    RuleNext c.loop-record.invariant.holds_here rule.condition rule.action rule.opens rule.start rule.middle rule.next)
rule-of c =
    rule_next c.loop-record.invariant.holds_here c.in-Rule.rule (sym c.pass.ensures ∙ (c.in-Some.is ∙ ap Some c.in-Rule.is))

-- no rule stands here
pub returns-in_default-record : goal.returns-in_default-record
returns-in_default-record c =
    trying_over c.loop-record.invariant c.in-Some.record (sym c.pass.ensures ∙ c.in-Some.is) c.in_default-record.not-Rule

pub overflow_add-number : goal.overflow_add-number
overflow_add-number c = let few = (rule-of (goal.at.overflow_add-number c).In-Rule).few in omega arith

pub slice_bounds-ending-count : goal.slice_bounds-ending-count
slice_bounds-ending-count c = (rule-of (goal.at.slice_bounds-ending-count c).In-Rule).facts.ending_ahead

pub slice_bounds-ending-start : goal.slice_bounds-ending-start
slice_bounds-ending-start c = (rule-of (goal.at.slice_bounds-ending-start c).In-Rule).facts.ending_ahead

pub slice_bounds-ending-end : goal.slice_bounds-ending-end
slice_bounds-ending-end c = let facts = (rule-of (goal.at.slice_bounds-ending-end c).In-Rule).facts in
    omega (arith, facts.replacement_ahead, facts.inside)

pub returns-then-obeys : goal.returns-then-obeys
returns-then-obeys c = let next = rule-of (goal.at.returns-then-obeys c).In-Rule in
    record { one = next.one; is_one = trying_here c.loop-record.invariant next c.obeys.ensures c.if-obeys.true; facts = next.facts }

pub loop-record-smaller : goal.loop-record-smaller
loop-record-smaller c = let next = rule-of (goal.at.loop-record-smaller c).In-Rule in omega (arith, next.forward, next.facts.inside)

pub loop-record-preserved : goal.loop-record-preserved
loop-record-preserved c = let next = rule-of (goal.at.loop-record-preserved c).In-Rule in
    trying_next c.loop-record.invariant next c.obeys.ensures c.if-obeys.false

pub returns : goal.returns
returns c = absurd (never-alone c.loop-record.invariant.holds_here (sym c.pass.ensures ∙ c.in_default.is))
