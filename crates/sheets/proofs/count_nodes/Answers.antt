use Rattle.std.specs.Prelude.{◌≡◌, ◌-◌, Some, length, take, drop}
use mathlib.Core.Path.{sym, ap, ◌∙◌}
use native.Mathlib.Omega.{arith}
use Rattle.sheets.specs.SheetPlaces.{GroupNext, RuleNext, never-alone, group_next, rule_next}
use Rattle.sheets.specs.NodeLaws.{counting-start, counting_end, counting_group, shared_short, counting_rule}
use Rattle.sheets.proofs.count_nodes.Goals as goal
use Rattle.sheets.proofs.count_nodes.Goals.{In-Group, In-Rule}

-- a group was passed, and this stands after it
group_of : (c : In-Group)
    → (GroupNext c.loop-record.invariant.1.holds c.in-Group.gate c.in-Group.next)
group_of c =
    group_next c.loop-record.invariant.1.holds
    (sym c.pass.ensures ∙ (c.in-Some.is ∙ ap Some c.in-Group.is))

-- a rule was passed
rule-of : (c : In-Rule)
    → (let rule = c.in-Rule.rule in
    RuleNext c.loop-record.invariant.1.holds rule.condition rule.action rule.opens rule.start rule.middle rule.next)
rule-of c =
    rule_next c.loop-record.invariant.1.holds c.in-Rule.rule
    (sym c.pass.ensures ∙ (c.in-Some.is ∙ ap Some c.in-Rule.is))

-- how long its ending is
ending-size : (c : In-Rule) → length (take (c.in-Rule.rule.middle - c.in-Rule.rule.start) (drop c.in-Rule.rule.start c.args.sheet.bytes.now))
    ≡ c.in-Rule.rule.middle - c.in-Rule.rule.start
ending-size c = let facts = (rule-of c).facts in sym (ap length facts.ending_is) ∙ facts.ending_long

pub loop-record-init : goal.loop-record-init
loop-record-init c = (omega arith, counting-start _ c.args.sheet.accepted)

pub overflow_add-nodes : goal.overflow_add-nodes
overflow_add-nodes c = let state = c.loop-record.invariant.1 in
    omega (arith, state.few_nodes, state.few_groups, state.few_rules)

pub loop-record-smaller-in-Group : goal.loop-record-smaller-in-Group
loop-record-smaller-in-Group c = let next = group_of (goal.at.loop-record-smaller-in-Group c).In-Group in omega (arith, next.forward, next.inside)

pub loop-record-preserved-in-Group : goal.loop-record-preserved-in-Group
loop-record-preserved-in-Group c = let next = group_of (goal.at.loop-record-preserved-in-Group c).In-Group in
    (next.inside, counting_group c.loop-record.invariant.1 next)

pub slice_bounds-ending-count : goal.slice_bounds-ending-count
slice_bounds-ending-count c = (rule-of (goal.at.slice_bounds-ending-count c).In-Rule).facts.ending_ahead

pub slice_bounds-ending-start : goal.slice_bounds-ending-start
slice_bounds-ending-start c = (rule-of (goal.at.slice_bounds-ending-start c).In-Rule).facts.ending_ahead

pub slice_bounds-ending-end : goal.slice_bounds-ending-end
slice_bounds-ending-end c = let facts = (rule-of (goal.at.slice_bounds-ending-end c).In-Rule).facts in omega (arith, facts.replacement_ahead, facts.inside)

pub overflow_sub-nodes : goal.overflow_sub-nodes
overflow_sub-nodes c = let rule = (goal.at.overflow_sub-nodes c).In-Rule in
    rw (ending-size rule) (shared_short c.loop-record.invariant.1 (rule-of rule) c.longest_shared.result c.longest_shared.ensures)

pub overflow_add-nodes-in-Rule : goal.overflow_add-nodes-in-Rule
overflow_add-nodes-in-Rule c = let state = c.loop-record.invariant.1 in
    omega (arith, state.few_nodes, state.few_groups, state.few_rules, (rule-of (goal.at.overflow_add-nodes-in-Rule c).In-Rule).facts.short_ending)

pub overflow_add-count : goal.overflow_add-count
overflow_add-count c = let state = c.loop-record.invariant.1 in
    omega (arith, state.own, state.few_rules)

pub loop-record-smaller : goal.loop-record-smaller
loop-record-smaller c = let next = rule-of (goal.at.loop-record-smaller c).In-Rule in omega (arith, next.forward, next.facts.inside)

pub loop-record-preserved : goal.loop-record-preserved
loop-record-preserved c = let rule = (goal.at.loop-record-preserved c).In-Rule in
    let next = rule-of rule in
    (next.facts.inside, rw (ending-size rule) (counting_rule c.loop-record.invariant.1 next c.longest_shared.result c.longest_shared.ensures))

pub returns-in-End : goal.returns-in-End
returns-in-End c = counting_end c.loop-record.invariant.1 (sym c.pass.ensures ∙ (c.in-Some.is ∙ ap Some c.in-End.is))

pub returns-in_default : goal.returns-in_default
returns-in_default c = absurd (never-alone c.loop-record.invariant.1.holds (sym c.pass.ensures ∙ c.in_default.is))
