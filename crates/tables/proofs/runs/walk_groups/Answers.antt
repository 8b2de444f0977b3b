use Rattle.std.specs.Prelude.{Some}
use mathlib.Core.Path.{refl, sym, ap, ◌∙◌}
use native.Mathlib.Omega.{arith}
use Rattle.paths.specs.Children.{nodes_in}
use Rattle.sheets.specs.SheetPlaces.{GroupNext, RuleNext, never-alone, group_next, rule_next}
use Rattle.tables.specs.WalkingLaws.{walking_start, walking_readable, walking_step, walking_outgrown, walking_skip}
use Rattle.tables.specs.WalkingLaws.{walking_rule, walking_end}
use Rattle.tables.proofs.runs.walk_groups.Goals as goal
use Rattle.tables.proofs.runs.walk_groups.Goals.{In-Group, In-Rule}

-- a group was passed, and this stands after it
group_of : (c : In-Group) → GroupNext c.loop-record.invariant.2.holds c.in-Group.gate c.in-Group.next
group_of c = group_next c.loop-record.invariant.2.holds (sym c.pass.ensures ∙ (c.in-Some.is ∙ ap Some c.in-Group.is))

-- a rule was passed, and this stands after it
rule-of : (c : In-Rule)
    → (let rule = c.in-Rule.rule in
    RuleNext c.loop-record.invariant.2.holds rule.condition rule.action rule.opens rule.start rule.middle rule.next)
rule-of c =
    rule_next c.loop-record.invariant.2.holds c.in-Rule.rule (sym c.pass.ensures ∙ (c.in-Some.is ∙ ap Some c.in-Rule.is))

pub loop-record-init : goal.loop-record-init
loop-record-init c = let a = c.args in
    (omega arith, refl, walking_start (nodes_in a.table.now) a.sheet.bytes.now a.word.now a.sheet.accepted)

pub overflow_add-groups : goal.overflow_add-groups
overflow_add-groups c = let few = (group_of (goal.at.overflow_add-groups c).In-Group).few in omega arith

pub overflow_add-rules : goal.overflow_add-rules
overflow_add-rules c = let few = (rule-of (goal.at.overflow_add-rules c).In-Rule).few in omega arith

pub invariant_of-group : goal.invariant_of-group
invariant_of-group c =
    record { readable = walking_readable c.loop-record.invariant.2 (group_of (goal.at.invariant_of-group c).In-Group) }

pub returns-in_err-step-in-Group : goal.returns-in_err-step-in-Group
returns-in_err-step-in-Group c = let turn = c.loop-record in
    let outgrown = rw turn.invariant.1 at c.in_err-step-in-Group.ensures in
    rw c.from_residual.ensures
    (walking_outgrown turn.invariant.2 (group_of (goal.at.returns-in_err-step-in-Group c).In-Group) c.if-gate-opened.true outgrown)

pub loop-record-smaller-then-gate-opened : goal.loop-record-smaller-then-gate-opened
loop-record-smaller-then-gate-opened c = let next = group_of (goal.at.loop-record-smaller-then-gate-opened c).In-Group in
    omega (arith, next.forward, next.inside)

pub loop-record-preserved-then-gate-opened : goal.loop-record-preserved-then-gate-opened
loop-record-preserved-then-gate-opened c = let turn = c.loop-record in
    let next = group_of (goal.at.loop-record-preserved-then-gate-opened c).In-Group in
    let kept = c.walk.auto.word in
    let stepped = rw turn.invariant.1 at c.in_ok-step-in-Group.ensures in (
      omega (arith, stepped.inside, kept, turn.invariant.1),
      kept ∙ turn.invariant.1,
      walking_step turn.invariant.2 next c.if-gate-opened.true _ _ _ stepped,
    )

pub loop-record-smaller-else-gate-opened : goal.loop-record-smaller-else-gate-opened
loop-record-smaller-else-gate-opened c = let next = group_of (goal.at.loop-record-smaller-else-gate-opened c).In-Group in
    omega (arith, next.forward, next.inside)

pub loop-record-preserved-else-gate-opened : goal.loop-record-preserved-else-gate-opened
loop-record-preserved-else-gate-opened c = let turn = c.loop-record in
    let next = group_of (goal.at.loop-record-preserved-else-gate-opened c).In-Group in
    (turn.invariant.0, turn.invariant.1, walking_skip turn.invariant.2 next c.if-gate-opened.false)

pub loop-record-smaller : goal.loop-record-smaller
loop-record-smaller c = let next = rule-of (goal.at.loop-record-smaller c).In-Rule in omega (arith, next.forward, next.facts.inside)

pub loop-record-preserved : goal.loop-record-preserved
loop-record-preserved c = let turn = c.loop-record in
    (turn.invariant.0, turn.invariant.1, walking_rule turn.invariant.2 (rule-of (goal.at.loop-record-preserved c).In-Rule))

pub returns-in-End : goal.returns-in-End
returns-in-End c = let turn = c.loop-record in
    (walking_end turn.invariant.2 (sym c.pass.ensures ∙ (c.in-Some.is ∙ ap Some c.in-End.is)), turn.invariant.0)

pub returns : goal.returns
returns c = absurd (never-alone c.loop-record.invariant.2.holds (sym c.pass.ensures ∙ c.in_default.is))
