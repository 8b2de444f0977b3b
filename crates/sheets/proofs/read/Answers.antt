use Prim.Native.Nat.{ℕ}
use mathlib.Core.Path.{◌≡◌, sym, ap, ◌∙◌}
use mathlib.Core.Bool.{◌&&◌, ◌||◌}
use mathlib.Core.List.{List}
use native.Mathlib.Omega.{arith}
use Rattle.std.specs.Prelude.{Some, None}
use lib.Dec.{eqb, leb}
use lib.ListN.{drop}
use Rattle.records.specs.Framing.{body}
use Rattle.records.specs.Records.{gate_number}
use Rattle.records.specs.RecordPlaces.{GroupAt, RuleAt, record_here}
use Rattle.records.specs.declared.Record.TheVariants.{Group, Rule, End}
use Rattle.sheets.specs.Sheets.{misplaced_group, misplaced_rule}
use Rattle.sheets.specs.SheetSteps.{fault_alone, few_groups, few_rules}
use Rattle.sheets.specs.ReadLaws.{reading-start, faulty_record, group_refused, rule_refused, last_record}
use Rattle.sheets.specs.ReadLaws.{read_group, read_rule}
use Rattle.sheets.proofs.read.Goals as goal
use Rattle.sheets.proofs.read.Goals.{After-misplaced_group, After-misplaced_rule}

group_of : (c : After-misplaced_group)
    → (let drawn = c in
    GroupAt drawn.args.sheet.now drawn.loop-record.at c.in-Group.gate c.in-Group.next)
group_of c =
    record_here c.args.sheet.now c.loop-record.at (Some (Group c.in-Group.gate c.in-Group.next))
    (sym c.draw.ensures ∙ (c.in-Some.is ∙ ap Some c.in-Group.is))

group_judged : (groups number : ℕ) (bytes : List ℕ) → number ≡ gate_number bytes
    → (eqb groups 0 && eqb number 1) || leb 16 groups ≡ misplaced_group groups bytes
unfolding misplaced_group
group_judged groups number bytes is = rw is

group-test : (c : After-misplaced_group) (known_group_of : (let drawn = c in
    GroupAt drawn.args.sheet.now drawn.loop-record.at c.in-Group.gate c.in-Group.next))
    → (let drawn = c in
    let turn = drawn.loop-record in
    c.misplaced_group.result ≡ misplaced_group turn.groups (body (drop turn.at drawn.args.sheet.now)))
group-test c known_group_of = c.misplaced_group.ensures ∙ group_judged _ _ _ known_group_of.number_is

rule-of : (c : After-misplaced_rule)
    → (let drawn = c in
    let rule = c.in-Rule.rule in
    RuleAt drawn.args.sheet.now drawn.loop-record.at rule.condition rule.action rule.opens rule.start rule.middle rule.next)
rule-of c =
    record_here c.args.sheet.now c.loop-record.at
    (Some (Rule c.in-Rule.rule))
    (sym c.draw.ensures ∙ (c.in-Some.is ∙ ap Some c.in-Rule.is))

rule-test : (c : After-misplaced_rule)
    → (let turn = c.loop-record in
    c.misplaced_rule.result ≡ misplaced_rule turn.groups turn.rules)
unfolding misplaced_rule
rule-test c = c.misplaced_rule.ensures

pub loop-record-init : goal.loop-record-init
loop-record-init c = (omega arith, omega arith, omega arith, reading-start c.args.sheet.now)

pub returns-then-misplaced_group : goal.returns-then-misplaced_group
returns-then-misplaced_group c = group_refused c.loop-record.invariant.3 (group_of (goal.at.returns-then-misplaced_group c).After-misplaced_group)
    (sym (group-test (goal.at.returns-then-misplaced_group c).After-misplaced_group (group_of (goal.at.returns-then-misplaced_group c).After-misplaced_group)) ∙ c.if-misplaced_group.true)

pub overflow_add-groups : goal.overflow_add-groups
overflow_add-groups c = omega (arith, c.loop-record.invariant.1)

pub loop-record-smaller-in-Group : goal.loop-record-smaller-in-Group
loop-record-smaller-in-Group c = let found = group_of (goal.at.loop-record-smaller-in-Group c).After-misplaced_group in omega (arith, found.forward, found.inside)

pub loop-record-preserved-in-Group : goal.loop-record-preserved-in-Group
loop-record-preserved-in-Group c = let turn = c.loop-record in
    let placed = sym (group-test (goal.at.loop-record-preserved-in-Group c).After-misplaced_group (group_of (goal.at.loop-record-preserved-in-Group c).After-misplaced_group)) ∙ c.if-misplaced_group.false in
    let few = few_groups turn.groups (body (drop turn.at c.args.sheet.now)) placed in (
      (group_of (goal.at.loop-record-preserved-in-Group c).After-misplaced_group).inside,
      omega arith,
      turn.invariant.2,
      read_group turn.invariant.3 (group_of (goal.at.loop-record-preserved-in-Group c).After-misplaced_group) placed,
    )

pub returns-then-misplaced_rule : goal.returns-then-misplaced_rule
returns-then-misplaced_rule c = rule_refused c.loop-record.invariant.3 (rule-of (goal.at.returns-then-misplaced_rule c).After-misplaced_rule)
    (sym (rule-test (goal.at.returns-then-misplaced_rule c).After-misplaced_rule) ∙ c.if-misplaced_rule.true)

pub overflow_add-rules : goal.overflow_add-rules
overflow_add-rules c = omega (arith, c.loop-record.invariant.2)

pub loop-record-smaller : goal.loop-record-smaller
loop-record-smaller c = let found = rule-of (goal.at.loop-record-smaller c).After-misplaced_rule in omega (arith, found.forward, found.facts.inside)

pub loop-record-preserved : goal.loop-record-preserved
loop-record-preserved c = let turn = c.loop-record in
    let found = rule-of (goal.at.loop-record-preserved c).After-misplaced_rule in
    let placed = sym (rule-test (goal.at.loop-record-preserved c).After-misplaced_rule) ∙ c.if-misplaced_rule.false in
    let few = few_rules turn.groups turn.rules placed in
    (found.facts.inside, turn.invariant.1, omega arith, read_rule turn.invariant.3 found placed)

-- ## The end, and a faulty record
pub returns-in-End : goal.returns-in-End
returns-in-End c = last_record c.loop-record.invariant.3
    (record_here c.args.sheet.now c.loop-record.at (Some End) (sym c.draw.ensures ∙ (c.in-Some.is ∙ ap Some c.in-End.is)))

pub returns : goal.returns
returns c = let turn = c.loop-record in
    faulty_record turn.invariant.3
    (fault_alone turn.groups turn.rules (drop turn.at c.args.sheet.now)
    (record_here c.args.sheet.now turn.at None (sym c.draw.ensures ∙ c.in_default.is)))
