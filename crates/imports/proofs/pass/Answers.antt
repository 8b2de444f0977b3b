use Prim.Native.Nat.{ℕ, ◌+◌, ◌^◌, ◌≤◌, ◌<◌}
use native.Mathlib.Omega.{arith}
use mathlib.Core.Path.{◌≡◌, sym, ap, ◌∙◌}
use mathlib.Core.List.{List}
use lib.ListN.{length, drop}
use Rattle.std.specs.Prelude.{Some}
use Rattle.paper.specs.TestLaws.{or_cases, neither_left, neither_right}
use Rattle.sheets.specs.Sheets.{misplaced_rule}
use Rattle.records.specs.Records.{faulty_rule}
use Rattle.records.specs.RecordBytes.{rule_body}
use Rattle.lines.specs.Reading.{found_in, rule_of}
use Rattle.paper.specs.ListLaws.{to_the_end}
use Rattle.lines.specs.ReadingLaws.{found_here}
use Rattle.lines.specs.declared.LineRead.TheVariants.{Group, Rule}
use Rattle.imports.specs.Passing.{State, starts, wrong_line, group_fault, after_group, group_inside, rule_line, rule_misplaced}
use Rattle.imports.specs.Passing.{rule_faulty, after_rule, rule_inside, all_passed}
use Rattle.imports.proofs.pass.Goals as goal
use Rattle.imports.proofs.pass.Goals.{After-faulty_body, After-line, In-Group, In-Rule}

-- what was found in the part that was lent, said of the rest of the text
found : (c : After-line)
    → found_in (drop c.loop-at.at c.args.text.now)
    ≡ c.line.result
found c =
    ap found_in (sym (to_the_end c.args.text.now c.loop-at.at)) ∙ sym c.line.ensures

group : (c : In-Group) (known_found : found_in (drop c.loop-at.at c.args.text.now)
    ≡ c.line.result)
    → found_in
    (drop c.loop-at.at
    c.args.text.now)
    ≡ Some (Group c.in-Group.gate c.in-Group.taken)
group c known_found = known_found ∙ (c.in-Some.is ∙ ap Some c.in-Group.is)

rule : (c : In-Rule) (known_found : found_in (drop c.loop-at.at c.args.text.now)
    ≡ c.line.result)
    → found_in
    (drop c.loop-at.at
    c.args.text.now)
    ≡ Some (Rule c.in-Rule.rule)
rule c known_found = known_found ∙ (c.in-Some.is ∙ ap Some c.in-Rule.is)

-- the sheet made is short
low : {text lent sheet : List ℕ} {at groups rules size : ℕ} → State text lent at groups rules size sheet → size < 2 ^ 32
low state = omega (arith, state.low_size, state.at_most_16, state.at_most_128)

-- where the next line begins
beyond-group : (c : In-Group) (known_group : found_in
    (drop c.loop-at.at
    c.args.text.now)
    ≡ Some (Group c.in-Group.gate c.in-Group.taken))
    → (c.loop-at.at
    < c.loop-at.at + c.in-Group.taken)
    × (c.loop-at.at + c.in-Group.taken
    ≤ length c.args.text.now)
beyond-group c known_group =
    group_inside c.loop-at.invariant.1 _ _ known_group c.loop-at-test.true

-- what was asked of the part that was lent, said of the rest of the text
faulty-is : (c : After-faulty_body)
    → c.faulty_body.result
    ≡ faulty_rule
    (rule_body
    (rule_of
    (drop c.loop-at.at
    c.args.text.now)
    c.in-Rule.rule))
faulty-is c = rw to_the_end at c.faulty_body.ensures

beyond-rule : (c : In-Rule) (known_rule : found_in
    (drop c.loop-at.at
    c.args.text.now)
    ≡ Some (Rule c.in-Rule.rule))
    → (c.loop-at.at
    < c.loop-at.at + c.in-Rule.rule.taken)
    × (c.loop-at.at + c.in-Rule.rule.taken
    ≤ length c.args.text.now)
beyond-rule c known_rule =
    rule_inside c.loop-at.invariant.1 _ known_rule c.loop-at-test.true

pub loop-at-init : goal.loop-at-init
loop-at-init c = (omega arith, starts _ _)

pub returns-then-misplaced_group : goal.returns-then-misplaced_group
returns-then-misplaced_group c = group_fault c.loop-at.invariant.1 _ _ (group (goal.at.returns-then-misplaced_group c).In-Group (found (goal.at.returns-then-misplaced_group c).After-line)) c.loop-at-test.true
    (sym c.misplaced_group.ensures ∙ c.if-misplaced_group.true)

pub put_group-size-requires : goal.put_group-size-requires
put_group-size-requires c = (low c.loop-at.invariant.1, (found_here _ _ (group (goal.at.put_group-size-requires c).In-Group (found (goal.at.put_group-size-requires c).After-line))).gate_low)

pub overflow_add-at : goal.overflow_add-at
overflow_add-at c = omega (arith, beyond-group (goal.at.overflow_add-at c).In-Group (group (goal.at.overflow_add-at c).In-Group (found (goal.at.overflow_add-at c).After-line)))

pub loop-at-smaller-in-Group : goal.loop-at-smaller-in-Group
loop-at-smaller-in-Group c = omega (arith, beyond-group (goal.at.loop-at-smaller-in-Group c).In-Group (group (goal.at.loop-at-smaller-in-Group c).In-Group (found (goal.at.loop-at-smaller-in-Group c).After-line)))

pub loop-at-preserved-in-Group : goal.loop-at-preserved-in-Group
loop-at-preserved-in-Group c = let placed = sym c.misplaced_group.ensures ∙ c.if-misplaced_group.false in (
  (beyond-group (goal.at.loop-at-preserved-in-Group c).In-Group (group (goal.at.loop-at-preserved-in-Group c).In-Group (found (goal.at.loop-at-preserved-in-Group c).After-line))).1,
  rw c.put_group-size.ensures.value (after_group c.loop-at.invariant.1 _ _ (group (goal.at.loop-at-preserved-in-Group c).In-Group (found (goal.at.loop-at-preserved-in-Group c).After-line)) placed c.put_group-size.ensures.appends),
)

pub faulty_body-requires : goal.faulty_body-requires
faulty_body-requires c = rw to_the_end (rule_line c.loop-at.invariant.1 _ (rule (goal.at.faulty_body-requires c).In-Rule (found (goal.at.faulty_body-requires c).After-line)))

pub returns-then-misplaced_rule-faulty_body : goal.returns-then-misplaced_rule-faulty_body
unfolding misplaced_rule
returns-then-misplaced_rule-faulty_body c = let state = c.loop-at.invariant.1 in
    or_cases c.misplaced_rule.result c.faulty_body.result c.if-misplaced_rule-faulty_body.true
    (λ is. rule_misplaced state _ (rule (goal.at.returns-then-misplaced_rule-faulty_body c).In-Rule (found (goal.at.returns-then-misplaced_rule-faulty_body c).After-line)) c.loop-at-test.true (sym c.misplaced_rule.ensures ∙ is))
    (λ is. rule_faulty state _ (rule (goal.at.returns-then-misplaced_rule-faulty_body c).In-Rule (found (goal.at.returns-then-misplaced_rule-faulty_body c).After-line)) c.loop-at-test.true (sym (faulty-is (goal.at.returns-then-misplaced_rule-faulty_body c).After-faulty_body) ∙ is))

pub put_rule-size-requires : goal.put_rule-size-requires
put_rule-size-requires c = let state = c.loop-at.invariant.1 in
    let sound = neither_right c.misplaced_rule.result c.faulty_body.result c.if-misplaced_rule-faulty_body.false in
    (low state, (rw to_the_end (rule_line state _ (rule (goal.at.put_rule-size-requires c).In-Rule (found (goal.at.put_rule-size-requires c).After-line))), sym c.faulty_body.ensures ∙ sound))

pub overflow_add-at-in-Rule : goal.overflow_add-at-in-Rule
overflow_add-at-in-Rule c = omega (arith, beyond-rule (goal.at.overflow_add-at-in-Rule c).In-Rule (rule (goal.at.overflow_add-at-in-Rule c).In-Rule (found (goal.at.overflow_add-at-in-Rule c).After-line)))

pub loop-at-smaller : goal.loop-at-smaller
loop-at-smaller c = omega (arith, beyond-rule (goal.at.loop-at-smaller c).In-Rule (rule (goal.at.loop-at-smaller c).In-Rule (found (goal.at.loop-at-smaller c).After-line)))

pub loop-at-preserved : goal.loop-at-preserved
unfolding misplaced_rule
loop-at-preserved c = let state = c.loop-at.invariant.1 in
    let away = c.misplaced_rule.result in
    let fault = c.faulty_body.result in
    let placed = sym c.misplaced_rule.ensures ∙ neither_left away fault c.if-misplaced_rule-faulty_body.false in
    let sound = sym (faulty-is (goal.at.loop-at-preserved c).After-faulty_body) ∙ neither_right away fault c.if-misplaced_rule-faulty_body.false in
    let wrote = rw to_the_end at c.put_rule-size.ensures in
    ((beyond-rule (goal.at.loop-at-preserved c).In-Rule (rule (goal.at.loop-at-preserved c).In-Rule (found (goal.at.loop-at-preserved c).After-line))).1, rw wrote.value (after_rule state _ (rule (goal.at.loop-at-preserved c).In-Rule (found (goal.at.loop-at-preserved c).After-line)) placed sound wrote.appends))

pub returns-in_default : goal.returns-in_default
returns-in_default c = wrong_line c.loop-at.invariant.1 c.loop-at-test.true (found (goal.at.returns-in_default c).After-line ∙ c.in_default.is)

pub returns : goal.returns
returns c = rw c.put_end.ensures.value (all_passed c.loop-at.invariant.1 c.loop-at-test.false c.put_end.ensures.appends)
