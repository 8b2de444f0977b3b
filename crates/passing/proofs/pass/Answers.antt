-- `passing::pass` meets its contract: the frame says whether the record is cut, and its kind the rest.
use Rattle.std.proofs.Common.{◌≡◌, ◌||◌, ℕ, ◌+◌, Some, None, List, ltb, length, sym, ap, ◌∙◌, arith, rules, option_map}
use Rattle.records.specs.declared.Record.TheVariants.{Rule, End}
use Rattle.records.specs.FramingLaws.{FramedAt, framed}
use Rattle.records.specs.FrameCases.{frame_cut, frame_group, frame_rule, frame_end, frame_other}
use Rattle.records.specs.Records.{ending_length}
use Rattle.records.specs.RecordAnswers.{rule_told}
use Rattle.passing.specs.Passed.{passed_group, passed_rule, passed_at}
use Rattle.paper.specs.TestLaws.{by_test}
use Rattle.passing.proofs.pass.Goals as goal
use Rattle.passing.proofs.pass.Goals.{In_ok-kind}

-- what the frame says
frame-of : (c : In_ok-kind)
    → (let args = c.args in
    let frame = c.in_ok-kind.field-0 in
    FramedAt args.sheet.now args.at frame.kind frame.body frame.next)
frame-of c =
    let args = c.args in
    framed args.sheet.now args.at (Some c.in_ok-kind.field-0) (sym c.in_ok-kind.ensures.frame)

rule_by : (place : ℕ) (body : List ℕ) → option_map Rule (rule_told place body) ≡ passed_rule place body
unfolding rule_told passed_rule
rule_by place body =
    by_test (ltb (length body) 4 || ltb (length body) (4 + ending_length body)) (λ short. simp short) (λ long. simp long)

pub returns-in_err-kind : goal.returns-in_err-kind
unfolding passed_at
returns-in_err-kind c =
    let args = c.args in
    let short = framed args.sheet.now args.at None (sym c.in_err-kind.ensures.frame) in
    c.from_residual.ensures ∙ frame_cut passed_group passed_rule (λ rest. Some End) args.sheet.now args.at short

pub returns-in-1 : goal.returns-in-1
unfolding passed_at
returns-in-1 c =
    c.passed_group.ensures
    ∙ frame_group passed_group passed_rule (λ rest. Some End) _ _ (frame-of (goal.at.returns-in-1 c).In_ok-kind) c.in-1.is

pub returns-in-2 : goal.returns-in-2
unfolding passed_at
returns-in-2 c =
    let frame = c.in_ok-kind.field-0 in
    let mapped : c.map.result ≡ option_map Rule c.read.result = search rules in
    mapped
    ∙ (ap (option_map Rule) c.read.ensures
    ∙ (rule_by frame.body _
    ∙ frame_rule passed_group passed_rule (λ rest. Some End) _ _ (frame-of (goal.at.returns-in-2 c).In_ok-kind) c.in-2.is))

pub returns-in-3 : goal.returns-in-3
unfolding passed_at
returns-in-3 c =
    frame_end passed_group passed_rule (λ rest. Some End) _ _ (frame-of (goal.at.returns-in-3 c).In_ok-kind) c.in-3.is

pub returns-in_default : goal.returns-in_default
unfolding passed_at
returns-in_default c =
    frame_other passed_group passed_rule (λ rest. Some End) _ _ (frame-of (goal.at.returns-in_default c).In_ok-kind)
    (λ is. omega (arith, is)) (λ is. omega (arith, is)) (λ is. omega (arith, is))
