-- `records::record_at` meets its contract: the frame says whether the record is cut, and its kind the rest.
use mathlib.Core.Path.{◌≡◌, sym, ◌∙◌}
use mathlib.Core.Bool.{Bool, not, cond, ◌||◌}
use Rattle.std.proofs.Common.{ℕ, List, None, Some, eqb, length, arith}
use Rattle.records.specs.declared.Record.TheVariants.{End}
use Rattle.records.specs.FramingLaws.{FramedAt, framed}
use Rattle.records.specs.RecordAnswers.{group_record, rule_record, end_record, record_at}
use Rattle.records.specs.FrameCases.{frame_cut, frame_group, frame_rule, frame_end, frame_other, end_judged}
use Rattle.records.proofs.record_at.Goals as goal
use Rattle.records.proofs.record_at.Goals.{In_ok-kind}

-- a record of kind 3 is an end, or faulty as an end
module _ (sheet : List ℕ) (at : ℕ) {k b next : ℕ} (is : FramedAt sheet at k b next) (three : k ≡ 3) where
  end_by : {test : Bool} → (not (eqb next b) || not (eqb next (length sheet))) ≡ test → cond test None (Some End) ≡ record_at sheet at
  unfolding record_at end_record
  end_by tested =
      rw (← tested, end_judged sheet at is) (frame_end group_record rule_record end_record sheet at is three)

-- what the frame says
frame-of : (c : In_ok-kind)
    → (let args = c.args in let frame = c.in_ok-kind.field-0 in FramedAt args.sheet.now args.at frame.kind frame.body frame.next)
frame-of c =
    let args = c.args in
    framed args.sheet.now args.at (Some c.in_ok-kind.field-0) (sym c.frame_at.ensures.frame ∙ c.in_ok-kind.was)

pub returns-in_err-kind : goal.returns-in_err-kind
unfolding record_at
returns-in_err-kind c =
    let args = c.args in
    let short = framed args.sheet.now args.at None (sym c.frame_at.ensures.frame ∙ c.in_err-kind.was) in
    c.from_residual.ensures ∙ frame_cut group_record rule_record end_record args.sheet.now args.at short

pub returns-in-1 : goal.returns-in-1
unfolding record_at
returns-in-1 c =
    c.group_in.ensures
    ∙ frame_group group_record rule_record end_record _ _ (frame-of (goal.at.returns-in-1 c).In_ok-kind) c.in-1.is

pub returns-in-2 : goal.returns-in-2
unfolding record_at
returns-in-2 c =
    c.rule_in.ensures
    ∙ frame_rule group_record rule_record end_record _ _ (frame-of (goal.at.returns-in-2 c).In_ok-kind) c.in-2.is

pub returns-in-3 : goal.returns-in-3
returns-in-3 c = end_by _ _ (frame-of (goal.at.returns-in-3 c).In_ok-kind) c.in-3.is (sym c.if-not-faulty_end.ensures)

pub returns-in_default : goal.returns-in_default
returns-in_default c = end_by _ _ (frame-of (goal.at.returns-in_default c).In_ok-kind) c.in-3.is (sym c.if-not-faulty_end.ensures)

pub returns-in_default-2 : goal.returns-in_default-2
unfolding record_at
returns-in_default-2 c = frame_other group_record rule_record end_record _ _
    (frame-of (goal.at.returns-in_default-2 c).In_ok-kind) (λ is. omega (arith, is)) (λ is. omega (arith, is)) (λ is. omega (arith, is))
