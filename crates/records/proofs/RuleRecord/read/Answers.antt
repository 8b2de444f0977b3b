-- `RuleRecord::read` meets its contract: at each return the tests that led there say whether the body ends too early.
use Rattle.std.proofs.Common.{◌+◌, length, arith}
use borrow.Author.Tests.{lt-ltb, le-ltb}
use Rattle.paper.specs.TestLaws.{or_right}
use Rattle.records.specs.Records.{ending_length, ending_place, replacement_place}
use Rattle.records.specs.RecordAnswers.{rule_told}
use Rattle.records.proofs.RuleRecord.read.Goals as goal

pub returns-in_default : goal.returns-in_default
unfolding rule_told
returns-in_default c = simp (lt-ltb _ _ c.in_default.len_below)

pub returns-then-body-end : goal.returns-then-body-end
unfolding rule_told
returns-then-body-end c =
    let body = c.args.body.now in
    rw (or_right _ _ (lt-ltb (length body) (4 + ending_length body) (omega (arith, c.from-n.ensures, c.if-body-end.true))))

pub returns : goal.returns
unfolding rule_told ending_place replacement_place
returns c =
    let body = c.args.body.now in
    let fits = le-ltb (length body) (4 + ending_length body) (omega (arith, c.from-n.ensures, c.if-body-end.false)) in
    rw (le-ltb (length body) 4 c.in-len4-up.len_at_least, fits, c.from-n.ensures)
