-- `records::group_in` meets its contract: at each return the tests that led there say which case holds.
use Rattle.std.proofs.Common.{length, arith}
use borrow.Author.Tests.{eq-eqb, ne_eqb, lt-ltb, le-ltb}
use Rattle.records.specs.Framing.{number}
use Rattle.records.specs.Records.{gate_number, faulty_group}
use Rattle.records.specs.RecordAnswers.{group_record}
use Rattle.records.proofs.group_in.Goals as goal

pub returns-in_default : goal.returns-in_default
unfolding group_record faulty_group
returns-in_default c = simp (ne_eqb (length c.args.body.now) 2 (λ is. omega (arith, is, c.in_default.len_below)))

pub returns-in_default-2 : goal.returns-in_default-2
unfolding group_record faulty_group
returns-in_default-2 c = simp (ne_eqb (length c.args.body.now) 2 (λ is. omega (arith, is, c.in_default.len_at_least)))

pub returns-then-gate-gt1 : goal.returns-then-gate-gt1
unfolding group_record faulty_group gate_number number
returns-then-gate-gt1 c =
    let two = eq-eqb (length c.args.body.now) 2 (omega (arith, c.in-len2.len_at_least, c.in-len2.len_below)) in
    simp (two, ← c.pair-gate.ensures.value, lt-ltb _ _ c.if-gate-gt1.true)

pub returns : goal.returns
unfolding group_record faulty_group gate_number number
returns c =
    let two = eq-eqb (length c.args.body.now) 2 (omega (arith, c.in-len2.len_at_least, c.in-len2.len_below)) in
    simp (two, ← c.pair-gate.ensures.value, le-ltb _ _ c.if-gate-gt1.false)
