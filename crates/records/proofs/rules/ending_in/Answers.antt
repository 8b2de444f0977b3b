-- `records::rules::ending_in` meets its contract: at each return the tests that led there say how much of S1 stands in the body.
use Rattle.std.proofs.Common.{◌-◌, length, drop, arith, length-drop}
use mathlib.Core.Path.{sym, ◌∙◌}
use lib.ListN.{drop_of_length-le}
use lib.Seq.{take_all, take-nil}
use Rattle.records.specs.Records.{ending_length, ending}
use Rattle.records.proofs.rules.ending_in.Goals as goal

pub returns-in_default : goal.returns-in_default
unfolding ending
returns-in_default c =
    let body = c.args.body.now in
    rw (drop_of_length-le body {i = 4} (omega (arith, c.in_default.len_below))) (sym (take-nil (ending_length body)))

pub returns-then-letters-n : goal.returns-then-letters-n
unfolding ending
returns-then-letters-n c =
    let body = c.args.body.now in
    let all = take_all (length body - 4) (drop 4 body) (omega (arith, length-drop 4 body)) in
    all ∙ sym (take_all (ending_length body) (drop 4 body) (omega (arith, rw all at c.if-letters-n.true, c.from-n.ensures)))

pub returns : goal.returns
unfolding ending
returns c =
    let body = c.args.body.now in
    rw (take_all (length body - 4) (drop 4 body) (omega (arith, length-drop 4 body)), c.from-n.ensures)
