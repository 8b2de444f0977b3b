-- `tables::run` meets its contract: what is said of the sheet and the table, or what the run on the word answers.
use mathlib.Core.Path.{sym}
use native.Mathlib.Omega.{arith}
use lib.Seq.{length-take-le}
use Rattle.std.proofs.lemmas.Result.{err_from_is_err_and}
use Rattle.tables.specs.RunLaws.{run_refused, run_accepted, run_inside, run_right}
use Rattle.tables.proofs.run.Goals as goal

pub returns-in_err-nodes : goal.returns-in_err-nodes
returns-in_err-nodes c =
    let p = err_from_is_err_and c.from_residual.result c.from_residual.ensures.1 in
    rw (p.1, p.2) (run_refused _ _ _ _ c.in_err-nodes.ensures)

pub overflow_mul-end : goal.overflow_mul-end
overflow_mul-end c = let a = c.args in
    omega (arith, (run_inside a.sheet.now a.table.now a.word.now _ c.in_ok-nodes.ensures).1)

pub slice_bounds-word_run-end : goal.slice_bounds-word_run-end
slice_bounds-word_run-end c = let a = c.args in
    sym (length-take-le _ _ (run_inside a.sheet.now a.table.now a.word.now _ c.in_ok-nodes.ensures).0)

pub invariant_of-word_run : goal.invariant_of-word_run
invariant_of-word_run c = let a = c.args in
    record { accepted = run_accepted a.sheet.now a.table.now a.word.now _ c.in_ok-nodes.ensures }

pub returns-in_err-left : goal.returns-in_err-left
returns-in_err-left c =
    let p = err_from_is_err_and c.from_residual-in_err-left.result c.from_residual-in_err-left.ensures.1 in
    rw (p.1, p.2) (run_right _ _ _ _ c.in_ok-nodes.ensures c.in_err-left.ensures)

pub returns : goal.returns
returns c = run_right _ _ _ _ c.in_ok-nodes.ensures c.in_ok-left.ensures
