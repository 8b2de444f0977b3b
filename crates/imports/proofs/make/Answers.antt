-- `imports::make` meets its contract: the first pass leaves the sheet as it was, since no byte of it was lent.
use Rattle.std.specs.Prelude.{Ok}
use Rattle.std.proofs.lemmas.Result.{err_from_is_err_and}
use Rattle.printed.specs.LineNumbers.{not_both}
use Rattle.lines.specs.PrintedLines.{reads}
use Rattle.imports.specs.TakenLaws.{of_form}
use Rattle.imports.specs.Passing.{fault_given, short_given, sheet_given, none_lent}
use Rattle.imports.proofs.make.Goals as goal

pub returns-in_err-size : goal.returns-in_err-size
returns-in_err-size c =
    let p = err_from_is_err_and c.from_residual.result c.from_residual.ensures.1 in
    rw (p.1, p.2, none_lent _ c.args.sheet.now c.pass.auto.sheet) (fault_given c.args.sheet.now c.in_err-size.ensures)

pub returns-then-sheet-size : goal.returns-then-sheet-size
returns-then-sheet-size c = let same = none_lent c.pass.new.sheet c.args.sheet.now c.pass.auto.sheet in
    rw same (short_given c.args.sheet.now c.in_ok-size.ensures (rw same at c.if-sheet-size.true))

-- the second pass is over the same lines
pub returns-in_err-pass : goal.returns-in_err-pass
returns-in_err-pass c = absurd (not_both reads of_form c.in_err-pass.ensures c.in_ok-size.ensures.whole)

pub returns : goal.returns
returns c = let same = none_lent c.pass.new.sheet c.args.sheet.now c.pass.auto.sheet in
    sheet_given c.args.sheet.now c.in_ok-size.ensures (rw same at c.if-sheet-size.false) (Ok _) (rw same at c.in_ok-pass.ensures)
