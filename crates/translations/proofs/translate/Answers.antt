-- `translations::translate` meets its contract: the answers, one by one.
use Prim.Native.Nat.{ℕ, ◌*◌}
use mathlib.Core.Path.{sym, ap, ◌∙◌}
use native.Mathlib.Omega.{arith}
use lib.Seq.{length-take-le}
use Rattle.std.proofs.lemmas.Result.{err_from_is_err_and}
use Rattle.sheets.specs.Accepted.{groups_of}
use Rattle.sheets.specs.NodeBounds.{at_most_1552}
use Rattle.sheets.specs.WriteBack.{write_back}
use Rattle.translations.specs.TranslationLaws.{checked_accepted, translation_refused, translation_short, translation_done}
use Rattle.translations.proofs.translate.Goals as goal

pub returns-in_err-counts : goal.returns-in_err-counts
returns-in_err-counts c =
    let p = err_from_is_err_and c.from_residual.result c.from_residual.ensures.1 in
    rw (p.1, p.2) (translation_refused _ _ _ c.in_err-counts.ensures)

pub overflow_mul-end : goal.overflow_mul-end
overflow_mul-end c = let sheet = c.args.sheet.now in
    let is = checked_accepted sheet _ _ c.in_ok-counts.ensures in
    omega (arith, at_most_1552 (groups_of sheet) (write_back sheet (groups_of sheet) is.0).1, is.1)

pub returns-then-table-end : goal.returns-then-table-end
returns-then-table-end c = translation_short _ _ _ _ c.in_ok-counts.ensures c.if-table-end.true

pub slice_bounds-lay-end-2 : goal.slice_bounds-lay-end-2
slice_bounds-lay-end-2 c = sym (length-take-le (4 * c.in_ok-counts.counts.nodes) c.args.table.now c.if-table-end.false)

pub invariant_of-lay : goal.invariant_of-lay
invariant_of-lay c = record { accepted = (checked_accepted _ _ _ c.in_ok-counts.ensures).0 }

pub lay-requires : goal.lay-requires
lay-requires c = let is = checked_accepted _ _ _ c.in_ok-counts.ensures in
    length-take-le (4 * c.in_ok-counts.counts.nodes) c.args.table.now c.if-table-end.false ∙ ap (λ (n : ℕ). 4 * n) is.1

pub returns : goal.returns
returns c = translation_done _ _ _ _ c.in_ok-counts.ensures _ c.if-table-end.false c.lay.ensures
