use mathlib.Core.Path.{sym, ◌∙◌}
use native.Mathlib.Omega.{arith}
use Rattle.translations.specs.StoreLaws.{row_length, each_skip, each_put, each_over}
use Rattle.translations.proofs.rows.put_each.Goals as goal
use Rattle.translations.proofs.rows.put_each.Goals.{then-end-ne0, else-end-ne0}

pub loop-end-preserved : goal.loop-end-preserved
loop-end-preserved c =
    let turn = c.loop-end in
    let inside = c.loop-end-test.true in
    elim c.if-end-ne0.branch [
      | then-end-ne0 w ↦
          let put = each_put _ _ _ _ _ inside turn.at turn.table w.if-end-ne0.true in
          rw (w.at-is, w.table-is, w.put_row.ensures, w.from.ensures)
          (sym put.0 ∙ turn.invariant.0, omega (arith, put.1, turn.invariant.1), row_length turn.at _ _ _ _ turn.table ∙ turn.invariant.2, omega arith, omega (arith, turn.invariant.4))
      | else-end-ne0 w ↦
          let skip = each_skip _ _ _ _ _ inside turn.at turn.table w.if-end-ne0.false in
          rw (w.at-is, w.table-is)
          (sym skip.0 ∙ turn.invariant.0, omega (arith, skip.1, turn.invariant.1), turn.invariant.2, omega arith, omega (arith, turn.invariant.4))
    ]

pub returns-clause-value : goal.returns-clause-value
returns-clause-value c = let turn = c.loop-end in
    let a = c.args in
    let over = each_over a.depth a.from a.before a.ends.now turn.end-index c.loop-end-test.false turn.at turn.table in
    omega (arith, turn.invariant.1, over.1)

pub returns-clause-table_after : goal.returns-clause-table_after
returns-clause-table_after c = let turn = c.loop-end in
    let a = c.args in
    let over = each_over a.depth a.from a.before a.ends.now turn.end-index c.loop-end-test.false turn.at turn.table in
    sym over.0 ∙ turn.invariant.0
