use mathlib.Core.Path.{refl, ◌∙◌}
use native.Mathlib.Omega.{arith}
use Rattle.translations.specs.MidwayLaws.{midway_fits, midway_small, midway_end}
use Rattle.translations.proofs.laying_out.lay.Goals as goal

pub begin-next-requires : goal.begin-next-requires
begin-next-requires c = c.requires

pub loop-row-init : goal.loop-row-init
loop-row-init c = (refl, c.begin-next.ensures)

pub finish-next-requires : goal.finish-next-requires
finish-next-requires c = (c.loop-row-test.true, c.loop-row.invariant.1)

pub overflow_add-row : goal.overflow_add-row
overflow_add-row c = let accepted = c.args.sheet.accepted in
    let more = c.loop-row-test.true in
    omega (arith, midway_small c.loop-row.invariant.1 accepted)

pub loop-row-smaller : goal.loop-row-smaller
loop-row-smaller c = let turn = c.loop-row in
    let more = c.loop-row-test.true in
    omega (arith, midway_fits turn.invariant.1, turn.invariant.0)

pub loop-row-preserved : goal.loop-row-preserved
loop-row-preserved c = let turn = c.loop-row in
    let finished = c.finish-next in
    (finished.auto.table ∙ turn.invariant.0, finished.ensures)

pub shape_of-table : goal.shape_of-table
shape_of-table c = c.loop-row.invariant.0 ∙ c.begin-next.auto.table

pub returns : goal.returns
returns c = midway_end c.loop-row.invariant.1 c.loop-row-test.false
