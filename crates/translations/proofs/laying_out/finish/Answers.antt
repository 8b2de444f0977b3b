-- `translations::laying_out::finish` meets its contract: the four numbers of the row are read, the rules of its group looked through,
-- the rows of the children stored, and then the row itself.
use Prim.Native.Nat.{◌-◌, ◌≤◌}
use mathlib.Core.Bool.{cond}
use mathlib.Core.Path.{◌≡◌, refl, ◌∙◌}
use native.Mathlib.Omega.{arith}
use lib.Dec.{eqb}
use lib.ListN.{length}
use borrow.Author.Tests.{eq-eqb, ne_eqb}
use Rattle.translations.specs.MidwayLaws.{tail_stands, midway_small, current_row, midway_step}
use Rattle.translations.specs.SheetLength.{sheet_short}
use Rattle.translations.specs.StoreLaws.{at_most_each, none_or}
use Rattle.translations.specs.WaitingLaws.{Current}
use Rattle.translations.proofs.laying_out.finish.Goals as goal
use Rattle.translations.proofs.laying_out.finish.Goals.{After-number_at-before, Joined-count-eq0, else-count-eq0, then-count-eq0}

-- the node whose row was read
node_of : (c : After-number_at-before)
    → (let start = c in
    Current start.args.sheet.bytes.now start.requires.1.queue start.requires.1.waits
    c.number_at-depth.result c.number_at-from.result
    c.number_at-end.result c.number_at-before.result)
node_of c =
    current_row c.requires.1 c.requires.0
    (record {
      depth_read = c.number_at-depth.ensures.0;
      from_read = c.number_at-from.ensures.0;
      end_read = c.number_at-end.ensures.0;
      before_read = c.number_at-before.ensures.0;
    })

-- the sheet is short
short-of : (c : After-number_at-before)
    → length c.args.sheet.bytes.now ≤ 4196
short-of c =
    sheet_short c.args.sheet.bytes.now c.args.sheet.accepted

-- the number of the first child, 0 for none
child-of : (c : Joined-count-eq0)
    → (let stored = c in
    let start = stored in
    c.if-count-eq0.first ≡ cond (eqb (stored.put_each-behind.result - start.args.next) 0) 0 start.args.next)
child-of c = elim c.if-count-eq0.branch [ then-count-eq0 w ↦ w.first-is ∙ rw (eq-eqb _ 0 w.if-count-eq0.true) | else-count-eq0 w ↦ w.first-is ∙ rw (ne_eqb _ 0 w.if-count-eq0.false) ]

pub overflow_mul-place : goal.overflow_mul-place
overflow_mul-place c = omega (arith, midway_small c.requires.1 c.args.sheet.accepted)

pub overflow_add-place : goal.overflow_add-place
overflow_add-place c = omega (arith, midway_small c.requires.1 c.args.sheet.accepted)

pub overflow_add-place-2 : goal.overflow_add-place-2
overflow_add-place-2 c = omega (arith, midway_small c.requires.1 c.args.sheet.accepted)

pub overflow_add-place-3 : goal.overflow_add-place-3
overflow_add-place-3 c = omega (arith, midway_small c.requires.1 c.args.sheet.accepted)

pub overflow_sub-start : goal.overflow_sub-start
overflow_sub-start c = let pending = (node_of (goal.at.overflow_sub-start c).After-number_at-before).pending in omega (arith, pending.depth_is, pending.tail_there.long)

pub slice_bounds-look-end : goal.slice_bounds-look-end
slice_bounds-look-end c = (node_of (goal.at.slice_bounds-look-end c).After-number_at-before).pending.tail_there.inside

pub look-rule-requires : goal.look-rule-requires
look-rule-requires c = let now = node_of (goal.at.look-rule-requires c).After-number_at-before in
    (record { list = now.one.rules; reads = now.pending.reads }, (omega (arith, short-of (goal.at.look-rule-requires c).After-number_at-before), refl))

pub put_each-behind-requires : goal.put_each-behind-requires
put_each-behind-requires c = let there = (node_of (goal.at.put_each-behind-requires c).After-number_at-before).pending in (
  omega (arith, midway_small c.requires.1 c.args.sheet.accepted, c.look-rule.auto.ends),
  (
    omega (arith, there.depth_is, there.tail_there.long, there.tail_there.inside, short-of (goal.at.put_each-behind-requires c).After-number_at-before),
    (c.number_at-from.ensures.1, c.number_at-before.ensures.1),
  ),
)

pub put_row-requires : goal.put_row-requires
put_row-requires c = let looked = c.look-rule in
    let few = midway_small c.requires.1 c.args.sheet.accepted in
    let children = at_most_each looked.new.ends in (
      omega (arith, c.requires.0),
      (
        c.letter_of-letter.ensures.1,
        (
          omega (arith, child-of (goal.at.put_row-requires c).Joined-count-eq0, none_or (eqb (c.put_each-behind.result - c.args.next) 0) c.args.next),
          (omega (arith, c.put_each-behind.ensures.value, looked.auto.ends), looked.ensures.upper_bound),
        ),
      ),
    )

pub returns : goal.returns
returns c = let looked = c.look-rule in
    let now = node_of (goal.at.returns c).After-number_at-before in
    let tail = tail_stands now.pending in
    let found = rw tail at (looked.ensures.looked now.one.rules now.pending.reads) in
    let behind-is = c.put_each-behind.ensures.value in
    midway_step c.requires.1 now looked.result looked.new.ends looked.auto.ends found
    c.put_each-behind.result c.letter_of-letter.result c.if-count-eq0.first (c.put_each-behind.result - c.args.next) _
    behind-is (rw tail at c.letter_of-letter.ensures.0) (child-of (goal.at.returns c).Joined-count-eq0) (omega arith)
    (rw c.put_each-behind.ensures.table_after at c.put_row.ensures) (c.put_row.auto.table ∙ c.put_each-behind.auto.table)
