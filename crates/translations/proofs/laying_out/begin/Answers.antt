use Rattle.std.specs.Prelude.{Some}
use mathlib.Core.Path.{◌≡◌, sym, ap, ◌∙◌}
use native.Mathlib.Omega.{arith}
use lib.ListN.{length}
use Rattle.sheets.specs.SheetPlaces.{GroupNext, RuleNext, never-alone, group_next, rule_next}
use Rattle.translations.specs.RootLaws.{rooting_start, rooting_group, rooting_rule, rooting_end}
use Rattle.translations.specs.SheetLength.{sheet_short}
use Rattle.translations.proofs.laying_out.begin.Goals as goal
use Rattle.translations.proofs.laying_out.begin.Goals.{At-loop-record, In-Group, In-Rule}

-- a group was passed, and this stands after it
group_of : (c : In-Group)
    → (GroupNext c.loop-record.invariant.3.holds c.in-Group.gate c.in-Group.next)
group_of c =
    group_next c.loop-record.invariant.3.holds
    (sym c.pass.ensures ∙ (c.in-Some.is ∙ ap Some c.in-Group.is))

-- a rule was passed, and this stands after it
rule-of : (c : In-Rule)
    → (let rule = c.in-Rule.rule in
    RuleNext c.loop-record.invariant.3.holds rule.condition rule.action rule.opens rule.start rule.middle rule.next)
rule-of c =
    rule_next c.loop-record.invariant.3.holds c.in-Rule.rule
    (sym c.pass.ensures ∙ (c.in-Some.is ∙ ap Some c.in-Rule.is))

-- the room stays as it was at the start
same-room : (c : At-loop-record) → length c.loop-record.table ≡ length c.args.table.now
same-room c = c.loop-record.invariant.3.room ∙ sym c.requires

pub loop-record-init : goal.loop-record-init
loop-record-init c = let a = c.args in
    (omega arith, omega arith, omega arith, rooting_start a.sheet.bytes.now a.table.now a.sheet.accepted c.requires)

pub put_row-requires : goal.put_row-requires
put_row-requires c = let next = group_of (goal.at.put_row-requires c).In-Group in
    let short = sheet_short c.args.sheet.bytes.now c.args.sheet.accepted in (
      omega (arith, c.loop-record.invariant.1),
      (omega arith, (omega (arith, next.inside), (omega arith, omega (arith, c.loop-record.invariant.2)))),
    )

pub overflow_add-roots : goal.overflow_add-roots
overflow_add-roots c = let few = (group_of (goal.at.overflow_add-roots c).In-Group).few in omega arith

pub loop-record-smaller-in-Group : goal.loop-record-smaller-in-Group
loop-record-smaller-in-Group c = let next = group_of (goal.at.loop-record-smaller-in-Group c).In-Group in omega (arith, next.forward, next.inside)

pub loop-record-preserved-in-Group : goal.loop-record-preserved-in-Group
loop-record-preserved-in-Group c = let turn = c.loop-record in
    let next = group_of (goal.at.loop-record-preserved-in-Group c).In-Group in (
      next.inside,
      omega (arith, next.few),
      turn.invariant.2,
      rooting_group turn.invariant.3 next _ c.put_row.ensures,
    )

pub overflow_add-rules : goal.overflow_add-rules
overflow_add-rules c = let few = (rule-of (goal.at.overflow_add-rules c).In-Rule).few in omega arith

pub loop-record-smaller : goal.loop-record-smaller
loop-record-smaller c = let next = rule-of (goal.at.loop-record-smaller c).In-Rule in omega (arith, next.forward, next.facts.inside)

pub loop-record-preserved : goal.loop-record-preserved
loop-record-preserved c = let turn = c.loop-record in
    let next = rule-of (goal.at.loop-record-preserved c).In-Rule in
    (next.facts.inside, turn.invariant.1, omega (arith, next.few), rooting_rule turn.invariant.3 next)

pub shape_of-table-in-End : goal.shape_of-table-in-End
shape_of-table-in-End c = same-room (goal.at.shape_of-table-in-End c).At-loop-record

pub returns-in-End : goal.returns-in-End
returns-in-End c = rooting_end c.loop-record.invariant.3 c.args.sheet.accepted
    (sym c.pass.ensures ∙ (c.in-Some.is ∙ ap Some c.in-End.is))

pub shape_of-table : goal.shape_of-table
shape_of-table c = same-room (goal.at.shape_of-table c).At-loop-record

pub returns : goal.returns
returns c = absurd (never-alone c.loop-record.invariant.3.holds (sym c.pass.ensures ∙ c.in_default.is))
