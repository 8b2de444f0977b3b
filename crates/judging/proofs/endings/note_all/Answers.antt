use Rattle.std.specs.Prelude.{Some}
use mathlib.Core.Path.{refl, sym, ap, ◌∙◌}
use native.Mathlib.Omega.{arith}
use Rattle.sheets.specs.SheetPlaces.{GroupNext, RuleNext, never-alone, group_next, rule_next}
use Rattle.judging.specs.FollowLaws.{at_node, rooted_in}
use Rattle.judging.specs.NoteLaws.{noting_start, noting_group, noting_end, root_here, noting_missing, noting_rule}
use Rattle.judging.proofs.endings.note_all.Goals as goal
use Rattle.judging.proofs.endings.note_all.Goals.{In-Group, In-Rule}

-- a group was passed, and this stands after it
group_of : (c : In-Group) → GroupNext c.loop-record.invariant.1.holds c.in-Group.gate c.in-Group.next
group_of c = group_next c.loop-record.invariant.1.holds (sym c.pass.ensures ∙ (c.in-Some.is ∙ ap Some c.in-Group.is))

-- a rule was passed, and this stands after it
rule-of : (c : In-Rule)
    → (let rule = c.in-Rule.rule in
    RuleNext c.loop-record.invariant.1.holds rule.condition rule.action rule.opens rule.start rule.middle rule.next)
rule-of c =
    rule_next c.loop-record.invariant.1.holds c.in-Rule.rule (sym c.pass.ensures ∙ (c.in-Some.is ∙ ap Some c.in-Rule.is))

pub loop-record-init : goal.loop-record-init
loop-record-init c = (refl, noting_start _ _ _ c.args.sheet.accepted c.requires.1.1)

pub overflow_add-groups : goal.overflow_add-groups
overflow_add-groups c = let few = (group_of (goal.at.overflow_add-groups c).In-Group).few in omega arith

pub loop-record-smaller-in-Group : goal.loop-record-smaller-in-Group
loop-record-smaller-in-Group c = let next = group_of (goal.at.loop-record-smaller-in-Group c).In-Group in
    omega (arith, next.forward, next.inside)

pub loop-record-preserved-in-Group : goal.loop-record-preserved-in-Group
loop-record-preserved-in-Group c = let turn = c.loop-record in
    (turn.invariant.0, noting_group turn.invariant.1 (group_of (goal.at.loop-record-preserved-in-Group c).In-Group))

pub overflow_add-rules : goal.overflow_add-rules
overflow_add-rules c = let few = (rule-of (goal.at.overflow_add-rules c).In-Rule).few in omega arith

pub slice_bounds-note-count : goal.slice_bounds-note-count
slice_bounds-note-count c = (rule-of (goal.at.slice_bounds-note-count c).In-Rule).facts.ending_ahead

pub slice_bounds-note-start : goal.slice_bounds-note-start
slice_bounds-note-start c = (rule-of (goal.at.slice_bounds-note-start c).In-Rule).facts.ending_ahead

pub slice_bounds-note-end : goal.slice_bounds-note-end
slice_bounds-note-end c = let facts = (rule-of (goal.at.slice_bounds-note-end c).In-Rule).facts in
    omega (arith, facts.replacement_ahead, facts.inside)

pub note-requires : goal.note-requires
note-requires c = let next = rule-of (goal.at.note-requires c).In-Rule in
    let turn = c.loop-record in
    let pre = c.requires in
    (rooted_in pre.0 (root_here turn.invariant.1 next) turn.invariant.0, omega (arith, pre.1.0, turn.invariant.0))

pub returns-then-not-note : goal.returns-then-not-note
returns-then-not-note c =
    noting_missing c.loop-record.invariant.1 (rule-of (goal.at.returns-then-not-note c).In-Rule)
    (sym c.if-not-note.ensures.value)

pub loop-record-smaller : goal.loop-record-smaller
loop-record-smaller c = let next = rule-of (goal.at.loop-record-smaller c).In-Rule in omega (arith, next.forward, next.facts.inside)

pub loop-record-preserved : goal.loop-record-preserved
loop-record-preserved c = let turn = c.loop-record in
    let next = rule-of (goal.at.loop-record-preserved c).In-Rule in
    let called = c.note in
    let rooted = rooted_in c.requires.0 (root_here turn.invariant.1 next) turn.invariant.0 in
    let leads = sym c.if-not-note.ensures.value in (
      called.auto.notes ∙ turn.invariant.0,
      rw called.ensures.notes_after (noting_rule turn.invariant.1 next _ refl (λ at e. (at_node rooted _ at e).low) leads),
    )

pub returns-in-End : goal.returns-in-End
returns-in-End c = noting_end c.loop-record.invariant.1 (sym c.pass.ensures ∙ (c.in-Some.is ∙ ap Some c.in-End.is))

pub returns : goal.returns
returns c = absurd (never-alone c.loop-record.invariant.1.holds (sym c.pass.ensures ∙ c.in_default.is))
