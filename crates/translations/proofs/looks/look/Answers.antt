use Rattle.std.specs.Prelude.{Some}
use mathlib.Core.Path.{refl, sym, ap, ◌∙◌}
use native.Mathlib.Omega.{arith}
use lib.ListN.{length}
use Rattle.sheets.specs.SheetPlaces.{RuleNext, never-over, never-alone, rule_next}
use Rattle.translations.specs.Looking.{Looking}
use Rattle.translations.specs.LookLaws.{looking_start, looking_rule, looking_group, looking_end, rule_small}
use Rattle.translations.proofs.looks.look.Goals as goal
use Rattle.translations.proofs.looks.look.Goals.{At-loop-record, In-Rule}

-- what is known of the rules that are left, of one list that stands from the start on
state-of : (c : At-loop-record)
    → (let start = c in
    Looking start.args.sheet.now start.args.before start.requires.0.list start.args.tail.now c.loop-record.at c.loop-record.number
    c.loop-record.rule c.loop-record.ends)
state-of c = c.loop-record.invariant.3 c.requires.0.list c.requires.0.reads

-- a rule was passed, and this stands after it
rule-of : (c : In-Rule) (known_state-of : (Looking c.args.sheet.now c.args.before c.requires.0.list c.args.tail.now c.loop-record.at c.loop-record.number
    c.loop-record.rule c.loop-record.ends))
    → (let found = c.in-Rule.found in
    RuleNext known_state-of.reads.holds found.condition found.action found.opens found.start found.middle found.next)
rule-of c known_state-of =
    rule_next known_state-of.reads.holds c.in-Rule.found
    (sym c.pass.ensures ∙ (c.in-Some.is ∙ ap Some c.in-Rule.is))

pub loop-record-init : goal.loop-record-init
loop-record-init c = let over = never-over c.requires.0.reads.holds in (
  omega arith,
  omega arith,
  refl,
  looking_start c.args.sheet.now c.args.from c.args.before c.args.tail.now c.args.ends.now
      c.requires.1.1,
)

pub overflow_add-number : goal.overflow_add-number
overflow_add-number c = let few = (rule-of (goal.at.overflow_add-number c).In-Rule (state-of (goal.at.overflow_add-number c).At-loop-record)).few in omega arith

pub slice_bounds-ending-count : goal.slice_bounds-ending-count
slice_bounds-ending-count c = (rule-of (goal.at.slice_bounds-ending-count c).In-Rule (state-of (goal.at.slice_bounds-ending-count c).At-loop-record)).facts.ending_ahead

pub slice_bounds-ending-start : goal.slice_bounds-ending-start
slice_bounds-ending-start c = (rule-of (goal.at.slice_bounds-ending-start c).In-Rule (state-of (goal.at.slice_bounds-ending-start c).At-loop-record)).facts.ending_ahead

pub slice_bounds-ending-end : goal.slice_bounds-ending-end
slice_bounds-ending-end c = let facts = (rule-of (goal.at.slice_bounds-ending-end c).In-Rule (state-of (goal.at.slice_bounds-ending-end c).At-loop-record)).facts in omega (arith, facts.replacement_ahead, facts.inside)

pub note-requires : goal.note-requires
note-requires c = let facts = (rule-of (goal.at.note-requires c).In-Rule (state-of (goal.at.note-requires c).At-loop-record)).facts in
    let short = c.requires.1.0 in
    omega (arith, facts.replacement_ahead, facts.inside)

pub loop-record-smaller : goal.loop-record-smaller
loop-record-smaller c = let next = rule-of (goal.at.loop-record-smaller c).In-Rule (state-of (goal.at.loop-record-smaller c).At-loop-record) in
    omega (arith, next.forward, next.facts.inside)

pub loop-record-preserved : goal.loop-record-preserved
loop-record-preserved c = let next = rule-of (goal.at.loop-record-preserved c).In-Rule (state-of (goal.at.loop-record-preserved c).At-loop-record) in
    let noted = c.note in
    let first = c.first_with-rule.ensures in
    let here = sym c.pass.ensures ∙ (c.in-Some.is ∙ ap Some c.in-Rule.is) in
    let zeros = ap length c.requires.1.1 in (
      next.facts.inside,
      rule_small _ _ _ _ first c.loop-record.invariant.1 (omega (arith, next.few)),
      noted.auto.ends ∙ c.loop-record.invariant.2,
      λ list reads.
          let state = c.loop-record.invariant.3 list reads in
          looking_rule state (rule_next state.reads.holds c.in-Rule.found here) _ _ first (c.loop-record.invariant.2 ∙ zeros) noted.ensures,
    )

pub shape_of-ends-in-Group : goal.shape_of-ends-in-Group
shape_of-ends-in-Group c = c.loop-record.invariant.2

pub returns-in-Group : goal.returns-in-Group
returns-in-Group c = let turn = c.loop-record in
    let here = sym c.pass.ensures ∙ (c.in-Some.is ∙ ap Some c.in-Group.is) in record { looked = λ list reads. looking_group (turn.invariant.3 list reads) here; upper_bound = omega (arith, turn.invariant.1) }

pub shape_of-ends-in-End : goal.shape_of-ends-in-End
shape_of-ends-in-End c = c.loop-record.invariant.2

pub returns-in-End : goal.returns-in-End
returns-in-End c = let turn = c.loop-record in
    let here = sym c.pass.ensures ∙ (c.in-Some.is ∙ ap Some c.in-End.is) in record { looked = λ list reads. looking_end (turn.invariant.3 list reads) here; upper_bound = omega (arith, turn.invariant.1) }

pub shape_of-ends : goal.shape_of-ends
shape_of-ends c = c.loop-record.invariant.2

pub returns : goal.returns
returns c = absurd (never-alone (state-of (goal.at.returns c).At-loop-record).reads.holds (sym c.pass.ensures ∙ c.in_default.is))
