-- Walking the groups of a sheet one after another, record by record.
use Rattle.std.specs.Prelude.{ℕ, ◌+◌, ◌≤◌, ◌≡◌, Bool, true, false, cond, ◌||◌, Some, eqb, take}
use Rattle.std.proofs.Common.{sym, ap, subst, ◌∙◌, arith, length-take}
use mathlib.Core.List.{List, [], ◌∷◌}
use Rattle.std.proofs.Math.Numerals.{add-one}
use Rattle.std.proofs.Math.ListN.{length}
use Rattle.std.proofs.Math.Seq.{take-length}
use Rattle.paper.specs.Groups.{Rule, Gate, always, if_opened, Group, runs, Turn, Step, steps, done, outgrown, reading, through}
use Rattle.paper.specs.TurnLaws.{turn_skipped, turn_run, turn_outgrown}
use Rattle.passing.specs.Passed.{passed_at}
use Rattle.records.specs.declared.Record.TheVariants.{End as EndRecord}
use Rattle.sheets.specs.Sheets.{rest_at}
use Rattle.walks.specs.Walk.{Nodes, walked, walk_group, walk_turns, walk_word}
use Rattle.paper.specs.TestLaws.{by_test, neither_right}
use Rattle.sheets.specs.Accepted.{groups_of, Accepted}
use Rattle.sheets.specs.SheetPlaces.{Holding, holding_start, GroupNext, RuleNext, end_next}
use Rattle.tables.specs.TryLaws.{rules_of, groups_after, Readable}
use Rattle.tables.specs.GroupStepLaws.{Outgrows, Stepped}

-- the rest of the sheet decides what the walk leaves
pub record Walking (nodes : Nodes) (sheet first : List ℕ) (at next rules : ℕ) (opened : Bool) (word : List ℕ) : Type 0 where
  pub list : List Rule
  pub more : List Group
  pub holds : Holding sheet at next rules list more
  pub short : length word ≤ length first
  pub decides :
      through (length first) (walk_turns nodes next (rules + 1 + length list) more) opened word ≡ walk_word nodes (groups_of sheet) first

pub walking_start :
    (nodes : Nodes) (sheet first : List ℕ) → Accepted sheet → Walking nodes sheet first 0 0 0 false (take (length first) first)
unfolding walk_word
walking_start nodes sheet first is =
    record {
      list = [];
      more = groups_of sheet;
      holds = holding_start sheet (groups_of sheet) is;
      short = rw take-length (omega arith);
      decides = rw take-length;
    }

readable : {sheet : List ℕ} {at groups rules : ℕ} {list : List Rule} {more : List Group} → Holding sheet at groups rules list more
    → Readable sheet at groups rules × (rules_of (rest_at sheet at groups rules) ≡ list)
unfolding rules_of groups_after
readable here = (rw here.rest_is, rw here.rest_is)

-- the group is run, or not
runs_by : (number : ℕ) (opened : Bool) → runs (cond (eqb number 0) always if_opened) opened ≡ (eqb number 0 || opened)
runs_by number opened = by_test (eqb number 0) (λ p. rw p) (λ p. rw p)

module _ {nodes : Nodes} {sheet first : List ℕ} {at next rules : ℕ} {opened : Bool} {word : List ℕ}
    (state : Walking nodes sheet first at next rules opened word) where
  module _ {number after_group : ℕ} (found : GroupNext state.holds number after_group) where
    pub walking_readable : Readable sheet after_group (next + 1) rules
    walking_readable = (readable found.holds).0

    number_here : rules + 1 + length state.list ≡ rules + 1
    number_here = let none = ap length found.none_before in omega (arith, none)

    from_here : through (length first) (walk_turns nodes next (rules + 1) state.more) opened word ≡ walk_word nodes (groups_of sheet) first
    from_here = rw number_here at state.decides

    gated : (test : Bool) → (eqb number 0 || opened) ≡ test → runs found.gate_then opened ≡ test
    gated test t = ap (λ (one : Gate). runs one opened) found.gate_is ∙ runs_by number opened ∙ t

    rules_here : rules_of (rest_at sheet after_group (next + 1) rules) ≡ found.rules_then
    rules_here = (readable found.holds).1

    abbrev later : List Turn
    later = walk_turns nodes (next + 1) (rules + 1 + length found.rules_then) found.groups_then

    split :
        walk_turns nodes next (rules + 1) state.more
        ≡ record { gate = found.gate_then; obeys = λ one. walked nodes next (rules + 1) one found.rules_then } ∷ later
    unfolding walk_turns
    split = rw (found.group_first, add-one next)

    go_on : (word-then : List ℕ) (opened-then : Bool) → length word-then ≤ length first
        → through (length first) (walk_turns nodes next (rules + 1) state.more) opened word
        ≡ through (length first) later opened-then word-then
        → Walking nodes sheet first after_group (next + 1) rules opened-then word-then
    go_on word-then opened-then fits e =
        record { list = found.rules_then; more = found.groups_then; holds = found.holds; short = fits; decides = sym e ∙ from_here }

    -- a group that is not run opens none
    pub walking_skip : (eqb number 0 || opened) ≡ false → Walking nodes sheet first after_group (next + 1) rules opened word
    walking_skip t =
        rw (neither_right (eqb number 0) opened t)
        (go_on word false state.short (turn_skipped (length first) split opened word (gated false t) state.short))

    module _ (t : (eqb number 0 || opened) ≡ true) where
      abbrev step_of : List Rule → Step
      step_of list = walk_group nodes next (rules + 1) word list

      pub walking_step : (after : List ℕ) (size : ℕ) (opened-then : Bool)
          → Stepped (step_of (rules_of (rest_at sheet after_group (next + 1) rules))) (length first) after size opened-then
          → Walking nodes sheet first after_group (next + 1) rules opened-then (take size after)
      walking_step after size opened-then stepped =
          let own = subst (λ (list : List Rule). Stepped (step_of list) (length first) after size opened-then) rules_here stepped in
          let run = turn_run (length first) split opened word (gated true t) own.fits in
          go_on (take size after) opened-then (omega (arith, own.inside, length-take size after)) (rw (own.letters, own.opened_is) run)

      pub walking_outgrown : Outgrows (step_of (rules_of (rest_at sheet after_group (next + 1) rules))) (length first)
          → outgrown ≡ walk_word nodes (groups_of sheet) first
      walking_outgrown over =
          let own = subst (λ (list : List Rule). Outgrows (step_of list) (length first)) rules_here over in
          sym (turn_outgrown (length first) split opened word (gated true t) own) ∙ from_here

  pub walking_rule : {c a o start middle after : ℕ} → RuleNext state.holds c a o start middle after
      → Walking nodes sheet first after next (rules + 1) opened word
  walking_rule found =
      let shorter = ap length found.rule_first in
      let same_number : rules + 1 + 1 + length found.rules_then ≡ rules + 1 + length state.list = omega (arith, shorter) in
      record {
        list = found.rules_then;
        more = state.more;
        holds = found.holds;
        short = state.short;
        decides = rw same_number state.decides;
      }

  pub walking_end : passed_at sheet at ≡ Some EndRecord → done word ≡ walk_word nodes (groups_of sheet) first
  unfolding walk_turns steps reading
  walking_end here =
      let over = end_next state.holds here in
      ended state.more over.1 ∙ state.decides
    where
      ended :
          (more : List Group)
          → more ≡ []
          → done word ≡ through (length first) (walk_turns nodes next (rules + 1 + length state.list) more) opened word
      ended more e = rw e
