-- The way through a sheet, record by record: what the rest of it is where a record starts, and how one record carries that on.
use Rattle.std.specs.Prelude.{ℕ, suc, ◌+◌, ◌≤◌, ◌<◌, ◌≡◌, refl, true, false, cond, Some, None, List, [], ◌∷◌, ◌++◌, eqb, ltb, length, drop}
use Rattle.std.proofs.Math.Path.{sym}
use Rattle.std.proofs.Common.{ap, ◌∙◌, add-one, arith, length-drop, ltb-true, ltb-false}
use Rattle.std.proofs.lemmas.Bool.{false≢true}
use Rattle.paper.specs.Groups.{Rule, Gate, always, if_opened, Group}
use Rattle.paper.specs.ListLaws.{empty}
use Rattle.paper.specs.TestLaws.{apart, by_test, neither_left}
use Rattle.records.specs.Framing.{body, record_length, after, next_place, record_of}
use Rattle.records.specs.FramingLaws.{length_after, beyond}
use Rattle.records.specs.Records.{gate, rule, faulty_alone}
use Rattle.records.specs.RecordBytes.{rule_body}
use Rattle.records.specs.ReadRecords.{rule_record_lem}
use Rattle.records.specs.RecordAnswers.{record_at}
use Rattle.passing.specs.Passed.{passed_at}
use Rattle.passing.specs.PassedLaws.{passed_is}
use Rattle.records.specs.RecordLaws.{EndHere}
use Rattle.records.specs.RecordPlaces.{GroupAt, RuleFacts, RuleAt, record_here}
use Rattle.records.specs.declared.Record.TheVariants.{Group as GroupRecord, Rule as RuleRecord, End as EndRecord}
use Rattle.records.specs.declared.RuleRecord.{RuleRecord as RuleNumbers}
use Rattle.sheets.specs.Sheets.{misplaced_group, misplaced_rule, misplaced, faulty, Rest, faulty_at_lem, holding, rule_then, group_then}
use Rattle.sheets.specs.Sheets.{read_rest, rest_at, Sheet, refused, accepted, whole, read_sheet}
use Rattle.sheets.specs.SheetSteps.{fault_alone, group_fault, rule_fault, few_groups, few_rules, faulty-empty, enough}
use Rattle.sheets.specs.SheetSteps.{fault_step, group_step, rule_step, end_step}
use Rattle.sheets.specs.WriteBack.{WrittenAs, not_read, is_read, rest_written}

-- ## The start
-- no rule stands before the first group
abbrev pub start_of : Sheet → Rest
start_of (refused place) = faulty_at_lem place
start_of (accepted groups) = holding [] groups

from_start : {found : Rest} (sheet : List ℕ) → WrittenAs 0 0 sheet found → found ≡ start_of (whole found)
from_start sheet (not_read place) = refl
from_start sheet (is_read list groups w) = rw (empty list (w.no_rule_first refl))

pub rest_start : (sheet : List ℕ) → rest_at sheet 0 0 0 ≡ start_of (read_sheet sheet)
unfolding read_sheet
rest_start sheet = from_start sheet (rest_written (length sheet) 0 0 0 sheet (omega arith) (omega arith))

-- ## One record
module _ (sheet : List ℕ) (at groups rules : ℕ) where
  abbrev rest : List ℕ
  rest = drop at sheet

  one_record : rest_at sheet at groups rules ≡ read_rest (suc (length rest)) groups rules at rest
  one_record = enough (length rest) (suc (length rest)) groups rules at rest (omega arith) (omega arith)

  -- what is left after it, as it is read from the next place on
  left : (g r : ℕ) {next : ℕ} → next ≡ next_place sheet at
      → read_rest (length rest) g r (at + record_length rest) (after rest) ≡ rest_at sheet next g r
  unfolding next_place
  left g r is =
      enough (length rest) (length (after rest)) g r (at + record_length rest) (after rest) (omega (arith, length_after rest)) (omega arith)
      ∙ rw (is, beyond sheet at)

  pub rest_fault : faulty groups rules rest ≡ true → rest_at sheet at groups rules ≡ faulty_at_lem at
  rest_fault is = one_record ∙ fault_step (length rest) groups rules at rest is

  pub rest_group : {number next : ℕ} → GroupAt sheet at number next → misplaced_group groups (body rest) ≡ false
      → rest_at sheet at groups rules ≡ group_then (gate (body rest)) (rest_at sheet next (groups + 1) rules)
  rest_group is placed =
      rw (add-one groups)
      (one_record
      ∙ (group_step (length rest) groups rules at is.here placed
      ∙ ap (group_then (gate (body rest))) (left (suc groups) rules is.next_is)))

  pub rest_rule : {c a o start middle next : ℕ} → RuleAt sheet at c a o start middle next → misplaced_rule groups rules ≡ false
      → rest_at sheet at groups rules ≡ rule_then (rule (body rest)) (rest_at sheet next groups (rules + 1))
  rest_rule is placed =
      rw (add-one rules)
      (one_record
      ∙ (rule_step (length rest) groups rules at is.here placed
      ∙ ap (rule_then (rule (body rest))) (left groups (suc rules) is.next_is)))

  pub rest_end : EndHere rest → rest_at sheet at groups rules ≡ holding [] []
  rest_end here = one_record ∙ end_step (length rest) groups rules at here

-- ## An accepted sheet
-- the rest of the sheet from a place on, after so many groups and rules, holds rules up to the next group, and groups
pub record Holding (sheet : List ℕ) (at groups rules : ℕ) (list : List Rule) (more : List Group) : Type 0 where
  pub rest_is : rest_at sheet at groups rules ≡ holding list more

pub holding_start : (sheet : List ℕ) (groups : List Group) → read_sheet sheet ≡ accepted groups → Holding sheet 0 0 0 [] groups
holding_start sheet groups is = record { rest_is = rest_start sheet ∙ ap start_of is }

-- what stands before the rest
record AfterGroup (one : Gate) (found : Rest) (list : List Rule) (more : List Group) : Type 0 where
  rules_then : List Rule
  groups_then : List Group
  rest_then : found ≡ holding rules_then groups_then
  none_before : list ≡ []
  group_first : more ≡ record { gate = one; rules = rules_then } ∷ groups_then

after_group : (one : Gate) (found : Rest) (list : List Rule) (more : List Group)
    → group_then one found ≡ holding list more → AfterGroup one found list more
after_group one (faulty_at_lem place) list more e = apart (cc)
after_group one (holding rules groups) list more e =
    record { rules_then = rules; groups_then = groups; rest_then = refl; none_before = cc; group_first = cc }

record AfterRule (one : Rule) (found : Rest) (list : List Rule) (more : List Group) : Type 0 where
  rules_then : List Rule
  rest_then : found ≡ holding rules_then more
  rule_first : list ≡ one ∷ rules_then

after_rule : (one : Rule) (found : Rest) (list : List Rule) (more : List Group) → rule_then one found ≡ holding list more
    → AfterRule one found list more
after_rule one (faulty_at_lem place) list more e = apart (cc)
after_rule one (holding rules groups) list more e =
    let same-groups : groups ≡ more = cc in
    record { rules_then = rules; rest_then = ap (holding rules) same-groups; rule_first = cc }

-- a group stands here, whose record has this number for its gate; the next record starts at `next`
pub record GroupNext {sheet : List ℕ} {at groups rules : ℕ} {list : List Rule} {more : List Group}
    (here : Holding sheet at groups rules list more) (number next : ℕ) : Type 0 where
  pub rules_then : List Rule
  pub groups_then : List Group
  pub gate_then : Gate
  pub gate_is : gate_then ≡ cond (eqb number 0) always if_opened
  pub holds : Holding sheet next (groups + 1) rules rules_then groups_then
  pub none_before : list ≡ []
  pub group_first : more ≡ record { gate = gate_then; rules = rules_then } ∷ groups_then
  pub forward : at < next
  pub inside : next ≤ length sheet
  pub few : groups < 16

-- a rule stands here
pub record RuleNext {sheet : List ℕ} {at groups rules : ℕ} {list : List Rule} {more : List Group}
    (here : Holding sheet at groups rules list more) (c a o start middle next : ℕ) : Type 0 where
  pub one : Rule
  pub facts : RuleFacts sheet c a o start middle next one
  pub bytes_here : drop at sheet ≡ record_of 2 (rule_body one) ++ drop next sheet
  pub rules_then : List Rule
  pub holds : Holding sheet next groups (rules + 1) rules_then more
  pub rule_first : list ≡ one ∷ rules_then
  pub forward : at < next
  pub few : rules < 128

module _ {sheet : List ℕ} {at groups rules : ℕ} {list : List Rule} {more : List Group}
    (here : Holding sheet at groups rules list more) where
  never-faulty : faulty groups rules (drop at sheet) ≡ false
  never-faulty =
      by_test (faulty groups rules (drop at sheet))
      (λ wrong. let refused-here = sym (rest_fault sheet at groups rules wrong) ∙ here.rest_is in apart (cc)) (λ right. right)

  pub never-over : at < length sheet
  never-over =
      by_test (ltb at (length sheet)) (ltb-true at (length sheet))
      (λ p.
      let over = ltb-false at (length sheet) p in
      let none : length (drop at sheet) ≤ 0 = omega (arith, length-drop at sheet) in
      absurd (false≢true (sym never-faulty ∙ faulty-empty groups rules (drop at sheet) none)))

  -- so it need not be judged again
  read_again : passed_at sheet at ≡ record_at sheet at
  unfolding faulty
  read_again = sym (passed_is sheet at (neither_left (faulty_alone (drop at sheet)) (misplaced groups rules (drop at sheet)) never-faulty))

  pub never-alone : passed_at sheet at ≡ None → ⊥
  never-alone e =
      false≢true (sym never-faulty ∙ fault_alone groups rules (drop at sheet) (record_here sheet at None (sym read_again ∙ e)))

  pub group_next : {number next : ℕ} → passed_at sheet at ≡ Some (GroupRecord number next) → GroupNext here number next
  group_next {number} {next} e =
      let is = record_here sheet at (Some (GroupRecord number next)) (sym read_again ∙ e) in
      let placed = sym (group_fault groups rules is.here) ∙ never-faulty in
      let found =
      after_group (gate (body (drop at sheet))) (rest_at sheet next (groups + 1) rules) list more
      (sym (rest_group sheet at groups rules is placed) ∙ here.rest_is) in
      record {
        rules_then = found.rules_then;
        groups_then = found.groups_then;
        gate_then = gate (body (drop at sheet));
        gate_is = is.gate_is;
        holds = record { rest_is = found.rest_then };
        none_before = found.none_before;
        group_first = found.group_first;
        forward = is.forward;
        inside = is.inside;
        few = few_groups groups (body (drop at sheet)) placed;
      }

  pub rule_next : (r : RuleNumbers) → passed_at sheet at ≡ Some (RuleRecord r)
      → RuleNext here r.condition r.action r.opens r.start r.middle r.next
  rule_next r e =
      let is = record_here sheet at (Some (RuleRecord r)) (sym read_again ∙ e) in
      let placed = sym (rule_fault groups rules is.here) ∙ never-faulty in
      let found =
      after_rule (rule (body (drop at sheet))) (rest_at sheet r.next groups (rules + 1)) list more
      (sym (rest_rule sheet at groups rules is placed) ∙ here.rest_is) in
      record {
        one = rule (body (drop at sheet));
        facts = is.facts;
        bytes_here = let next-bytes : after (drop at sheet) ≡ drop r.next sheet = rw is.next_is (sym (beyond sheet at)) in
            rw next-bytes at (rule_record_lem is.here);
        rules_then = found.rules_then;
        holds = record { rest_is = found.rest_then };
        rule_first = found.rule_first;
        forward = is.forward;
        few = few_rules groups rules placed;
      }

  pub end_next : passed_at sheet at ≡ Some EndRecord → (list ≡ []) × (more ≡ [])
  end_next e =
      let is = record_here sheet at (Some EndRecord) (sym read_again ∙ e) in
      let ended = sym (rest_end sheet at groups rules is) ∙ here.rest_is in
      (cc, cc)
