-- An accepted sheet is the bytes of the list of groups that it reads as, and that list is bounded.
use Rattle.std.specs.Prelude.{ℕ, zero, suc, ◌+◌, ◌≤◌, ◌≡◌, refl, true, false, length}
use Rattle.std.proofs.Common.{ap, ◌∙◌, arith, le-leb}
use mathlib.Core.List.{List, [], ◌∷◌, ◌++◌, append_assoc}
use Rattle.paper.specs.Groups.{Rule, Group}
use Rattle.paper.specs.ListLaws.{empty}
use Rattle.paper.specs.TestLaws.{apart}
use Rattle.records.specs.Framing.{body, record_length, after, record_of}
use Rattle.records.specs.Records.{gate, rule}
use Rattle.records.specs.RecordBytes.{gate_body, rule_body}
use Rattle.records.specs.RecordLaws.{GroupHere, RuleHere}
use Rattle.records.specs.RuleLaws.{rule_allowed}
use Rattle.records.specs.ReadRecords.{group_record_lem, rule_record_lem, end_record_lem}
use Rattle.sheets.specs.Sheets.{misplaced_group, misplaced_rule, Rest, faulty_at_lem, holding, rule_then, group_then, read_rest}
use Rattle.sheets.specs.Sheets.{accepted, whole, read_sheet}
use Rattle.sheets.specs.SheetBytes.{rules_bytes, groups_bytes, sheet_of, all_allowed, groups_allowed, rule_count, first_always, bounded}
use Rattle.sheets.specs.SheetSteps.{few_groups, first_gate, some_group, few_rules, fault_step, group_step, rule_step, end_step}
use Rattle.sheets.specs.SheetSteps.{Found, found_fault, found_group, found_rule, found_end, look}
use Rattle.sheets.specs.ReadBack.{rest_bytes}

-- the rest of a sheet holds these rules and groups, within the bounds that so many groups and rules before it leave
pub record Written (before rules : ℕ) (rest : List ℕ) (list : List Rule) (groups : List Group) : Type 0 where
  pub bytes : rest ≡ rest_bytes list groups
  pub at_most_16 : before + length groups ≤ 16
  pub at_most_128 : rules + (length list + rule_count groups) ≤ 128
  pub each_rule : all_allowed list ≡ true
  pub each_group : groups_allowed groups ≡ true
  pub no_rule_first : before ≡ 0 → length list ≡ 0
  pub first_always_lem : before ≡ 0 → first_always groups ≡ true

pub data WrittenAs (before rules : ℕ) (rest : List ℕ) : Rest → Type 0 where
  not_read : (place : ℕ) → WrittenAs before rules rest (faulty_at_lem place)
  is_read : (list : List Rule) (groups : List Group) → Written before rules rest list groups
      → WrittenAs before rules rest (holding list groups)

module _ (before rules : ℕ) {rest : List ℕ} where
  with_group : {found : Rest} → GroupHere rest → misplaced_group before (body rest) ≡ false
      → WrittenAs (suc before) rules (after rest) found
      → WrittenAs before rules rest (group_then (gate (body rest)) found)
  unfolding rest_bytes groups_bytes rules_bytes rule_count groups_allowed all_allowed
  with_group here placed (not_read place) = not_read place
  with_group here placed (is_read list groups w) =
      is_read [] (record { gate = gate (body rest); rules = list } ∷ groups)
      (record {
        bytes =
            group_record_lem here
            ∙ (ap (λ (l : List ℕ). record_of 1 (gate_body (gate (body rest))) ++ l) w.bytes ∙ simp append_assoc);
        at_most_16 = let h = w.at_most_16 in omega arith;
        at_most_128 = let h = w.at_most_128 in omega arith;
        each_rule = refl;
        each_group = simp (w.each_rule, w.each_group);
        no_rule_first = λ none. refl;
        first_always_lem = λ none. first_gate before (body rest) none here.sound placed;
      })

  with_rule : {found : Rest} → RuleHere rest → misplaced_rule before rules ≡ false
      → WrittenAs before (suc rules) (after rest) found
      → WrittenAs before rules rest (rule_then (rule (body rest)) found)
  unfolding rest_bytes groups_bytes rules_bytes rule_count groups_allowed all_allowed
  with_rule here placed (not_read place) = not_read place
  with_rule here placed (is_read list groups w) =
      is_read (rule (body rest) ∷ list) groups
      (record {
        bytes =
            rule_record_lem here
            ∙ (ap (λ (l : List ℕ). record_of 2 (rule_body (rule (body rest))) ++ l) w.bytes ∙ simp append_assoc);
        at_most_16 = w.at_most_16;
        at_most_128 = let h = w.at_most_128 in omega arith;
        each_rule = simp (rule_allowed (body rest) here.sound, w.each_rule);
        each_group = w.each_group;
        no_rule_first = λ first. absurd (some_group before rules placed first);
        first_always_lem = λ first. absurd (some_group before rules placed first);
      })

module _ (more : ℕ) (further : (before rules place : ℕ) (rest : List ℕ) → before ≤ 16 → rules ≤ 128
    → WrittenAs before rules rest (read_rest more before rules place rest)) where
  with_record : (before rules place : ℕ) (rest : List ℕ) → before ≤ 16 → rules ≤ 128 → Found before rules rest
      → WrittenAs before rules rest (read_rest (suc more) before rules place rest)
  unfolding rest_bytes groups_bytes rules_bytes rule_count groups_allowed all_allowed
  with_record before rules place rest few fewer (found_fault is) = rw (fault_step more before rules place rest is) (not_read place)
  with_record before rules place rest few fewer (found_group here placed) =
      let h = few_groups before (body rest) placed in
      rw (group_step more before rules place here placed)
      (with_group before rules here placed
      (further (suc before) rules (place + record_length rest) (after rest) h fewer))
  with_record before rules place rest few fewer (found_rule here placed) =
      let h = few_rules before rules placed in
      rw (rule_step more before rules place here placed)
      (with_rule before rules here placed
      (further before (suc rules) (place + record_length rest) (after rest) few h))
  with_record before rules place rest few fewer (found_end here) =
      rw (end_step more before rules place here)
      (is_read [] []
      (record {
        bytes = end_record_lem here;
        at_most_16 = omega arith;
        at_most_128 = omega arith;
        each_rule = refl;
        each_group = refl;
        no_rule_first = λ none. refl;
        first_always_lem = λ none. refl;
      }))

pub rest_written : (more before rules place : ℕ) (rest : List ℕ) → before ≤ 16 → rules ≤ 128
    → WrittenAs before rules rest (read_rest more before rules place rest)
unfolding read_rest
rest_written zero before rules place rest few fewer = not_read place
rest_written (suc more) before rules place rest few fewer =
    with_record more (rest_written more) before rules place rest few fewer (look before rules rest)

list_bounded : (list : List Rule) (groups : List Group) (sheet : List ℕ) → Written 0 0 sheet list groups → bounded groups ≡ true
unfolding bounded
list_bounded list groups sheet w =
    let few = w.at_most_16 in
    let fewer = w.at_most_128 in
    simp (
      le-leb (length groups) 16 (omega arith),
      w.first_always_lem refl,
      le-leb (rule_count groups) 128 (omega arith),
      w.each_group,
    )

list_bytes : (list : List Rule) (groups : List Group) (sheet : List ℕ) → Written 0 0 sheet list groups → sheet ≡ sheet_of groups
unfolding sheet_of rest_bytes rules_bytes
list_bytes list groups sheet w = w.bytes ∙ ap (λ (l : List Rule). rest_bytes l groups) (empty list (w.no_rule_first refl))

all_written : {found : Rest} (sheet : List ℕ) (groups : List Group) → WrittenAs 0 0 sheet found → whole found ≡ accepted groups
    → (sheet ≡ sheet_of groups) × (bounded groups ≡ true)
all_written sheet groups (not_read place) is = apart (cc)
all_written sheet groups (is_read list found w) is =
    let same : found ≡ groups = cc in
    rw (← same) (list_bytes list found sheet w, list_bounded list found sheet w)

pub write_back : (sheet : List ℕ) (groups : List Group) → read_sheet sheet ≡ accepted groups
    → (sheet ≡ sheet_of groups) × (bounded groups ≡ true)
unfolding read_sheet
write_back sheet groups is =
    all_written sheet groups
    (rest_written (length sheet) 0 0 0 sheet (omega arith) (omega arith))
    is
