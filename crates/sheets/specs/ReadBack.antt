-- Reading the bytes of a bounded list of groups gives that list.
use Rattle.std.specs.Prelude.{ℕ, zero, suc, ◌+◌, ◌≤◌, ◌<◌, ◌≡◌, refl, true, false, ◌&&◌, List, [], ◌∷◌, ◌++◌, leb, length}
use Rattle.std.proofs.Common.{ap, append_assoc, arith, length-append, leb-true, eqb-true}
use Rattle.std.proofs.Math.Dec.{eqb-suc-zero}
use Rattle.std.proofs.lemmas.Bool.{lt-leb}
use Rattle.paper.specs.Groups.{Rule, Gate, number_of_gate, Group}
use Rattle.paper.specs.TestLaws.{and_left, and_right, and_parts}
use Rattle.records.specs.Framing.{number, body_length, record_length, after, two, record_of}
use Rattle.records.specs.FramingLaws.{kind_read, body_read, after_read, record_length_read, whole_read, some_bytes}
use Rattle.records.specs.Records.{faulty_rule, faulty_end}
use Rattle.records.specs.RecordBytes.{gate_body, rule_body, allowed}
use Rattle.records.specs.RecordLaws.{GroupHere, RuleHere, EndHere}
use Rattle.records.specs.GateLaws.{gate_read, gate_number_lem, gate_sound}
use Rattle.records.specs.WrittenRules.{rule_read, rule_sound}
use Rattle.sheets.specs.Sheets.{misplaced_group, misplaced_rule, holding, rule_then, group_then, read_rest, accepted, whole, read_sheet}
use Rattle.sheets.specs.SheetBytes.{rules_bytes, groups_bytes, sheet_of, all_allowed, groups_allowed, rule_count, first_always, bounded}
use Rattle.sheets.specs.SheetSteps.{group_step, rule_step, end_step}

-- the rest of a sheet that holds these rules, and then these groups
unfoldable pub rest_bytes : List Rule → List Group → List ℕ
rest_bytes rules groups = rules_bytes rules ++ (groups_bytes groups ++ record_of 3 [])

-- ## Written records
module _ (one : Rule) (rest : List ℕ) where
  pub rule_here : faulty_rule (rule_body one) ≡ false → RuleHere (record_of 2 (rule_body one) ++ rest)
  rule_here sound =
      record {
        whole = whole_read 2 (rule_body one) rest;
        is_rule = kind_read 2 (rule_body one) rest;
        sound = rw (body_read 2 (rule_body one) rest) sound;
      }

pub group_here : (one : Gate) (rest : List ℕ) → GroupHere (record_of 1 (gate_body one) ++ rest)
group_here one rest =
    record {
      whole = whole_read 1 (gate_body one) rest;
      is_group = kind_read 1 (gate_body one) rest;
      sound = rw (body_read 1 (gate_body one) rest) (gate_sound one);
    }

pub end_here : EndHere (record_of 3 [])
unfolding record_of two faulty_end body_length number after record_length
end_here = record { whole = whole_read 3 [] []; is_end = kind_read 3 [] []; sound = refl }

pub misplaced_not : (groups : ℕ) (one : Gate) → groups < 16 → (groups ≡ 0 → number_of_gate one ≡ 0)
    → misplaced_group groups (gate_body one) ≡ false
unfolding misplaced_group
misplaced_not zero one few first = rw (gate_number_lem one, first refl) refl
misplaced_not (suc groups) one few first = simp (eqb-suc-zero groups, lt-leb 16 (suc groups) few)

pub rule_placed : (groups rules : ℕ) → 0 < groups → rules < 128 → misplaced_rule groups rules ≡ false
unfolding misplaced_rule
rule_placed zero rules some few = absurd (omega arith)
rule_placed (suc groups) rules some few = simp (eqb-suc-zero groups, lt-leb 128 rules few)

-- ## A record at the start of the rest
module _ (more groups rules place : ℕ) (rest : List ℕ) where
  pub read_rule : (one : Rule) → faulty_rule (rule_body one) ≡ false → misplaced_rule groups rules ≡ false
      → read_rest (suc more) groups rules place (record_of 2 (rule_body one) ++ rest)
      ≡ rule_then one (read_rest more groups (suc rules) (place + length (record_of 2 (rule_body one))) rest)
  read_rule one sound placed =
      rw (
        rule_step more groups rules place (rule_here one rest sound) placed,
        body_read 2 (rule_body one) rest,
        after_read 2 (rule_body one) rest,
        record_length_read 2 (rule_body one) rest,
        rule_read one,
      )
      refl

  pub read_group : (one : Gate) → misplaced_group groups (gate_body one) ≡ false
      → read_rest (suc more) groups rules place (record_of 1 (gate_body one) ++ rest)
      ≡ group_then one (read_rest more (suc groups) rules (place + length (record_of 1 (gate_body one))) rest)
  read_group one placed =
      rw (
        group_step more groups rules place (group_here one rest) (rw (body_read 1 (gate_body one) rest) placed),
        body_read 1 (gate_body one) rest,
        after_read 1 (gate_body one) rest,
        record_length_read 1 (gate_body one) rest,
        gate_read one,
      )
      refl

-- ## All of it
-- groups from here on are read
abbrev Reads : List Group → Type 0
Reads groups =
    (more before rules place : ℕ)
    → before + length groups ≤ 16
    → rules + rule_count groups ≤ 128
    → groups_allowed groups ≡ true
    → (before ≡ 0 → first_always groups ≡ true)
    → length (groups_bytes groups ++ record_of 3 []) ≤ more
    → read_rest more before rules place (groups_bytes groups ++ record_of 3 []) ≡ holding [] groups

rules_first : (groups : List Group) → Reads groups → (list : List Rule) (more before rules place : ℕ) → 0 < before
    → before + length groups ≤ 16 → rules + (length list + rule_count groups) ≤ 128 → all_allowed list ≡ true
    → groups_allowed groups ≡ true → length (rest_bytes list groups) ≤ more
    → read_rest more before rules place (rest_bytes list groups) ≡ holding list groups
unfolding rest_bytes rules_bytes all_allowed
rules_first groups read [] more before rules place positive few fewer all each enough =
    read more before rules place few (omega arith) each (λ none. absurd (omega arith)) enough
rules_first groups read (one ∷ list) zero before rules place positive few fewer all each enough =
    let some = some_bytes 2 (rule_body one) in
    absurd
    (omega (
      arith,
      length-append (record_of 2 (rule_body one) ++ rules_bytes list) (groups_bytes groups ++ record_of 3 []),
      length-append (record_of 2 (rule_body one)) (rules_bytes list),
    ))
rules_first groups read (one ∷ list) (suc more) before rules place positive few fewer all each enough =
    let some = some_bytes 2 (rule_body one) in
    let size = length-append (record_of 2 (rule_body one)) (rest_bytes list groups) in
    let joined = append_assoc (record_of 2 (rule_body one)) (rules_bytes list) (groups_bytes groups ++ record_of 3 []) in
    let long = ap length joined in
    rw (
      joined,
      read_rule more before rules place (rest_bytes list groups) one
          (rule_sound one (and_left (allowed one) (all_allowed list) all))
          (rule_placed before rules positive (omega arith)),
      rules_first groups read list more before (suc rules) (place + length (record_of 2 (rule_body one))) positive few (omega arith)
          (and_right (allowed one) (all_allowed list) all)
          each
          (omega arith),
    )
    refl

group_bytes : (one : Group) (groups : List Group)
    → groups_bytes (one ∷ groups) ++ record_of 3 [] ≡ record_of 1 (gate_body one.gate) ++ rest_bytes one.rules groups
unfolding groups_bytes rest_bytes
group_bytes one groups = simp append_assoc

groups_read : (groups : List Group) → Reads groups
unfolding groups_bytes groups_allowed rule_count record_of two
groups_read [] zero before rules place few fewer each first enough = absurd (omega arith)
groups_read [] (suc more) before rules place few fewer each first enough = end_step more before rules place end_here
groups_read (one ∷ groups) zero before rules place few fewer each first enough =
    let some = some_bytes 1 (gate_body one.gate) in
    let size = length-append (record_of 1 (gate_body one.gate)) (rest_bytes one.rules groups) in
    absurd (omega (arith, ap length (group_bytes one groups)))
groups_read (one ∷ groups) (suc more) before rules place few fewer each first enough =
    let some = some_bytes 1 (gate_body one.gate) in
    let size = length-append (record_of 1 (gate_body one.gate)) (rest_bytes one.rules groups) in
    let long = ap length (group_bytes one groups) in
    rw (
      group_bytes one groups,
      read_group more before rules place (rest_bytes one.rules groups) one.gate
          (misplaced_not before one.gate (omega arith) (λ none. eqb-true (number_of_gate one.gate) 0 (first none))),
      rules_first groups (groups_read groups) one.rules more (suc before) rules (place + length (record_of 1 (gate_body one.gate)))
          (omega arith)
          (omega arith)
          (omega arith)
          (and_left (all_allowed one.rules) (groups_allowed groups) each)
          (and_right (all_allowed one.rules) (groups_allowed groups) each)
          (omega arith),
    )
    refl

-- what is known of a list within the bounds
pub record Within (groups : List Group) : Type 0 where
  pub at_most_16 : length groups ≤ 16
  pub always_first : first_always groups ≡ true
  pub at_most_128 : rule_count groups ≤ 128
  pub each : groups_allowed groups ≡ true

pub within : (groups : List Group) → bounded groups ≡ true → Within groups
unfolding bounded
within groups all =
    let few = leb (length groups) 16 in
    let first = first_always groups in
    let fewer = leb (rule_count groups) 128 in
    let three = and_parts (few && first && fewer) (groups_allowed groups) all in
    let two = and_parts (few && first) fewer three.0 in
    let one = and_parts few first two.0 in
    record {
      at_most_16 = leb-true (length groups) 16 one.0;
      always_first = one.1;
      at_most_128 = leb-true (rule_count groups) 128 two.1;
      each = three.1;
    }

pub read_back : (groups : List Group) → bounded groups ≡ true → read_sheet (sheet_of groups) ≡ accepted groups
unfolding read_sheet sheet_of
read_back groups all =
    let is = within groups all in
    ap whole
    (groups_read groups (length (groups_bytes groups ++ record_of 3 [])) 0 0 0
    (omega (arith, is.at_most_16))
    (omega (arith, is.at_most_128))
    is.each
    (λ none. is.always_first)
    (omega arith))
