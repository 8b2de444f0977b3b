-- Reading a sheet, record by record: one step of reading for each kind of record, and what its place says of the counts before
-- it.
use Rattle.std.specs.Prelude.{ℕ, zero, suc, ◌+◌, ◌≤◌, ◌<◌, ◌≡◌, ◌&&◌, List, [], ◌∷◌, eqb, leb, length}
use Rattle.std.proofs.Math.Path.{refl}
use Rattle.std.proofs.Common.{sym, ap, ◌∙◌, true≢false, arith, leb-false, eq-eqb}
use Rattle.std.proofs.Math.Bool.{true, false}
use Rattle.std.proofs.lemmas.Bool.{eqb-false}
use Rattle.paper.specs.Groups.{number_of_gate}
use Rattle.paper.specs.TestLaws.{by_test, neither_left, neither_right}
use Rattle.records.specs.Framing.{body, record_length, after, cut}
use Rattle.records.specs.FramingLaws.{within, length_after}
use Rattle.records.specs.GateLaws.{gate_at_most}
use Rattle.records.specs.Records.{gate_number, gate, rule, faulty_group, faulty_alone}
use Rattle.records.specs.RecordLaws.{GroupHere, RuleHere, EndHere, Alone, a_fault, a_group, a_rule, an_end, alone}
use Rattle.records.specs.RecordLaws.{at_group, at_rule, at_end}
use Rattle.sheets.specs.Sheets.{misplaced_group, misplaced_rule, misplaced, faulty}
use Rattle.sheets.specs.Sheets.{faulty_at_lem, holding, rule_then, group_then, read_rest}

-- ## One record
pub fault_alone : (groups rules : ℕ) (rest : List ℕ) → faulty_alone rest ≡ true → faulty groups rules rest ≡ true
unfolding faulty
fault_alone groups rules rest is = simp is

module _ (groups rules : ℕ) {rest : List ℕ} where
  -- one that is not faulty by itself is faulty where it is misplaced
  pub group_fault : GroupHere rest → faulty groups rules rest ≡ misplaced_group groups (body rest)
  unfolding faulty faulty_alone misplaced
  group_fault here = rw (here.whole, at_group _ _ _ _ true here.is_group, here.sound, at_group _ _ _ _ false here.is_group)

  pub rule_fault : RuleHere rest → faulty groups rules rest ≡ misplaced_rule groups rules
  unfolding faulty faulty_alone misplaced
  rule_fault here = rw (here.whole, at_rule _ _ _ _ true here.is_rule, here.sound, at_rule _ _ _ _ false here.is_rule)

  pub end_fault : EndHere rest → faulty groups rules rest ≡ false
  unfolding faulty faulty_alone misplaced
  end_fault here = rw (here.whole, at_end _ _ _ _ true here.is_end, here.sound, at_end _ _ _ _ false here.is_end)

-- what stands at a place, after so many groups and rules
pub data Found (groups rules : ℕ) (rest : List ℕ) : Type 0 where
  found_fault : faulty groups rules rest ≡ true → Found groups rules rest
  found_group : GroupHere rest → misplaced_group groups (body rest) ≡ false → Found groups rules rest
  found_rule : RuleHere rest → misplaced_rule groups rules ≡ false → Found groups rules rest
  found_end : EndHere rest → Found groups rules rest

module _ (groups rules : ℕ) (rest : List ℕ) where
  placed : Alone rest → Found groups rules rest
  placed (a_fault is) = found_fault (fault_alone groups rules rest is)
  placed (a_group here) =
      by_test (misplaced_group groups (body rest)) (λ is. found_fault (group_fault groups rules here ∙ is)) (found_group here)
  placed (a_rule here) =
      by_test (misplaced_rule groups rules) (λ is. found_fault (rule_fault groups rules here ∙ is)) (found_rule here)
  placed (an_end here) = found_end here

  pub look : Found groups rules rest
  look = placed (alone rest)

-- ## Its place
pub few_groups : (groups : ℕ) (body : List ℕ) → misplaced_group groups body ≡ false → groups < 16
unfolding misplaced_group
few_groups groups body placed =
    leb-false 16 groups (neither_right (eqb groups 0 && eqb (gate_number body) 1) (leb 16 groups) placed)

pub first_gate : (groups : ℕ) (body : List ℕ) → groups ≡ 0 → faulty_group body ≡ false → misplaced_group groups body ≡ false
    → eqb (number_of_gate (gate body)) 0 ≡ true
unfolding gate misplaced_group
first_gate groups body none sound placed =
    by_test (eqb (gate_number body) 0) (λ is. rw is)
    (λ is.
    let low = gate_at_most body sound in
    let some = eqb-false (gate_number body) 0 is in
    let one = eq-eqb (gate_number body) 1 (by_cases (gate_number body) low some) in
    let first = neither_left (eqb groups 0 && eqb (gate_number body) 1) (leb 16 groups) placed in
    absurd (true≢false (simp (none, one) at first)))
  where
    by_cases : (n : ℕ) → n ≤ 1 → (n ≡ 0 → ⊥) → n ≡ 1
    by_cases n low some = omega arith

pub some_group : (groups rules : ℕ) → misplaced_rule groups rules ≡ false → groups ≡ 0 → ⊥
unfolding misplaced_rule
some_group groups rules placed = eqb-false groups 0 (neither_left (eqb groups 0) (leb 128 rules) placed)

pub few_rules : (groups rules : ℕ) → misplaced_rule groups rules ≡ false → rules < 128
unfolding misplaced_rule
few_rules groups rules placed = leb-false 128 rules (neither_right (eqb groups 0) (leb 128 rules) placed)

-- ## One step of reading
pub fault_step : (more groups rules place : ℕ) (rest : List ℕ) → faulty groups rules rest ≡ true
    → read_rest (suc more) groups rules place rest ≡ faulty_at_lem place
unfolding read_rest
fault_step more groups rules place rest is = rw is refl

module _ (more groups rules place : ℕ) {rest : List ℕ} where
  pub group_step : GroupHere rest → misplaced_group groups (body rest) ≡ false
      → read_rest (suc more) groups rules place rest
      ≡ group_then (gate (body rest)) (read_rest more (suc groups) rules (place + record_length rest) (after rest))
  unfolding read_rest
  group_step here well = rw (group_fault groups rules here ∙ well, at_group _ _ _ _ _ here.is_group) refl

  pub rule_step : RuleHere rest → misplaced_rule groups rules ≡ false
      → read_rest (suc more) groups rules place rest
      ≡ rule_then (rule (body rest)) (read_rest more groups (suc rules) (place + record_length rest) (after rest))
  unfolding read_rest
  rule_step here well = rw (rule_fault groups rules here ∙ well, at_rule _ _ _ _ _ here.is_rule) refl

  pub end_step : EndHere rest → read_rest (suc more) groups rules place rest ≡ holding [] []
  unfolding read_rest
  end_step here = rw (end_fault groups rules here, at_end _ _ _ _ _ here.is_end) refl

-- ## The first number is enough if it is at least the length
pub faulty-empty : (groups rules : ℕ) (rest : List ℕ) → length rest ≤ 0 → faulty groups rules rest ≡ true
unfolding faulty faulty_alone cut
faulty-empty groups rules [] none = refl
faulty-empty groups rules (x ∷ rest) none = absurd (omega arith)

module _ (more other groups rules place : ℕ) (rest : List ℕ)
    (further : (g r p : ℕ) (l : List ℕ) → length l ≤ more → length l ≤ other → read_rest more g r p l ≡ read_rest other g r p l)
    (a : length rest ≤ suc more) (b : length rest ≤ suc other) where
  same_after : (g r : ℕ) → cut rest ≡ false
      → read_rest more g r (place + record_length rest) (after rest) ≡ read_rest other g r (place + record_length rest) (after rest)
  same_after g r whole =
      let some = within rest whole in
      let left = length_after rest in
      further g r (place + record_length rest) (after rest) (omega arith) (omega arith)

  -- both sides take the same step
  same_step : Found groups rules rest → read_rest (suc more) groups rules place rest ≡ read_rest (suc other) groups rules place rest
  same_step (found_fault is) = fault_step more groups rules place rest is ∙ sym (fault_step other groups rules place rest is)
  same_step (found_group here well) =
      group_step more groups rules place here well
      ∙ (ap (group_then (gate (body rest))) (same_after (suc groups) rules here.whole)
      ∙ sym (group_step other groups rules place here well))
  same_step (found_rule here well) =
      rule_step more groups rules place here well
      ∙ (ap (rule_then (rule (body rest))) (same_after groups (suc rules) here.whole)
      ∙ sym (rule_step other groups rules place here well))
  same_step (found_end here) = end_step more groups rules place here ∙ sym (end_step other groups rules place here)

pub enough : (more other groups rules place : ℕ) (rest : List ℕ) → length rest ≤ more → length rest ≤ other
    → read_rest more groups rules place rest ≡ read_rest other groups rules place rest
unfolding read_rest
enough zero zero groups rules place rest a b = refl
enough zero (suc other) groups rules place rest a b = sym (fault_step other groups rules place rest (faulty-empty groups rules rest a))
enough (suc more) zero groups rules place rest a b = fault_step more groups rules place rest (faulty-empty groups rules rest b)
enough (suc more) (suc other) groups rules place rest a b =
    same_step more other groups rules place rest (λ g r p l. enough more other g r p l) a b (look groups rules rest)
