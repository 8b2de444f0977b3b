-- "3: the sheet has a faulty record": a check answers 3 exactly when some record of the sheet is faulty, and its value is the place of
-- the first one.
use Rattle.std.specs.Prelude.{ℕ, zero, suc, ◌+◌, ◌≤◌, ◌≡◌, refl, true, false, ◌↔◌, List, length}
use Rattle.std.proofs.Common.{sym, ap, ◌∙◌, true≢false, arith}
use Rattle.paper.specs.Groups.{Rule, Gate}
use Rattle.paper.specs.TestLaws.{apart}
use Rattle.records.specs.Framing.{kind, record_length, after, cut}
use Rattle.records.specs.FramingLaws.{within, length_after}
use Rattle.records.specs.RecordLaws.{EndHere}
use Rattle.sheets.specs.Sheets.{faulty, Rest, faulty_at_lem, holding, rule_then, group_then, read_rest, rest_at, whole, read_sheet}
use Rattle.sheets.specs.SheetSteps.{Found, found_fault, found_group, found_rule, found_end, look, group_fault, rule_fault, end_fault}
use Rattle.sheets.specs.SheetSteps.{faulty-empty, fault_step, group_step, rule_step, end_step}
use Rattle.sheets.specs.Checks.{check_of, checked}

-- Of the records from a place on, after so many groups and rules, the one at `at` is faulty and none before it is.
pub data FirstFaulty : ℕ → ℕ → ℕ → List ℕ → ℕ → Type 0 where
  this_one : {groups rules place : ℕ} {rest : List ℕ} → faulty groups rules rest ≡ true → FirstFaulty groups rules place rest place
  past_group : {groups rules place at : ℕ} {rest : List ℕ} → faulty groups rules rest ≡ false → kind rest ≡ 1
      → FirstFaulty (suc groups) rules (place + record_length rest) (after rest) at
      → FirstFaulty groups rules place rest at
  past_rule : {groups rules place at : ℕ} {rest : List ℕ} → faulty groups rules rest ≡ false → kind rest ≡ 2
      → FirstFaulty groups (suc rules) (place + record_length rest) (after rest) at
      → FirstFaulty groups rules place rest at

-- ## What follows of it, by what stands first

stops : {groups rules place at : ℕ} {rest : List ℕ} → faulty groups rules rest ≡ true → FirstFaulty groups rules place rest at → place ≡ at
stops is (this_one also) = refl
stops is (past_group sound kind_is later) = absurd (true≢false (sym is ∙ sound))
stops is (past_rule sound kind_is later) = absurd (true≢false (sym is ∙ sound))

after_group : {groups rules place at : ℕ} {rest : List ℕ} → faulty groups rules rest ≡ false → kind rest ≡ 1
    → FirstFaulty groups rules place rest at
    → FirstFaulty (suc groups) rules (place + record_length rest) (after rest) at
after_group sound one (this_one is) = absurd (true≢false (sym is ∙ sound))
after_group sound one (past_group also kind_is later) = later
after_group sound one (past_rule also kind_is later) = absurd (omega (arith, one, kind_is))

after_rule : {groups rules place at : ℕ} {rest : List ℕ} → faulty groups rules rest ≡ false → kind rest ≡ 2
    → FirstFaulty groups rules place rest at
    → FirstFaulty groups (suc rules) (place + record_length rest) (after rest) at
after_rule sound one (this_one is) = absurd (true≢false (sym is ∙ sound))
after_rule sound one (past_group also kind_is later) = absurd (omega (arith, one, kind_is))
after_rule sound one (past_rule also kind_is later) = later

after_end : {groups rules place at : ℕ} {rest : List ℕ} → EndHere rest → FirstFaulty groups rules place rest at → ⊥
after_end {groups} {rules} one (this_one is) = true≢false (sym is ∙ end_fault groups rules one)
after_end one (past_group also kind_is later) = omega (arith, one.is_end, kind_is)
after_end one (past_rule also kind_is later) = omega (arith, one.is_end, kind_is)

-- ## Reading finds it

in_group : (one : Gate) (found : Rest) (at : ℕ) → group_then one found ≡ faulty_at_lem at → found ≡ faulty_at_lem at
in_group one (faulty_at_lem place) at e = e
in_group one (holding rules groups) at e = apart (cc)

in_rule : (one : Rule) (found : Rest) (at : ℕ) → rule_then one found ≡ faulty_at_lem at → found ≡ faulty_at_lem at
in_rule one (faulty_at_lem place) at e = e
in_rule one (holding rules groups) at e = apart (cc)

here : (groups rules place at : ℕ) (rest : List ℕ) → faulty groups rules rest ≡ true → faulty_at_lem place ≡ faulty_at_lem at
    → FirstFaulty groups rules place rest at
here groups rules place at rest is e = let same : place ≡ at = cc in rw (← same) (this_one is)

module _ (more groups rules place at : ℕ) (rest : List ℕ) (short : length rest ≤ suc more)
    (further : (g r p : ℕ) (l : List ℕ) → length l ≤ more → (read_rest more g r p l ≡ faulty_at_lem at) ↔ FirstFaulty g r p l at) where
  left : (g r : ℕ) → cut rest ≡ false
      → (read_rest more g r (place + record_length rest) (after rest) ≡ faulty_at_lem at)
      ↔ FirstFaulty g r (place + record_length rest) (after rest) at
  left g r is = further g r (place + record_length rest) (after rest) (omega (arith, length_after rest, (within rest is).0))

  one_record : Found groups rules rest
      → (read_rest (suc more) groups rules place rest ≡ faulty_at_lem at) ↔ FirstFaulty groups rules place rest at
  one_record (found_fault is) =
      let step = fault_step more groups rules place rest is in
      (λ e. here groups rules place at rest is (sym step ∙ e), λ first. step ∙ ap faulty_at_lem (stops is first))
  one_record (found_group one placed) =
      let step = group_step more groups rules place one placed in
      let sound = group_fault groups rules one ∙ placed in
      let then = left (suc groups) rules one.whole in (
        λ e. past_group sound one.is_group (then.0 (in_group _ _ at (sym step ∙ e))),
        λ first. step ∙ ap (group_then _) (then.1 (after_group sound one.is_group first)),
      )
  one_record (found_rule one placed) =
      let step = rule_step more groups rules place one placed in
      let sound = rule_fault groups rules one ∙ placed in
      let then = left groups (suc rules) one.whole in (
        λ e. past_rule sound one.is_rule (then.0 (in_rule _ _ at (sym step ∙ e))),
        λ first. step ∙ ap (rule_then _) (then.1 (after_rule sound one.is_rule first)),
      )
  one_record (found_end one) =
      (λ e. let no = sym (end_step more groups rules place one) ∙ e in apart (cc), λ first. absurd (after_end one first))

first_exactly : (more groups rules place at : ℕ) (rest : List ℕ) → length rest ≤ more
    → (read_rest more groups rules place rest ≡ faulty_at_lem at) ↔ FirstFaulty groups rules place rest at
unfolding read_rest
first_exactly zero groups rules place at rest short =
    let is = faulty-empty groups rules rest short in
    (here groups rules place at rest is, λ first. ap faulty_at_lem (stops is first))
first_exactly (suc more) groups rules place at rest short =
    one_record more groups rules place at rest short (λ g r p l. first_exactly more g r p at l) (look groups rules rest)

refused_at : (found : Rest) (place : ℕ) → ((check_of (whole found)).number ≡ 3) × ((check_of (whole found)).value ≡ place)
    → found ≡ faulty_at_lem place
refused_at (faulty_at_lem other) place both = ap faulty_at_lem both.1
refused_at (holding rules groups) place both = absurd (omega (arith, both.0))

-- a check answers 3 with a place exactly when the first faulty record of the sheet stands there
pub answered_3 : (sheet : List ℕ) (place : ℕ)
    → (((checked sheet).number ≡ 3) × ((checked sheet).value ≡ place)) ↔ FirstFaulty 0 0 0 sheet place
unfolding checked read_sheet
answered_3 sheet place =
    let first = first_exactly (length sheet) 0 0 0 place sheet (omega arith) in
    (λ both. first.0 (refused_at (rest_at sheet 0 0 0) place both), λ is. rw (first.1 is) (refl, refl))
