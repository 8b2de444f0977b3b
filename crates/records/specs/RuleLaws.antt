-- The bodies of rules, read: a body that is not faulty is the bytes of the rule which it reads as, and that rule is within 01's
-- bounds.
use Rattle.std.specs.Prelude.{ℕ, zero, suc, ◌+◌, ◌-◌, ◌≤◌, ◌≡◌, refl, true, false, not, cond, List, [], ◌∷◌, ◌++◌, eqb, ltb, drop}
use Rattle.std.proofs.Math.Path.{sym}
use Rattle.std.proofs.Common.{arith, length-take, length-drop, take-append-drop, drop-drop}
use Rattle.std.proofs.Math.ListN.{length}
use borrow.Author.Tests.{ltb-false, le-leb, eqb-true, eq-eqb, not-false}
use Rattle.paper.specs.Conditions.{for_single, highest}
use Rattle.paper.specs.Groups.{written, number_of_action, action_of, Rule}
use Rattle.paper.specs.ListLaws.{empty}
use Rattle.paper.specs.TestLaws.{none_of_three, none_of_six}
use Rattle.paper.specs.Words.{all_small}
use Rattle.records.specs.Records.{condition, action_number, opens_number, ending_length, ending, replacement, rule}
use Rattle.records.specs.Records.{outside, faulty_numbers, faulty_letters, faulty_action, faulty_rule}
use Rattle.records.specs.RecordBytes.{rule_body, at_most12, allowed_action, allowed}

-- what is known of a body that is not faulty
pub record Sound (body : List ℕ) : Type 0 where
  pub four : 4 ≤ length body
  pub low_condition : condition body ≤ highest
  pub low_action : action_number body ≤ 1
  pub low_opens : opens_number body ≤ 1
  pub short_ending : ending_length body ≤ 12
  pub within : 4 + ending_length body ≤ length body
  pub short_replacement : length (replacement body) ≤ 12
  pub ending_letters : all_small (ending body) ≡ true
  pub replacement_letters : all_small (replacement body) ≡ true
  pub fit_action : faulty_action body ≡ false

pub sound : (body : List ℕ) → faulty_rule body ≡ false → Sound body
unfolding faulty_rule faulty_numbers faulty_letters outside
sound body none =
    let three = none_of_three (faulty_numbers body) (faulty_letters body) (faulty_action body) none in
    let six =
    none_of_six (ltb (length body) 4) (ltb highest (condition body)) (ltb 1 (action_number body)) (ltb 1 (opens_number body))
    (ltb 12 (ending_length body)) (ltb (length body) (4 + ending_length body)) three.0 in
    let those =
    none_of_three (ltb 12 (length (replacement body))) (outside (ending body)) (outside (replacement body)) three.1 in
    record {
      four = ltb-false _ _ six.0;
      low_condition = ltb-false _ _ six.1;
      low_action = ltb-false _ _ six.2;
      low_opens = ltb-false _ _ six.3;
      short_ending = ltb-false _ _ six.4;
      within = ltb-false _ _ six.5;
      short_replacement = ltb-false _ _ those.0;
      ending_letters = not-false (all_small (ending body)) those.1;
      replacement_letters = not-false (all_small (replacement body)) those.2;
      fit_action = three.2;
    }

pub length-replacement : (body : List ℕ) → length (replacement body) ≡ length body - (4 + ending_length body)
unfolding replacement
length-replacement body = simp length-drop

-- S1 and S2 are all that follows the four numbers
letters_follow : (body : List ℕ) → ending body ++ replacement body ≡ drop 4 body
unfolding ending replacement
letters_follow body = rw (← drop-drop (ending_length body) 4 body) (take-append-drop (ending_length body) (drop 4 body))

numbers_written : (body : List ℕ) → 4 ≤ length body
    → condition body ∷ action_number body ∷ opens_number body ∷ ending_length body ∷ drop 4 body ≡ body
numbers_written [] long = absurd (omega arith)
numbers_written (a ∷ []) long = absurd (omega arith)
numbers_written (a ∷ b ∷ []) long = absurd (omega arith)
numbers_written (a ∷ b ∷ c ∷ []) long = absurd (omega arith)
numbers_written (a ∷ b ∷ c ∷ d ∷ l) long = refl

pub opens_written : (o : ℕ) → o ≤ 1 → cond (eqb o 1) 1 0 ≡ o
opens_written zero low = refl
opens_written (suc zero) low = refl
opens_written (suc (suc o)) low = absurd (omega arith)

pub action_written : (a : ℕ) (s2 : List ℕ) → a ≤ 1 → number_of_action (action_of a s2) ≡ a
action_written zero s2 low = refl
action_written (suc zero) s2 low = refl
action_written (suc (suc a)) s2 low = absurd (omega arith)

pub replacement-written : (a : ℕ) (s2 : List ℕ) → a ≤ 1 → (a ≡ 1 → length s2 ≡ 0) → written (action_of a s2) ≡ s2
replacement-written zero s2 low none = refl
replacement-written (suc zero) s2 low none = sym (empty s2 (none refl))
replacement-written (suc (suc a)) s2 low none = absurd (omega arith)

action_allowed : (one : Rule) (a : ℕ) (s2 : List ℕ) → a ≤ 1 → at_most12 s2 ≡ true
    → (a ≡ 1 → (for_single one.condition ≡ true) × (length one.ending ≡ 0))
    → allowed_action one (action_of a s2) ≡ true
unfolding allowed_action
action_allowed one zero s2 low short single = short
action_allowed one (suc zero) s2 low short single = simp ((single refl).0, eq-eqb (length one.ending) 0 (single refl).1)
action_allowed one (suc (suc a)) s2 low short single = absurd (omega arith)

within_12 : (bytes : List ℕ) → length bytes ≤ 12 → all_small bytes ≡ true → at_most12 bytes ≡ true
unfolding at_most12
within_12 bytes short letters = simp (le-leb (length bytes) 12 short, letters)

module _ (body : List ℕ) (none : faulty_rule body ≡ false) where
  abbrev is : Sound body
  is = sound body none

  pub length_ending : length (ending body) ≡ ending_length body
  unfolding ending
  length_ending = let a = is.four in let b = is.within in simp (length-take, length-drop) (omega arith)

  -- what action 1 asks
  single_only : action_number body ≡ 1
      → (for_single (condition body) ≡ true) × (length (ending body) ≡ 0) × (length (replacement body) ≡ 0)
  unfolding faulty_action
  single_only one =
      let those =
      none_of_three (not (for_single (condition body))) (not (eqb (length (ending body)) 0))
      (not (eqb (length (replacement body)) 0)) (simp (eq-eqb (action_number body) 1 one) at is.fit_action) in (
        not-false (for_single (condition body)) those.0,
        eqb-true _ _ (not-false (eqb (length (ending body)) 0) those.1),
        eqb-true _ _ (not-false (eqb (length (replacement body)) 0) those.2),
      )

  pub rule_is : body ≡ rule_body (rule body)
  unfolding rule_body rule
  rule_is =
      sym
      (simp (
        action_written (action_number body) (replacement body) is.low_action,
        opens_written (opens_number body) is.low_opens,
        length_ending,
        replacement-written (action_number body) (replacement body) is.low_action (λ one. (single_only one).2),
        letters_follow body,
      )
      (numbers_written body is.four))

  pub rule_allowed : allowed (rule body) ≡ true
  unfolding allowed rule
  rule_allowed =
      let short : length (ending body) ≤ 12 = rw length_ending is.short_ending in
      simp (
        le-leb (condition body) highest is.low_condition,
        within_12 (ending body) short is.ending_letters,
        action_allowed (rule body) (action_number body) (replacement body) is.low_action
            (within_12 (replacement body) is.short_replacement is.replacement_letters)
            (λ one. ((single_only one).0, (single_only one).1)),
      )
