-- The bodies of rules, written: the body of a rule within 01's bounds is not faulty, and reads as that rule.
use Rattle.std.specs.Prelude.{◌+◌, ◌≤◌, ◌≡◌, refl, Bool, true, false, not, cond, ◌&&◌, ◌||◌, eqb, leb, ltb}
use Rattle.std.proofs.Common.{sym, ◌∙◌, arith, drop-drop}
use Rattle.std.proofs.Math.Bool.{or-false}
use Rattle.std.proofs.Math.ListN.{length, length-append}
use Rattle.std.proofs.Math.Seq.{take-append_seam, drop-append_seam}
use borrow.Author.Tests.{le-ltb, leb-true}
use Rattle.paper.specs.Conditions.{for_single, highest}
use Rattle.paper.specs.Groups.{Action, replace, single_letter, written, number_of_action, Rule}
use Rattle.paper.specs.TestLaws.{and_left, and_right}
use Rattle.paper.specs.Words.{all_small}
use Rattle.records.specs.Records.{ending, replacement, rule, outside, faulty_numbers, faulty_letters, faulty_action}
use Rattle.records.specs.Records.{faulty_rule}
use Rattle.records.specs.RecordBytes.{rule_body, at_most12, allowed_action, allowed}

pub ending_read : (one : Rule) → ending (rule_body one) ≡ one.ending
unfolding ending rule_body
ending_read one = take-append_seam one.ending (written one.action)

replacement_read : (one : Rule) → replacement (rule_body one) ≡ written one.action
unfolding replacement rule_body
replacement_read one =
    sym (drop-drop (length one.ending) 4 (rule_body one)) ∙ drop-append_seam one.ending (written one.action)

action_read : (action : Action) → cond (eqb (number_of_action action) 0) (replace (written action)) single_letter ≡ action
action_read (replace s2) = refl
action_read single_letter = refl

action_is : (one : Rule)
    → cond (eqb (number_of_action one.action) 0) (replace (replacement (rule_body one))) single_letter ≡ one.action
action_is one = rw (replacement_read one) (action_read one.action)

opens_read : (opens : Bool) → eqb (cond opens 1 0) 1 ≡ opens
opens_read true = refl
opens_read false = refl

pub rule_read : (one : Rule) → rule (rule_body one) ≡ one
unfolding rule rule_body
rule_read one = λ i.
    record {
      condition = one.condition;
      ending = ending_read one i;
      action = action_is one i;
      opens = opens_read one.opens i;
    }

-- what is known of a rule within the bounds
pub record Bounds (one : Rule) : Type 0 where
  pub low_condition : one.condition ≤ highest
  pub short_ending : length one.ending ≤ 12
  pub ending_letters : all_small one.ending ≡ true
  pub fit_action : allowed_action one one.action ≡ true

pub bounds : (one : Rule) → allowed one ≡ true → Bounds one
unfolding allowed at_most12
bounds one all =
    let first = leb one.condition highest in
    let second = at_most12 one.ending in
    let both = and_left (first && second) (allowed_action one one.action) all in
    let ends = and_right first second both in
    record {
      low_condition = leb-true _ _ (and_left first second both);
      short_ending = leb-true _ _ (and_left (leb (length one.ending) 12) (all_small one.ending) ends);
      ending_letters = and_right (leb (length one.ending) 12) (all_small one.ending) ends;
      fit_action = and_right (first && second) (allowed_action one one.action) all;
    }

pub short_replacement : (one : Rule) (action : Action) → allowed_action one action ≡ true → length (written action) ≤ 12
unfolding allowed_action at_most12
short_replacement one (replace s2) fits = leb-true _ _ (and_left (leb (length s2) 12) (all_small s2) fits)
short_replacement one single_letter fits = omega arith

pub replacement_letters : (one : Rule) (action : Action) → allowed_action one action ≡ true → all_small (written action) ≡ true
unfolding allowed_action at_most12 all_small
replacement_letters one (replace s2) fits = and_right (leb (length s2) 12) (all_small s2) fits
replacement_letters one single_letter fits = refl

action_low : (action : Action) → number_of_action action ≤ 1
action_low (replace s2) = omega arith
action_low single_letter = omega arith

opens_low : (opens : Bool) → cond opens 1 0 ≤ 1
opens_low true = omega arith
opens_low false = omega arith

-- ## When the body of a rule is faulty
-- a single letter is asked for with another condition, or with letters
abbrev pub unfit_action : Rule → Bool
unfit_action one =
    eqb (number_of_action one.action) 1
    && (not (for_single one.condition)
    || not (eqb (length one.ending) 0)
    || not (eqb (length (written one.action)) 0))

-- of one of 01's conditions and small letters
module _ (one : Rule) (low_condition : one.condition ≤ highest) (ending-small : all_small one.ending ≡ true)
    (replacement-small : all_small (written one.action) ≡ true) where
  fault_numbers : faulty_numbers (rule_body one) ≡ ltb 12 (length one.ending)
  unfolding faulty_numbers rule_body
  fault_numbers =
      let n = length one.ending in
      let long = length-append one.ending (written one.action) in
      simp (
        le-ltb (length (rule_body one)) 4 (omega arith),
        le-ltb highest one.condition low_condition,
        le-ltb 1 (number_of_action one.action) (action_low one.action),
        le-ltb 1 (cond one.opens 1 0) (opens_low one.opens),
        le-ltb (length (rule_body one)) (4 + n) (omega arith),
        or-false,
      )

  fault_letters : faulty_letters (rule_body one) ≡ ltb 12 (length (written one.action))
  unfolding faulty_letters outside
  fault_letters = simp (ending_read one, replacement_read one, ending-small, replacement-small, or-false)

  fault_action : faulty_action (rule_body one) ≡ unfit_action one
  unfolding faulty_action rule_body
  fault_action = rw (ending_read one, replacement_read one)

  -- only the lengths can be, and a single letter
  pub written_fault : faulty_rule (rule_body one)
      ≡ ltb 12 (length one.ending) || ltb 12 (length (written one.action)) || unfit_action one
  unfolding faulty_rule
  written_fault = rw (fault_numbers, fault_letters, fault_action)

fits_action : (one : Rule) (action : Action) → allowed_action one action ≡ true
    → (eqb (number_of_action action) 1
    && (not (for_single one.condition)
    || not (eqb (length one.ending) 0)
    || not (eqb (length (written action)) 0)))
    ≡ false
unfolding allowed_action
fits_action one (replace s2) fits = refl
fits_action one single_letter fits =
    let condition_is = and_left (for_single one.condition) (eqb (length one.ending) 0) fits in
    let ending_is = and_right (for_single one.condition) (eqb (length one.ending) 0) fits in
    simp (condition_is, ending_is)

pub rule_sound : (one : Rule) → allowed one ≡ true → faulty_rule (rule_body one) ≡ false
rule_sound one all =
    let is = bounds one all in
    written_fault one is.low_condition is.ending_letters (replacement_letters one one.action is.fit_action)
    ∙ rw (
      le-ltb 12 (length one.ending) is.short_ending,
      le-ltb 12 (length (written one.action)) (short_replacement one one.action is.fit_action),
      fits_action one one.action is.fit_action,
    )
