-- `records::rules::rule_in` meets its contract: at each return the tests that led there say which case holds.
use Rattle.std.proofs.Common.{ℕ, ◌+◌, ◌-◌, ◌≤◌, ◌≡◌, true, false, not, ◌&&◌, ◌||◌, eqb, ltb, Option, Some, None}
use Rattle.std.proofs.Common.{List, length, take, drop, arith, sym, subst, ap, ◌∙◌, length-take, length-drop, drop-drop}
use Rattle.std.proofs.Math.Bool.{or-false, or-true}
use borrow.Author.Tests.{ltb-false, le-ltb}
use lib.Seq.{take_all}
use Rattle.paper.specs.TestLaws.{by_test, or_cases, neither_left, neither_right}
use Rattle.paper.specs.Conditions.{for_single, highest}
use Rattle.records.specs.declared.Record.TheVariants.{Rule}
use Rattle.records.specs.declared.RuleRecord.{RuleRecord}
use Rattle.records.specs.Records.{ending_length, ending, replacement, ending_place}
use Rattle.records.specs.Records.{replacement_place, outside, faulty_numbers, faulty_letters, faulty_action, faulty_rule}
use Rattle.records.specs.RecordAnswers.{numbers_told, rule_told, rule_record}
use Rattle.records.proofs.rules.rule_in.Goals as goal
use Rattle.records.proofs.rules.rule_in.Goals.{In_ok-rule, then-above-via-then-above, then-above-via-else-above+then-faulty_letters}
use Rattle.records.proofs.rules.rule_in.Goals.{then-above-via-else-above+else-faulty_letters+then-faulty_action}

-- ## What the numbers of a body that is long enough tell
record Told (place : ℕ) (body : List ℕ) (rule : RuleRecord) : Type 0 where
  four : 4 ≤ length body
  within : 4 + ending_length body ≤ length body
  is : rule ≡ numbers_told place body

abbrev ToldBy : ℕ → List ℕ → Option RuleRecord → Type 0
ToldBy place body (Some rule) = Told place body rule
ToldBy place body None = (ltb (length body) 4 || ltb (length body) (4 + ending_length body)) ≡ true

told_by : (place : ℕ) (body : List ℕ) → ToldBy place body (rule_told place body)
unfolding rule_told
told_by place body =
    let first = ltb (length body) 4 in
    let second = ltb (length body) (4 + ending_length body) in
    by_test (first || second) (λ short. rw short short)
    (λ long.
    rw long
    (record {
      four = ltb-false _ _ (neither_left first second long);
      within = ltb-false _ _ (neither_right first second long);
      is = λ i. numbers_told place body;
    }))

told : (place : ℕ) (body : List ℕ) (answer : Option RuleRecord) → rule_told place body ≡ answer → ToldBy place body answer
told place body answer is = subst (ToldBy place body) is (told_by place body)

told-of : (c : In_ok-rule) → Told c.args.place c.args.body.now c.in_ok-rule.rule
told-of c = told c.args.place c.args.body.now (Some c.in_ok-rule.rule) (sym c.read.ensures ∙ c.in_ok-rule.was)

-- ## What the code judges is what 01 says of such a body, whose S1 and S2 the code takes apart
module _ (place : ℕ) (body : List ℕ) {rule : RuleRecord} (is : Told place body rule) where
  parted : rule.middle - rule.start ≡ ending_length body
  unfolding ending_place replacement_place
  parted = rw is.is (omega arith)

  rest : take (length body - 4) (drop 4 body) ≡ drop 4 body
  rest = take_all (length body - 4) (drop 4 body) (omega (arith, length-drop 4 body))

  s1_is : take (rule.middle - rule.start) (take (length body - 4) (drop 4 body)) ≡ ending body
  unfolding ending
  s1_is = rw (rest, parted)

  s2_is : drop (rule.middle - rule.start) (take (length body - 4) (drop 4 body)) ≡ replacement body
  unfolding replacement
  s2_is = rw (rest, parted) (drop-drop (ending_length body) 4 body)

  module _ {s1 s2 : List ℕ} (one : s1 ≡ ending body) (two : s2 ≡ replacement body) where
    numbers_are : (ltb highest rule.condition || ltb 1 rule.action || ltb 1 rule.opens || ltb 12 (length s1) || ltb rule.next rule.middle)
        ≡ faulty_numbers body
    unfolding faulty_numbers ending replacement_place
    numbers_are =
        let four = is.four in
        let within = is.within in
        let ahead = le-ltb (place + length body) (replacement_place place body) (omega arith) in
        let size : length (take (ending_length body) (drop 4 body)) ≡ ending_length body = simp (length-take, length-drop) (omega arith) in
        rw (is.is, one, size)
        (simp (le-ltb (length body) 4 four, le-ltb (length body) (4 + ending_length body) within, ahead, or-false))

    letters_are : (ltb 12 (length s2) || outside s1 || outside s2) ≡ faulty_letters body
    unfolding faulty_letters
    letters_are = rw (one, two)

    action_is : (eqb rule.action 1 && (not (for_single rule.condition) || not (eqb (length s1) 0) || not (eqb (length s2) 0)))
        ≡ faulty_action body
    unfolding faulty_action
    action_is = rw (is.is, one, two)

  record_is : faulty_numbers body ≡ false → faulty_letters body ≡ false → faulty_action body ≡ false
      → Some (Rule rule) ≡ rule_record place body
  unfolding rule_record faulty_rule
  record_is a b c = rw (is.is, a, b, c)

module _ (place : ℕ) (body : List ℕ) where
  too_short : (ltb (length body) 4 || ltb (length body) (4 + ending_length body)) ≡ true → None ≡ rule_record place body
  unfolding rule_record faulty_rule faulty_numbers
  too_short short =
      or_cases (ltb (length body) 4) (ltb (length body) (4 + ending_length body)) short (λ few. simp few) (λ over. simp (over, or-true))

  by_numbers : faulty_numbers body ≡ true → None ≡ rule_record place body
  unfolding rule_record faulty_rule
  by_numbers a = simp a

  by_letters : faulty_letters body ≡ true → None ≡ rule_record place body
  unfolding rule_record faulty_rule
  by_letters b = simp (b, or-true)

  by_action : faulty_action body ≡ true → None ≡ rule_record place body
  unfolding rule_record faulty_rule
  by_action c = simp (c, or-true)

pub returns-in_err-rule : goal.returns-in_err-rule
returns-in_err-rule c =
    let args = c.args in
    c.from_residual.ensures
    ∙ too_short args.place args.body.now (told args.place args.body.now None (sym c.in_err-rule.ensures))

pub slice_bounds-split_at-count : goal.slice_bounds-split_at-count
slice_bounds-split_at-count c = (told-of (goal.at.slice_bounds-split_at-count c).In_ok-rule).four

pub slice_bounds-split_at-start : goal.slice_bounds-split_at-start
slice_bounds-split_at-start c = (told-of (goal.at.slice_bounds-split_at-start c).In_ok-rule).four

pub overflow_sub-rule : goal.overflow_sub-rule
unfolding ending_place replacement_place
overflow_sub-rule c = let is = told-of (goal.at.overflow_sub-rule c).In_ok-rule in rw is.is (omega arith)

pub split_at-requires : goal.split_at-requires
split_at-requires c =
    let is = told-of (goal.at.split_at-requires c).In_ok-rule in
    let body = c.args.body.now in
    omega (arith, is.within, parted c.args.place body is, ap length (rest c.args.place body is), length-drop 4 body)

pub returns-then-above : goal.returns-then-above
returns-then-above c =
    let args = c.args in
    let body = args.body.now in
    let is = told-of (goal.at.returns-then-above c).In_ok-rule in
    let one = c.split_at.ensures.front ∙ s1_is args.place body is in
    let two = c.split_at.ensures.back ∙ s2_is args.place body is in
    let numbers = sym (numbers_are args.place body is one two) in
    let letters = sym (letters_are args.place body is one two) in
    let action = sym (action_is args.place body is one two) in
    elim c.then-above.branch [
      | then-above-via-then-above w ↦ by_numbers args.place body (numbers ∙ (sym c.above.ensures ∙ w.if-above.true))
      | then-above-via-else-above+then-faulty_letters w ↦
          by_letters args.place body (letters ∙ (sym w.faulty_letters.ensures ∙ w.if-faulty_letters.true))
      | then-above-via-else-above+else-faulty_letters+then-faulty_action w ↦
          by_action args.place body (action ∙ (sym w.faulty_action.ensures ∙ w.if-faulty_action.true))
    ]

pub returns : goal.returns
returns c =
    let args = c.args in
    let body = args.body.now in
    let is = told-of (goal.at.returns c).In_ok-rule in
    let one = c.split_at.ensures.front ∙ s1_is args.place body is in
    let two = c.split_at.ensures.back ∙ s2_is args.place body is in
    record_is args.place body is (sym (numbers_are args.place body is one two) ∙ sym c.if-above.ensures)
    (sym (letters_are args.place body is one two) ∙ sym c.if-faulty_letters.ensures)
    (sym (action_is args.place body is one two) ∙ sym c.if-faulty_action.ensures)
