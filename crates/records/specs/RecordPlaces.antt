-- What the record at a place of a sheet says to a caller: where the next record starts, and of a rule where its letters stand.
use Rattle.std.specs.Prelude.{ℕ, ◌+◌, ◌-◌, ◌≤◌, ◌<◌, ◌≡◌, refl, true, cond, Option, Some, None, eqb, length, drop}
use Rattle.std.proofs.Common.{sym, subst, ◌∙◌, take-take}
use Rattle.std.proofs.Math.Path.{ap}
use mathlib.Core.List.{List}
use native.Mathlib.Omega.{arith}
use Rattle.std.proofs.Math.ListN.{take}
use Rattle.std.proofs.Math.Seq.{drop-drop}
use Rattle.paper.specs.Groups.{replace, single_letter, Rule, always, if_opened}
use Rattle.paper.specs.ListLaws.{drop-take}
use Rattle.paper.specs.TestLaws.{by_test}
use Rattle.records.specs.Framing.{kind, body, cut, body_place, next_place}
use Rattle.records.specs.FramingLaws.{body_there, next_by_body, next_inside}
use Rattle.records.specs.Records.{gate_number, gate, condition, action_number, opens_number, ending_length, ending, replacement}
use Rattle.records.specs.Records.{rule, ending_place, replacement_place, by_kind, faulty_alone}
use Rattle.records.specs.RecordAnswers.{group_record, rule_record, end_record, record_at}
use Rattle.records.specs.RecordLaws.{GroupHere, RuleHere, EndHere, Alone, a_fault, a_group, a_rule, an_end, alone}
use Rattle.records.specs.RecordLaws.{at_group, at_rule, at_end}
use Rattle.records.specs.RuleLaws.{Sound, sound, length_ending, length-replacement}
use Rattle.records.specs.declared.Record.{Record}
use Rattle.records.specs.declared.Record.TheVariants.{Group as GroupRecord, Rule as RuleRecord, End}

-- a group stands at a place
pub record GroupAt (sheet : List ℕ) (at number next : ℕ) : Type 0 where
  pub here : GroupHere (drop at sheet)
  pub number_is : number ≡ gate_number (body (drop at sheet))
  pub gate_is : gate (body (drop at sheet)) ≡ cond (eqb number 0) always if_opened
  pub next_is : next ≡ next_place sheet at
  pub forward : at < next
  pub inside : next ≤ length sheet

-- what the record of a rule says of the rule: its numbers, and where its letters stand in the sheet
pub record RuleFacts (sheet : List ℕ) (c a o start middle next : ℕ) (one : Rule) : Type 0 where
  pub condition_is : one.condition ≡ c
  pub ending_is : one.ending ≡ take (middle - start) (drop start sheet)
  pub action_is : one.action ≡ cond (eqb a 0) (replace (take (next - middle) (drop middle sheet))) single_letter
  pub opens_is : one.opens ≡ eqb o 1
  pub ending_long : length one.ending ≡ middle - start
  pub some : 0 < start
  pub ending_ahead : start ≤ middle
  pub replacement_ahead : middle ≤ next
  pub inside : next ≤ length sheet
  pub short_ending : middle - start ≤ 12
  pub short_replacement : next - middle ≤ 12

-- a rule stands at a place
pub record RuleAt (sheet : List ℕ) (at c a o start middle next : ℕ) : Type 0 where
  pub here : RuleHere (drop at sheet)
  pub facts : RuleFacts sheet c a o start middle next (rule (body (drop at sheet)))
  pub next_is : next ≡ next_place sheet at
  pub forward : at < next

module _ (sheet : List ℕ) (at : ℕ) where
  abbrev rest : List ℕ
  rest = drop at sheet

  -- ## A group
  group_at : GroupHere rest → GroupAt sheet at (gate_number (body rest)) (body_place at + length (body rest))
  unfolding gate
  group_at here =
      let next = next_by_body sheet at here.whole in
      let inside = next_inside sheet at here.whole in
      record { here = here; number_is = refl; gate_is = refl; next_is = next; forward = omega arith; inside = omega arith }

  -- ## A rule
  module _ (here : RuleHere rest) where
    abbrev size : ℕ
    size = length (body rest)

    abbrev n : ℕ
    n = ending_length (body rest)

    abbrev is : Sound (body rest)
    is = sound (body rest) here.sound

    -- its body, and S1 and S2 in it, as parts of the sheet
    body-part : body rest ≡ take size (drop (body_place at) sheet)
    body-part =
        let next = next_by_body sheet at here.whole in
        let same : next_place sheet at - body_place at ≡ size = omega arith in
        sym (rw same at (body_there sheet at))

    abbrev start : ℕ
    start = ending_place (body_place at)

    abbrev middle : ℕ
    middle = replacement_place (body_place at) (body rest)

    abbrev next : ℕ
    next = body_place at + size

    ending_part : ending (body rest) ≡ take (middle - start) (drop start sheet)
    unfolding ending ending_place replacement_place
    ending_part =
        let fits = is.within in
        let long : body_place at + (4 + n) - (body_place at + 4) ≡ n = omega arith in
        ap (λ (l : List ℕ). take n (drop 4 l)) body-part
        ∙ rw (drop-take 4 size (drop (body_place at) sheet), long, ← drop-drop 4 (body_place at) sheet)
        (take-take n (size - 4) (drop 4 (drop (body_place at) sheet)) (omega arith))

    replacement-part : replacement (body rest) ≡ take (next - middle) (drop middle sheet)
    unfolding replacement replacement_place
    replacement-part =
        let fits = is.within in
        let long : body_place at + size - (body_place at + (4 + n)) ≡ size - (4 + n) = omega arith in
        ap (drop (4 + n)) body-part
        ∙ rw (drop-take (4 + n) size (drop (body_place at) sheet), long, ← drop-drop (4 + n) (body_place at) sheet)

    rule_at_lem : RuleAt sheet at (condition (body rest)) (action_number (body rest)) (opens_number (body rest)) start middle next
    unfolding rule ending_place replacement_place
    rule_at_lem =
        let next_is = next_by_body sheet at here.whole in
        let inside = next_inside sheet at here.whole in
        let fits = is.within in
        let long = length_ending (body rest) here.sound in
        let rest-long = length-replacement (body rest) in
        record {
          here = here;
          facts =
              record {
                condition_is = refl;
                ending_is = ending_part;
                action_is = rw replacement-part;
                opens_is = refl;
                ending_long = omega arith;
                some = omega arith;
                ending_ahead = omega arith;
                replacement_ahead = omega arith;
                inside = omega arith;
                short_ending = omega (arith, is.short_ending);
                short_replacement = omega (arith, is.short_replacement);
              };
          next_is = next_is;
          forward = omega arith;
        }

  -- ## Any record
  -- by the answer
  abbrev Here : Option Record → Type 0
  Here (Some (GroupRecord number next)) = GroupAt sheet at number next
  Here (Some (RuleRecord r)) = RuleAt sheet at r.condition r.action r.opens r.start r.middle r.next
  Here (Some End) = EndHere rest
  Here None = faulty_alone rest ≡ true

  fault_at : faulty_alone rest ≡ true → record_at sheet at ≡ None
  unfolding faulty_alone record_at by_kind group_record rule_record end_record
  fault_at fault =
      by_test (cut rest) (λ short. simp short)
      (λ whole.
      by_test (eqb (kind rest) 1) (λ one. simp (whole, one, simp (whole, one) at fault))
      (λ no-group.
      by_test (eqb (kind rest) 2) (λ two. simp (whole, no-group, two, simp (whole, no-group, two) at fault))
      (λ no_rule_lem.
      by_test (eqb (kind rest) 3)
      (λ three. simp (whole, no-group, no_rule_lem, three, simp (whole, no-group, no_rule_lem, three) at fault))
      (λ no_end. simp (whole, no-group, no_rule_lem, no_end)))))

  here_by : Alone rest → Here (record_at sheet at)
  unfolding record_at group_record rule_record end_record
  here_by (a_fault fault) = rw (fault_at fault) fault
  here_by (a_group here) = rw (here.whole, at_group _ _ _ _ _ here.is_group, here.sound) (group_at here)
  here_by (a_rule here) = rw (here.whole, at_rule _ _ _ _ _ here.is_rule, here.sound) (rule_at_lem here)
  here_by (an_end here) = rw (here.whole, at_end _ _ _ _ _ here.is_end, here.sound) here

  pub record_here : (answer : Option Record) → record_at sheet at ≡ answer → Here answer
  record_here answer is = subst Here is (here_by (alone rest))
