-- The record of a rule's line, by the places that the reader of one line tells: when its body is faulty, and its bytes.
use Rattle.std.specs.Prelude.{ℕ, zero, suc, ◌+◌, ◌-◌, ◌≤◌, ◌<◌, ◌≡◌, refl, false, not, ◌&&◌, ◌||◌, eqb, ltb, take, drop}
use Rattle.std.proofs.Common.{sym, ◌∙◌, length-take, length-drop, ltb-false}
use Rattle.std.proofs.Math.Path.{ap}
use mathlib.Core.List.{List, [], ◌∷◌, ◌++◌}
use native.Mathlib.Omega.{arith}
use Rattle.std.proofs.Math.ListN.{length, length-append}
use Rattle.paper.specs.Conditions.{for_single}
use Rattle.paper.specs.Groups.{written, number_of_action, Rule, gate_of}
use Rattle.paper.specs.TestLaws.{none_of_three}
use Rattle.records.specs.Framing.{two, record_of}
use Rattle.records.specs.FramingLaws.{two_small}
use Rattle.records.specs.Records.{faulty_rule}
use Rattle.records.specs.RecordBytes.{gate_body, rule_body}
use Rattle.records.specs.RuleLaws.{opens_written, action_written, replacement-written}
use Rattle.places.specs.Put.{put_at}
use Rattle.places.specs.Written.{Appends, appends_put, appends_then}
use Rattle.lines.specs.Reading.{rule_of}
use Rattle.lines.specs.ReadingLaws.{RuleHere}
use Rattle.lines.specs.declared.RuleLine.{RuleLine}
use Rattle.imports.specs.TakenLaws.{formed_fault}

length-between : (rest : List ℕ) (from to : ℕ) → to ≤ length rest → length (take (to - from) (drop from rest)) ≡ to - from
length-between rest from to inside = omega (arith, length-take (to - from) (drop from rest), length-drop from rest)

module _ (rest : List ℕ) (line : RuleLine) (here : RuleHere rest line) where
  abbrev one : Rule
  one = rule_of rest line

  abbrev ending : List ℕ
  ending = take (line.middle - line.start) (drop line.start rest)

  abbrev replacement : List ℕ
  replacement = take (line.end - line.from) (drop line.from rest)

  ending_long : length ending ≡ line.middle - line.start
  ending_long = length-between rest line.start line.middle here.ordered.ending_inside

  replacement_long : length replacement ≡ line.end - line.from
  replacement_long = length-between rest line.from line.end here.ordered.replacement_inside

  -- a single letter has no replacement
  written_is : written one.action ≡ replacement
  written_is =
      let order = here.ordered in
      replacement-written line.action replacement order.low_action
      (λ single. omega (arith, replacement_long, order.none_if_single single))

  action_is : number_of_action one.action ≡ line.action
  action_is = action_written line.action replacement here.ordered.low_action

  pub body_fault : faulty_rule (rule_body one)
      ≡ ltb 12 (line.middle - line.start)
      || ltb 12 (line.end - line.from)
      || (eqb line.action 1
      && (not (for_single line.condition)
      || not (eqb (line.middle - line.start) 0)
      || not (eqb (line.end - line.from) 0)))
  body_fault = formed_fault one here.of_form ∙ simp (written_is, action_is, ending_long, replacement_long)

  -- the lengths of a body that is not faulty
  pub short_parts : faulty_rule (rule_body one) ≡ false → (line.middle - line.start ≤ 12) × (line.end - line.from ≤ 12)
  short_parts sound =
      let three = none_of_three _ _ _ (sym body_fault ∙ sound) in
      (ltb-false 12 (line.middle - line.start) three.0, ltb-false 12 (line.end - line.from) three.1)

  -- ## Its bytes
  abbrev size : ℕ
  size = 4 + (line.middle - line.start) + (line.end - line.from)

  abbrev head : List ℕ
  head =
      size ∷ 0 ∷ 2 ∷ 0 ∷ line.condition ∷ line.action ∷ line.opens ∷ (line.middle - line.start) ∷ []

  module _ (sound : faulty_rule (rule_body one) ≡ false) where
    body_long : length (rule_body one) ≡ size
    unfolding rule_body
    body_long =
        omega (
          arith,
          ending_long,
          replacement_long,
          ap length written_is,
          length-append ending (written one.action),
        )

    body_is : rule_body one
        ≡ line.condition ∷ line.action ∷ line.opens ∷ (line.middle - line.start) ∷ (ending ++ replacement)
    unfolding rule_body
    body_is = rw (action_is, opens_written line.opens here.low_opens, ending_long, written_is)

    rule_bytes : record_of 2 (rule_body one) ≡ head ++ (ending ++ replacement)
    unfolding record_of
    rule_bytes =
        let short = short_parts sound in
        let small : size < 256 = omega arith in
        rw (body_long, two_small size small, two_small 2 (omega arith)) (ap (λ (l : List ℕ). size ∷ 0 ∷ 2 ∷ 0 ∷ l) body_is)

    pub rule_size : length (record_of 2 (rule_body one)) ≡ 4 + size
    unfolding record_of two
    rule_size = omega (arith, body_long)

    -- its head, its ending and its replacement, put one behind the other
    pub rule_appends : {before first second after : List ℕ} (at : ℕ) → first ≡ put_at before at head
        → second ≡ put_at first (at + 8) ending
        → after ≡ put_at second (at + 8 + (line.middle - line.start)) replacement
        → Appends at (record_of 2 (rule_body one)) before after
    rule_appends {before} {first} {second} {after} at one-put two-put three-put =
        let a : Appends at head before first = rw one-put (appends_put before at head) in
        let b : Appends (at + 8) ending first second = rw two-put (appends_put first (at + 8) ending) in
        let c : Appends (at + 8 + length ending) replacement second after =
        rw (three-put, ending_long) (appends_put second (at + 8 + (line.middle - line.start)) replacement) in
        rw rule_bytes (appends_then a (appends_then b c))

-- ## The record of a group's line
pub group_bytes : (gate : ℕ) → gate ≤ 1 → record_of 1 (gate_body (gate_of gate)) ≡ 2 ∷ 0 ∷ 1 ∷ 0 ∷ gate ∷ 0 ∷ []
unfolding record_of two gate_body
group_bytes zero low = refl
group_bytes (suc zero) low = refl
group_bytes (suc (suc gate)) low = absurd (omega arith)
