-- What one group does to a word, as a run takes it: the word's letters stand first in its place.
use Rattle.std.specs.Prelude.{ℕ, ◌+◌, ◌-◌, ◌≤◌, ◌<◌, ◌≡◌, refl, Bool, true, false, List, ◌++◌, eqb, leb, drop}
use Rattle.std.proofs.Math.Path.{sym}
use Rattle.std.proofs.Common.{subst, ◌∙◌, length-append, length-drop, take-take, le-leb, eq-eqb, ne_eqb}
use Rattle.std.proofs.lemmas.Bool.{lt-leb}
use Rattle.std.proofs.Math.Option.{none, some}
use native.Mathlib.Omega.{arith}
use Rattle.std.proofs.Math.ListN.{length, take}
use Rattle.std.proofs.Math.Seq.{length-take-le}
use Rattle.places.specs.Put.{put_at, put_behind}
use Rattle.paper.specs.Letters.{inward}
use Rattle.paper.specs.Groups.{replace, single_letter, Rule, before, act, opens_next, Step}
use Rattle.paper.specs.Groups.{result as result_of}
use Rattle.walks.specs.Walk.{Nodes, deepest, walked, walk_group}
use Rattle.walks.specs.PickLaws.{walked_picks}
use Rattle.records.specs.RecordPlaces.{RuleFacts}
use Rattle.records.specs.declared.RuleRecord.{RuleRecord}
use Rattle.tables.specs.TryLaws.{picked, Recorded}

-- what a step leaves where the group's result fits the place: the letters that stand first in it
pub record Stepped (step : Step) (place : ℕ) (after : List ℕ) (size : ℕ) (opened : Bool) : Type 0 where
  pub fits : leb (length step.word) place ≡ true
  pub letters : take size after ≡ step.word
  pub inside : size ≤ place
  pub opened_is : opened ≡ opens_next step.obeyed

-- or the group's result does not fit it
abbrev pub Outgrows : Step → ℕ → Type 0
Outgrows step place = leb (length step.word) place ≡ false

-- what a rule leaves that was obeyed, whose record in the sheet has these numbers: less by one letter, more by its letters, or a
-- result that does not fit the place
pub record Obeyed (step : Step) (sheet place : List ℕ) (size a o start middle next : ℕ) : Type 0 where
  pub ending_ahead : start ≤ middle
  pub replacement_ahead : middle ≤ next
  pub inside : next ≤ length sheet
  pub single : (a ≡ 0 → ⊥) → Stepped step (length place) place (size - (middle - start) - 1) (eqb o 1)
  pub replaced : (after : List ℕ) → a ≡ 0 → next - middle ≤ length place - (size - (middle - start))
      → after ≡ put_at place (size - (middle - start)) (take (next - middle) (drop middle sheet))
      → Stepped step (length place) after (size - (middle - start) + (next - middle)) (eqb o 1)
  pub outgrown : a ≡ 0 → length place - (size - (middle - start)) < next - middle → Outgrows step (length place)

module _ (nodes : Nodes) (root number : ℕ) (place : List ℕ) (size : ℕ) (rules : List Rule) (found : ℕ) (within : size ≤ length place)
    (deep : found ≡ deepest nodes root (inward (take size place))) where
  abbrev word : List ℕ
  word = take size place

  abbrev step : Step
  step = walk_group nodes root number word rules

  long : length word ≡ size
  long = length-take-le size place within

  -- no rule is obeyed
  unchanged : walked nodes root number word rules ≡ none → Stepped step (length place) place size false
  unfolding result_of opens_next
  unchanged e =
      rw e
      (record { fits = le-leb (length word) (length place) (omega (arith, long)); letters = refl; inside = within; opened_is = refl })

  pub step_none : found ≡ 0 → Stepped step (length place) place size false
  step_none e = unchanged (walked_picks nodes root number word rules found deep ∙ rw (eq-eqb found 0 e))

  pub step_turned_down : (found ≡ 0 → ⊥) → picked nodes root found word number rules ≡ none
      → Stepped step (length place) place size false
  unfolding picked
  step_turned_down e p = unchanged (walked_picks nodes root number word rules found deep ∙ rw (ne_eqb found 0 e, p))

  -- a rule is obeyed
  module _ (sheet : List ℕ) (c a o start middle next : ℕ) (one : Rule) (facts : RuleFacts sheet c a o start middle next one)
      (deeper : found ≡ 0 → ⊥)
      (is-picked : picked nodes root found word number rules ≡ some one) where
    abbrev part : ℕ
    part = size - (middle - start)

    abbrev added : ℕ
    added = next - middle

    abbrev letters_new : List ℕ
    letters_new = take added (drop middle sheet)

    before_it : before word one.ending ≡ take part place
    unfolding before
    before_it =
        let left : length word - length one.ending ≡ part = omega (arith, long, facts.ending_long) in
        rw left (take-take part size place (omega arith))

    obeyed_it : walked nodes root number word rules ≡ some one
    unfolding picked
    obeyed_it = walked_picks nodes root number word rules found deep ∙ rw (ne_eqb found 0 deeper, is-picked)

    given : step ≡ record { obeyed = some one; word = act one.action (take part place) }
    unfolding result_of
    given = rw (obeyed_it, before_it)

    opening : eqb o 1 ≡ opens_next (some one)
    unfolding opens_next
    opening = sym facts.opens_is

    part_long : length (take part place) ≡ part
    part_long = length-take-le part place (omega arith)

    step_single : (a ≡ 0 → ⊥) → Stepped step (length place) place (part - 1) (eqb o 1)
    unfolding act
    step_single e =
        let single : one.action ≡ single_letter = facts.action_is ∙ rw (ne_eqb a 0 e) in
        let left : length (take part place) - 1 ≡ part - 1 = omega (arith, part_long) in
        let letters-left : act one.action (take part place)
        ≡ take (part - 1) place = rw (single, left) (take-take (part - 1) part place (omega arith)) in
        rw (given, letters-left)
        (record {
          fits = le-leb (length (take (part - 1) place)) (length place) (omega (arith, length-take-le (part - 1) place (omega arith)));
          letters = refl;
          inside = omega arith;
          opened_is = opening;
        })

    replaced : a ≡ 0 → act one.action (take part place) ≡ take part place ++ letters_new
    unfolding act
    replaced e = let action : one.action ≡ replace letters_new = facts.action_is ∙ rw (eq-eqb a 0 e) in rw action

    letters_long : length letters_new ≡ added
    letters_long =
        length-take-le added (drop middle sheet) (omega (arith, length-drop middle sheet, facts.replacement_ahead, facts.inside))

    new_long : length (take part place ++ letters_new) ≡ part + added
    new_long = omega (arith, length-append (take part place) letters_new, part_long, letters_long)

    step_replace : (after : List ℕ) → a ≡ 0 → added ≤ length place - part → after ≡ put_at place part letters_new
        → Stepped step (length place) after (part + added) (eqb o 1)
    step_replace after e room stored =
        let size_is : part + added ≡ part + length letters_new = omega (arith, letters_long) in
        let put = put_behind place part letters_new (omega (arith, letters_long)) in
        rw (given, replaced e)
        (record {
          fits = le-leb (length (take part place ++ letters_new)) (length place) (omega (arith, new_long));
          letters = rw (stored, size_is) put;
          inside = omega arith;
          opened_is = opening;
        })

    step_outgrown : a ≡ 0 → length place - part < added → Outgrows step (length place)
    step_outgrown e room =
        subst (λ (one : Step). Outgrows one (length place)) (sym given)
        (rw (replaced e) (lt-leb (length (take part place ++ letters_new)) (length place) (omega (arith, new_long))))

    all_ways : Obeyed step sheet place size a o start middle next
    all_ways =
        record {
          ending_ahead = facts.ending_ahead;
          replacement_ahead = facts.replacement_ahead;
          inside = facts.inside;
          single = step_single;
          replaced = step_replace;
          outgrown = step_outgrown;
        }

  pub obeyed : (found ≡ 0 → ⊥) → (sheet : List ℕ) (r : RuleRecord) → Recorded sheet (picked nodes root found word number rules) r
      → Obeyed step sheet place size r.action r.opens r.start r.middle r.next
  obeyed deeper sheet r it =
      all_ways sheet r.condition r.action r.opens r.start r.middle r.next it.one it.facts deeper it.is_one
