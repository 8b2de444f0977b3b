-- Looking through the rules of a group for a tail, record by record.
use Rattle.std.specs.Prelude.{Some, ℕ, ◌+◌, ◌-◌, ◌≤◌, ◌<◌, ◌≡◌, refl, Bool, true, false, cond, List, [], ◌∷◌, eqb, length, take, drop, get_or, replicate}
use Rattle.std.proofs.Common.{◌∙◌, add-one, arith, drop-drop}
use Rattle.std.proofs.lemmas.List.{get_or-replicate}
use borrow.Author.Tests.{ne_eqb, eqb-true}
use Rattle.paper.specs.Groups.{Rule, same, ends_with}
use Rattle.paper.specs.GroupsLaws.{same_equal, ending_short}
use Rattle.paper.specs.ListLaws.{drop-take}
use Rattle.paper.specs.MemberLaws.{member-append}
use Rattle.paper.specs.Nodes.{tails, tails_of, member}
use Rattle.paper.specs.Numbered.{number_of, first_with}
use Rattle.paper.specs.TestLaws.{by_test}
use Rattle.passing.specs.Passed.{passed_at}
use Rattle.records.specs.RecordPlaces.{RuleFacts}
use Rattle.records.specs.declared.Record.TheVariants.{Group as GroupRecord, End as EndRecord}
use Rattle.sheets.specs.SheetPlaces.{RuleNext, group_next, end_next}
use Rattle.translations.specs.EndingLaws.{tail_member}
use Rattle.translations.specs.Looking.{Reads, EndsAt, Noted, Says, Looking, Looked}

-- ## Where letters end

-- letters that an ending ends with stand in the sheet, and end where the ending does
pub ends_at : {sheet : List ℕ} {c a o start middle next : ℕ} {one : Rule} (letters : List ℕ)
    → RuleFacts sheet c a o start middle next one → ends_with one.ending letters ≡ true → EndsAt sheet middle letters
unfolding ends_with
ends_at {sheet} {c} {a} {o} {start} {middle} {next} {one} letters facts is =
    let n = length letters in
    let long = facts.ending_long in
    let short = ending_short one.ending letters is in
    let ahead = facts.ending_ahead in
    let last = same_equal (drop (length one.ending - n) one.ending) letters is in
    let skipped : length one.ending - n ≡ middle - start - n = omega arith in
    let kept : middle - start - (middle - start - n) ≡ n = omega arith in
    let place : start + (middle - start - n) ≡ middle - n = omega arith in
    let part = drop-take (middle - start - n) (middle - start) (drop start sheet) in
    let read = rw (skipped, facts.ending_is, part, kept, drop-drop (middle - start - n) start sheet, place) at last in
    record {
      long = omega arith;
      inside = omega (arith, facts.replacement_ahead, facts.inside);
      letters_are = read;
    }

-- ## What is noted says whether letters are a tail

pub says_start : (sheet letters : List ℕ) (list : List Rule) (end : ℕ) → end ≡ 0 → Says sheet letters list list end
says_start sheet letters list end none = rw none (record { known = refl; there = λ one. absurd (one refl) })

member_rule : (letter : ℕ) (tail : List ℕ) (one : Rule) (rest : List Rule) (test : Bool) → ends_with one.ending (letter ∷ tail) ≡ test
    → member (letter ∷ tail) (tails_of (one ∷ rest)) ≡ cond test true (member (letter ∷ tail) (tails_of rest))
unfolding tails_of
member_rule letter tail one rest true is =
    rw (member-append (letter ∷ tail) (tails one.ending) (tails_of rest), tail_member one.ending letter tail, is)
member_rule letter tail one rest false is =
    rw (member-append (letter ∷ tail) (tails one.ending) (tails_of rest), tail_member one.ending letter tail, is)

module _ (sheet : List ℕ) (letter : ℕ) (tail : List ℕ) (list : List Rule) (one : Rule) (rest : List Rule) (end : ℕ)
    (says : Says sheet (letter ∷ tail) list (one ∷ rest) end) {c a o start middle next : ℕ}
    (facts : RuleFacts sheet c a o start middle next one) where
  says_other : ends_with one.ending (letter ∷ tail) ≡ false → Says sheet (letter ∷ tail) list rest end
  says_other other =
      record { known = rw (member_rule letter tail one rest false other) at says.known; there = says.there }

  says_here : ends_with one.ending (letter ∷ tail) ≡ true
      → Says sheet (letter ∷ tail) list rest (cond (eqb end 0) middle end)
  says_here is =
      let known = rw (member_rule letter tail one rest true is) at says.known in
      by_test (eqb end 0)
      (λ none.
      let some-place : middle ≡ 0 → ⊥ = λ e. absurd (omega (arith, facts.some, facts.ending_ahead)) in
      rw none
      (record {
        known = rw (ne_eqb middle 0 some-place) (rw none at known);
        there = λ noted. ends_at (letter ∷ tail) facts is;
      }))
      (λ noted. rw noted (record { known = rw noted (rw noted at known); there = says.there }))

  pub says_next : (end-then : ℕ) → end-then ≡ cond (ends_with one.ending (letter ∷ tail)) (cond (eqb end 0) middle end) end
      → Says sheet (letter ∷ tail) list rest end-then
  says_next end-then is =
      rw is
      (by_test (ends_with one.ending (letter ∷ tail)) (λ e. rw e (says_here e)) (λ e. rw e (says_other e)))

-- ## The rule

rule_next_decides : (one : Rule) (rest : List Rule) (tail : List ℕ) (number rule : ℕ) → 0 < number
    → (let rule-then = cond (eqb rule 0) (cond (same one.ending tail) number 0) rule in
    cond (eqb rule-then 0) (first_with (number + 1) rest tail) rule-then
    ≡ cond (eqb rule 0) (first_with number (one ∷ rest) tail) rule)
unfolding first_with number_of
rule_next_decides one rest tail number rule counted =
    by_test (eqb rule 0)
    (λ none.
    rw none
    (by_test (same one.ending tail) (λ is. rw (is, ne_eqb number 0 (λ e. absurd (omega arith))))
    (λ other. rw (other, add-one number))))
    (λ found. rw (found, found))

-- ## From record to record

pub looking_start : (sheet : List ℕ) (from before : ℕ) (tail ends : List ℕ) → ends ≡ replicate 26 0 → (list : List Rule)
    → Reads sheet from before list → Looking sheet before list tail from before 0 ends
looking_start sheet from before tail ends zeros list reads =
    record {
      left = list;
      reads = reads;
      decides = refl;
      says = λ k h. says_start sheet ((97 + k) ∷ tail) list (get_or ends k 0) (rw zeros (get_or-replicate 26 k 0 0 h));
    }

module _ {sheet : List ℕ} {before : ℕ} {list : List Rule} {tail : List ℕ} {at number rule : ℕ} {ends : List ℕ}
    (state : Looking sheet before list tail at number rule ends) where
  over : state.left ≡ [] → Looked sheet before list tail rule ends
  unfolding first_with number_of
  over none =
      let decided = rw none at state.decides in
      record {
        rule_is = by_test (eqb rule 0) (λ e. eqb-true rule 0 e ∙ (rw e at decided)) (λ e. rw e at decided);
        says = rw none at state.says;
      }

  pub looking_group : {gate next : ℕ} → passed_at sheet at ≡ Some (GroupRecord gate next) → Looked sheet before list tail rule ends
  looking_group here = over (group_next state.reads.holds here).none_before

  pub looking_end : passed_at sheet at ≡ Some EndRecord → Looked sheet before list tail rule ends
  looking_end here = over (end_next state.reads.holds here).0

  module _ {c a o start middle after : ℕ} (found : RuleNext state.reads.holds c a o start middle after) where
    abbrev ending : List ℕ
    ending = take (middle - start) (drop start sheet)

    pub looking_rule : (rule-then : ℕ) (ends-then : List ℕ)
        → rule-then ≡ cond (eqb rule 0) (cond (same ending tail) (number + 1) 0) rule → length ends ≡ 26
        → Noted ending middle tail ends ends-then → Looking sheet before list tail after (number + 1) rule-then ends-then
    looking_rule rule-then ends-then rule_is long noted =
        let first = found.rule_first in
        let one = found.one in
        let is = rw (← found.facts.ending_is) at rule_is in
        record {
          left = found.rules_then;
          reads = record { groups = state.reads.groups; more = state.reads.more; holds = found.holds };
          decides = rw is (rule_next_decides one found.rules_then tail (number + 1) rule (omega arith) ∙ (rw first at state.decides));
          says = λ k h.
              says_next sheet (97 + k) tail list one found.rules_then (get_or ends k 0) (rw first at (state.says k h))
              found.facts (get_or ends-then k 0) (rw (← found.facts.ending_is) at (noted k (rw long h)));
        }

-- the number of a rule is small
pub rule_small : (rule number : ℕ) (ending tail : List ℕ) {rule-then : ℕ}
    → rule-then ≡ cond (eqb rule 0) (cond (same ending tail) number 0) rule → rule ≤ 128 → number ≤ 128 → rule-then ≤ 128
rule_small rule number ending tail is few fewer =
    rw is
    (by_test (eqb rule 0) (λ e. rw e (by_test (same ending tail) (λ e. rw e fewer) (λ e. rw e (omega arith)))) (λ e. rw e few))
