-- The reader of one line finds a line exactly where one is printed with its line feed.
use Rattle.std.specs.Prelude.{ℕ, ◌+◌, ◌-◌, ◌≤◌, ◌<◌, ◌≡◌, true, length, take, Option, Some, None}
use Rattle.std.proofs.Math.Path.{refl}
use Rattle.std.proofs.Common.{subst, ◌∙◌, arith, lt-ltb}
use mathlib.Core.List.{List, [], ◌∷◌, ◌++◌, append_assoc, append-nil}
use Rattle.std.proofs.Math.ListN.{drop, length-drop}
use Rattle.paper.specs.Letters.{letters}
use Rattle.paper.specs.Groups.{written, action_of, gate_of}
use Rattle.paper.specs.ListLaws.{so_many}
use Rattle.paper.specs.TestLaws.{by_test, apart}
use Rattle.paper.specs.Words.{all_small}
use Rattle.printed.specs.PrintedLaws.{got}
use Rattle.lines.specs.Lines.{Line, group, rule, spellings, spelling, part, action, print, form}
use Rattle.lines.specs.Reading.{starts_with, spelled, head_in, part_in, close_in, by_close, closed_in, unclosed}
use Rattle.lines.specs.Reading.{by_replacement, after_arrow, by_ending, after_condition, by_head, found_in, rule_of, told, read_line}
use Rattle.lines.specs.PartLaws.{Begins, inside, then, starts_front, GroupHere, ConditionHere}
use Rattle.lines.specs.PartLaws.{head-found, part-found, close-found}
use Rattle.lines.specs.declared.LineRead.{LineRead}
use Rattle.lines.specs.declared.LineRead.TheVariants.{Group, Rule as RuleFound}
use Rattle.lines.specs.declared.RuleLine.{RuleLine}
use Rattle.lines.specs.declared.parts.Head.{Head}
use Rattle.lines.specs.declared.parts.Head.TheVariants.{Group as GroupHead, Condition}
use Rattle.lines.specs.declared.parts.Letters.{Letters}
use Rattle.lines.specs.declared.parts.Close.{Close}
use Rattle.lines.specs.declared.parts.Close.TheVariants.{Plain, Opens}

-- the bytes from a place up to another
abbrev between : List ℕ → ℕ → ℕ → List ℕ
between rest from to = take (to - from) (drop from rest)

-- ## What is found is printed there
-- the numbers of a rule's line, and where its letters stand
pub record Ordered (rest : List ℕ) (condition action start middle from end : ℕ) : Type 0 where
  pub one_of_nine : condition < length spellings
  pub low_action : action ≤ 1
  pub ending_first : start ≤ middle
  pub ending_inside : middle ≤ length rest
  pub replacement_first : from ≤ end
  pub replacement_inside : end ≤ length rest
  pub none_if_single : action ≡ 1 → end ≡ from

abbrev pub OrderedIn : List ℕ → RuleLine → Type 0
OrderedIn rest line = Ordered rest line.condition line.action line.start line.middle line.from line.end

pub record RuleHere (rest : List ℕ) (line : RuleLine) : Type 0 where
  pub printed : Begins (print (rule (rule_of rest line)) ++ (10 ∷ [])) rest line.taken
  pub of_form : form (rule (rule_of rest line)) ≡ true
  pub low_opens : line.opens ≤ 1
  pub ordered : OrderedIn rest line

abbrev pub FoundHere : List ℕ → Option LineRead → Type 0
FoundHere rest (Some (Group gate taken)) = GroupHere rest gate taken
FoundHere rest (Some (RuleFound line)) = RuleHere rest line
FoundHere rest None = Unit

-- a rule's line, read up to its close
record Unclosed (rest : List ℕ) (line : RuleLine) : Type 0 where
  so_far : Begins (spelled line.condition
      ++ (part (between rest line.start line.middle)
      ++ (letters " -> " ++ action (action_of line.action (between rest line.from line.end))))) rest line.taken
  small_ending : all_small (between rest line.start line.middle) ≡ true
  small_replacement : all_small (written (action_of line.action (between rest line.from line.end))) ≡ true
  not_opened : line.opens ≡ 0
  places : OrderedIn rest line

-- what is printed of a rule, up to its close and with it
print-plain : (c e a : List ℕ) → (c ++ letters " ") ++ (e ++ (letters " -> " ++ a)) ++ (10 ∷ [])
    ≡ (c ++ (letters " " ++ (e ++ (letters " -> " ++ (a ++ []))))) ++ (10 ∷ [])
print-plain c e a = simp (append_assoc, append-nil)

print_opens : (c e a : List ℕ) → (c ++ letters " ") ++ (e ++ (letters " -> " ++ a)) ++ (letters " opens" ++ (10 ∷ []))
    ≡ (c ++ (letters " " ++ (e ++ (letters " -> " ++ (a ++ letters " opens"))))) ++ (10 ∷ [])
print_opens c e a = simp append_assoc

closed_here : (rest : List ℕ) (line : RuleLine) → Unclosed rest line → (close : Option Close) → close_in (drop line.taken rest) ≡ close
    → FoundHere rest (by_close line close)
unfolding spelled print form
closed_here rest line read (Some Plain) is =
    let at = read.places in
    let e = between rest line.start line.middle in
    let a = action_of line.action (between rest line.from line.end) in
    let whole = then read.so_far (close-found (drop line.taken rest) (Some Plain) is) in
    record {
      printed = rw read.not_opened (rw (print-plain (spelling line.condition) (part e) (action a)) at whole);
      of_form = rw (lt-ltb line.condition (length spellings) at.one_of_nine, read.small_ending, read.small_replacement);
      low_opens = omega (arith, read.not_opened);
      ordered = at;
    }
closed_here rest line read (Some Opens) is =
    let at = read.places in
    let e = between rest line.start line.middle in
    let a = action_of line.action (between rest line.from line.end) in
    let whole = then read.so_far (close-found (drop line.taken rest) (Some Opens) is) in
    record {
      printed = rw (print_opens (spelling line.condition) (part e) (action a)) at whole;
      of_form = rw (lt-ltb line.condition (length spellings) at.one_of_nine, read.small_ending, read.small_replacement);
      low_opens = omega arith;
      ordered = at;
    }
closed_here rest line read None is = tt

closed_there : (rest : List ℕ) (line : RuleLine) → Unclosed rest line → FoundHere rest (closed_in rest line)
unfolding closed_in
closed_there rest line read = closed_here rest line read (close_in (drop line.taken rest)) refl

-- a rule's line, read up to its replacement
record Begun (rest : List ℕ) (condition start middle from : ℕ) : Type 0 where
  begun : Begins (spelled condition ++ (part (between rest start middle) ++ letters " -> ")) rest from
  of_nine : condition < length spellings
  small_first : all_small (between rest start middle) ≡ true
  first_first : start ≤ middle
  first_inside : middle ≤ length rest

regrouped : (c e arrow a : List ℕ) → (c ++ (e ++ arrow)) ++ a ≡ c ++ (e ++ (arrow ++ a))
regrouped c e arrow a = simp append_assoc

module _ (rest : List ℕ) (condition start middle from : ℕ) (read : Begun rest condition start middle from) where
  abbrev e : List ℕ
  e = part (between rest start middle)

  replaced_here : (found : Option Letters) → part_in (drop from rest) ≡ found
      → FoundHere rest (by_replacement rest condition start middle from found)
  unfolding action
  replaced_here (Some one) is =
      let count = one.count in
      let taken = one.taken in
      let here = part-found (drop from rest) (Some one) is in
      let there : Begins (part (between rest from (from + count))) (drop from rest) taken = rw (so_many from count) here.letters_there in
      closed_there rest (unclosed condition 0 start middle from (from + count) (from + taken))
      (record {
        so_far =
            rw (regrouped (spelled condition) e (letters " -> ") (part (between rest from (from + count)))) at
            (then read.begun there);
        small_ending = read.small_first;
        small_replacement = rw (so_many from count) here.small_there;
        not_opened = refl;
        places =
            record {
              one_of_nine = read.of_nine;
              low_action = omega arith;
              ending_first = read.first_first;
              ending_inside = read.first_inside;
              replacement_first = omega arith;
              replacement_inside =
                  omega (arith, here.at_most, inside here.letters_there, length-drop from rest, inside read.begun);
              none_if_single = λ one. absurd (omega arith);
            };
      })
  replaced_here None is = tt

  single_here : starts_with (letters "single letter") (drop from rest) ≡ true
      → FoundHere rest (closed_in rest (unclosed condition 1 start middle from from (from + 13)))
  unfolding action letters all_small
  single_here is =
      let there = starts_front (letters "single letter") (drop from rest) is in
      closed_there rest (unclosed condition 1 start middle from from (from + 13))
      (record {
        so_far = rw (regrouped (spelled condition) e (letters " -> ") (letters "single letter")) at (then read.begun there);
        small_ending = read.small_first;
        small_replacement = refl;
        not_opened = refl;
        places =
            record {
              one_of_nine = read.of_nine;
              low_action = omega arith;
              ending_first = read.first_first;
              ending_inside = read.first_inside;
              replacement_first = omega arith;
              replacement_inside = inside read.begun;
              none_if_single = λ one. refl;
            };
      })

  arrow_here : FoundHere rest (after_arrow rest condition start middle from)
  unfolding after_arrow
  arrow_here =
      by_test (starts_with (letters "single letter") (drop from rest)) (λ is. rw is (single_here is))
      (λ is-not. rw is-not (replaced_here (part_in (drop from rest)) refl))

module _ (rest : List ℕ) (condition start : ℕ) (here : ConditionHere rest condition start) where
  ending_here : (found : Option Letters) → part_in (drop start rest) ≡ found → FoundHere rest (by_ending rest condition start found)
  unfolding letters
  ending_here (Some one) is =
      let count = one.count in
      let taken = one.taken in
      let ending = part-found (drop start rest) (Some one) is in
      let there : Begins (part (between rest start (start + count))) (drop start rest) taken =
      rw (so_many start count) ending.letters_there in
      by_test (starts_with (letters " -> ") (drop (start + taken) rest))
      (λ arrow.
      let whole = then (then here.spells there) (starts_front (letters " -> ") (drop (start + taken) rest) arrow) in
      rw arrow
      (arrow_here rest condition start (start + count) (start + taken + 4)
      (record {
        begun = rw (append_assoc (spelled condition) (part (between rest start (start + count))) (letters " -> ")) at whole;
        of_nine = here.one_of_nine;
        small_first = rw (so_many start count) ending.small_there;
        first_first = omega arith;
        first_inside =
            omega (arith, ending.at_most, inside ending.letters_there, length-drop start rest, inside here.spells);
      })))
      (λ is-not. rw is-not tt)
  ending_here None is = tt

  condition_here : FoundHere rest (after_condition rest condition start)
  unfolding after_condition
  condition_here = ending_here (part_in (drop start rest)) refl

head_here : (rest : List ℕ) (head : Option Head) → head_in rest ≡ head → FoundHere rest (by_head rest head)
head_here rest (Some (GroupHead gate taken)) is = head-found rest (Some (GroupHead gate taken)) is
head_here rest (Some (Condition number taken)) is =
    condition_here rest number taken (head-found rest (Some (Condition number taken)) is)
head_here rest None is = tt

pub found_here : (rest : List ℕ) (found : Option LineRead) → found_in rest ≡ found → FoundHere rest found
unfolding found_in
found_here rest found is = subst (FoundHere rest) is (head_here rest (head_in rest) refl)

-- a line that is found is of the form, and stands there with its line feed
module _ (rest : List ℕ) (line : Line) (more : List ℕ) where
  is_there : (found : Option LineRead) → found_in rest ≡ found → told rest found ≡ got line more
      → (form line ≡ true) × (rest ≡ print line ++ (10 ∷ more))
  unfolding form
  is_there (Some (Group gate taken)) is e =
      let here = (found_here rest (Some (Group gate taken)) is).line.rest_is in
      let this : group (gate_of gate) ≡ line = cc in
      let behind : drop taken rest ≡ more = cc in
      (rw (← this) refl, rw (← this, ← behind) (here ∙ append_assoc (print (group (gate_of gate))) (10 ∷ []) (drop taken rest)))
  is_there (Some (RuleFound found)) is e =
      let here = found_here rest (Some (RuleFound found)) is in
      let this : rule (rule_of rest found) ≡ line = cc in
      let behind : drop found.taken rest ≡ more = cc in (
        rw (← this) here.of_form,
        rw (← this, ← behind)
            (here.printed.rest_is ∙ append_assoc (print (rule (rule_of rest found))) (10 ∷ []) (drop found.taken rest)),
      )
  is_there None is e = apart (cc)

  pub sound : read_line rest ≡ got line more → (form line ≡ true) × (rest ≡ print line ++ (10 ∷ more))
  unfolding read_line
  sound e = is_there (found_in rest) refl e
