-- A printed line is read: the reader of one line finds it, and so no two lists of lines have the same text.
use Rattle.std.specs.Prelude.{ℕ, zero, suc, ◌+◌, ◌-◌, ◌<◌, ◌≡◌, Bool, ◌&&◌, eqb, ltb, take, drop, Option, Some}
use Rattle.std.proofs.Math.Path.{refl, ap}
use Rattle.std.proofs.Common.{sym, ap₂, ◌∙◌, arith, drop-drop, ltb-true}
use Rattle.std.proofs.Math.Bool.{true, false, cond}
use mathlib.Core.List.{List, [], ◌∷◌, ◌++◌, append_assoc}
use Rattle.std.proofs.Math.ListN.{length}
use Rattle.std.proofs.Math.Seq.{drop-append_seam, take-append_seam}
use Rattle.paper.specs.Letters.{letters}
use Rattle.paper.specs.Groups.{Rule, Action, replace, single_letter, written, action_of, always, if_opened}
use Rattle.paper.specs.ListLaws.{so_many}
use Rattle.paper.specs.TestLaws.{and_parts}
use Rattle.paper.specs.Words.{small, all_small}
use Rattle.printed.specs.Printed.{text_of}
use Rattle.printed.specs.PrintedLaws.{got, Reads, all_of, one_reading}
use Rattle.lines.specs.Lines.{Line, group, rule, spellings, spelling, part, action, print, form}
use Rattle.lines.specs.Reading.{starts_with, spelled, spelled_in, head_in, letters_in, part_in, close_in, closed_at, closed_in, unclosed}
use Rattle.lines.specs.Reading.{after_arrow, after_condition, found_in, rule_of, told, read_line}
use Rattle.lines.specs.PartLaws.{starts-append, starts_otherwise, part_read}
use Rattle.lines.specs.ReadingLaws.{sound}
use Rattle.lines.specs.declared.LineRead.{LineRead}
use Rattle.lines.specs.declared.LineRead.TheVariants.{Rule as RuleFound}
use Rattle.lines.specs.declared.RuleLine.{RuleLine}
use Rattle.lines.specs.declared.parts.Head.{Head}
use Rattle.lines.specs.declared.parts.Head.TheVariants.{Condition}

-- ## Places
-- what stands behind a front, from a place on
behind : (rest : List ℕ) (at : ℕ) (front more : List ℕ) → drop at rest ≡ front ++ more → drop (at + length front) rest ≡ more
behind rest at front more is = sym (drop-drop (length front) at rest) ∙ (ap (drop (length front)) is ∙ drop-append_seam front more)

-- the letters of a part
letters_of_lem : (word more : List ℕ) → take (length word) (part word ++ more) ≡ word
unfolding part letters
letters_of_lem [] more = refl
letters_of_lem (x ∷ word) more = take-append_seam (x ∷ word) more

between_is : (rest : List ℕ) (at : ℕ) (word more : List ℕ) → drop at rest ≡ part word ++ more
    → take (at + length word - at) (drop at rest) ≡ word
between_is rest at word more is = rw (so_many at (length word), is) (letters_of_lem word more)

-- ## The condition
-- `m>1`, and what is no other condition that begins so
and_not : (c : List ℕ) (word more : List ℕ) → all_small word ≡ true → starts_with c (letters "-> " ++ more) ≡ false
    → starts_with (letters "and " ++ c) (part word ++ (letters " -> " ++ more)) ≡ false
unfolding letters part starts_with all_small
and_not c [] more all otherwise = refl
and_not c (x ∷ word) more all otherwise =
    starts_otherwise (letters "and") 32 c (x ∷ word) 32 (letters "-> " ++ more) refl refl all refl otherwise

neither : (x y z : Option Head) {a b : Bool} → a ≡ false → b ≡ false → cond a x (cond b y z) ≡ z
neither x y z one other = rw (one, other)

head_read : (number : ℕ) (word more : List ℕ) → number < length spellings → all_small word ≡ true
    → head_in (spelled number ++ (part word ++ (letters " -> " ++ more))) ≡ Some (Condition number (length (spelled number)))
unfolding head_in spelled_in spelled spelling spellings starts_with letters
head_read zero word more low all = refl
head_read (suc zero) word more low all = refl
head_read (suc (suc zero)) word more low all =
    neither (Some (Condition 8 18)) (Some (Condition 4 19)) (Some (Condition 2 4)) (and_not (letters "*d and *L ") word more all refl)
    (and_not (letters "(*S or *T) ") word more all refl)
head_read (suc (suc (suc zero))) word more low all = refl
head_read (suc (suc (suc (suc zero)))) word more low all = refl
head_read (suc (suc (suc (suc (suc zero))))) word more low all = refl
head_read (suc (suc (suc (suc (suc (suc zero)))))) word more low all = refl
head_read (suc (suc (suc (suc (suc (suc (suc zero))))))) word more low all = refl
head_read (suc (suc (suc (suc (suc (suc (suc (suc zero)))))))) word more low all = refl
head_read (suc (suc (suc (suc (suc (suc (suc (suc (suc number))))))))) word more low all = absurd (omega arith)

-- ## The close
-- the line is found as this rule, and this stands behind it
record ReadAs (rest : List ℕ) (found : Option LineRead) (one : Rule) (more : List ℕ) : Type 0 where
  line : RuleLine
  is_found : found ≡ Some (RuleFound line)
  is_rule : rule_of rest line ≡ one
  is_behind : drop line.taken rest ≡ more

-- the rule that a line read up to its close will be
abbrev closing : List ℕ → RuleLine → Bool → Rule
closing rest line opens =
    record {
      condition = line.condition;
      ending = take (line.middle - line.start) (drop line.start rest);
      action = action_of line.action (take (line.end - line.from) (drop line.from rest));
      opens = opens;
    }

close_read : (rest : List ℕ) (line : RuleLine) (more : List ℕ) (opens : Bool) → line.opens ≡ 0
    → drop line.taken rest ≡ cond opens (letters " opens") [] ++ (10 ∷ more)
    → ReadAs rest (closed_in rest line) (closing rest line opens) more
unfolding closed_in close_in starts_with letters
close_read rest line more true not_opened is =
    record {
      line = closed_at line 1 (line.taken + 7);
      is_found = rw is refl;
      is_rule = refl;
      is_behind = behind rest line.taken (letters " opens" ++ (10 ∷ [])) more is;
    }
close_read rest line more false not_opened is =
    record {
      line = closed_at line line.opens (line.taken + 1);
      is_found = rw is refl;
      is_rule = rw not_opened refl;
      is_behind = behind rest line.taken (10 ∷ []) more is;
    }

-- ## The replacement
-- what closes a line begins with a byte that is no letter, and never goes on as `single letter` does
record Apart (rest : List ℕ) : Type 0 where
  first : ℕ
  others : List ℕ
  rest_is : rest ≡ first ∷ others
  no_letter : small first ≡ false
  other : (eqb 32 first && starts_with (letters "letter") others) ≡ false

close-apart : (opens : Bool) (more : List ℕ) → Apart (cond opens (letters " opens") [] ++ (10 ∷ more))
unfolding letters starts_with
close-apart true more =
    record { first = 32; others = letters "opens" ++ (10 ∷ more); rest_is = refl; no_letter = refl; other = refl }
close-apart false more = record { first = 10; others = more; rest_is = refl; no_letter = refl; other = refl }

not_single : (word rest : List ℕ) → all_small word ≡ true → Apart rest → starts_with (letters "single letter") (part word ++ rest) ≡ false
unfolding letters part starts_with all_small
not_single [] rest all from-it = refl
not_single (x ∷ word) rest all from-it =
    rw from-it.rest_is
    (starts_otherwise (letters "single") 32 (letters "letter") (x ∷ word) from-it.first from-it.others refl refl all
    from-it.no_letter from-it.other)

module _ (rest : List ℕ) (condition start middle from : ℕ) (opens : Bool) (more : List ℕ) where
  -- the rule that a line read up to its replacement will be
  abbrev acting : Action → Rule
  acting does =
      record {
        condition = condition;
        ending = take (middle - start) (drop start rest);
        action = does;
        opens = opens;
      }

  action_read : (does : Action) → all_small (written does) ≡ true
      → drop from rest ≡ action does ++ (cond opens (letters " opens") [] ++ (10 ∷ more))
      → ReadAs rest (after_arrow rest condition start middle from) (acting does) more
  unfolding after_arrow action letters
  action_read (replace s2) all is =
      let end = close-apart opens more in
      let front = starts_with (letters "single letter") in
      let closed = cond opens (letters " opens") [] ++ (10 ∷ more) in
      let not_so : front (drop from rest) ≡ false = ap front is ∙ not_single s2 closed all end in
      let found : part_in (drop from rest) ≡ Some (letters_in (length s2) (length (part s2))) =
      ap part_in (is ∙ ap (λ (l : List ℕ). part s2 ++ l) end.rest_is) ∙ part_read s2 end.first end.others all end.no_letter in
      let line = unclosed condition 0 start middle from (from + length s2) (from + length (part s2)) in
      rw (not_so, found)
      (rw (between_is rest from s2 closed is) at (close_read rest line more opens refl (behind rest from (part s2) closed is)))
  action_read single_letter all is =
      let front = starts_with (letters "single letter") in
      let closed = cond opens (letters " opens") [] ++ (10 ∷ more) in
      let so : front (drop from rest) ≡ true = ap front is ∙ starts-append (letters "single letter") closed in
      let line = unclosed condition 1 start middle from from (from + 13) in
      rw so (close_read rest line more opens refl (behind rest from (letters "single letter") closed is))

-- ## The whole line
module _ (rest : List ℕ) (one : Rule) (start : ℕ) (more : List ℕ) where
  abbrev behind_arrow : List ℕ
  behind_arrow = action one.action ++ (cond one.opens (letters " opens") [] ++ (10 ∷ more))

  ending_read : all_small one.ending ≡ true → all_small (written one.action) ≡ true
      → drop start rest ≡ part one.ending ++ (letters " -> " ++ behind_arrow)
      → ReadAs rest (after_condition rest one.condition start) one more
  unfolding after_condition letters starts_with
  ending_read all small-too is =
      let e = one.ending in
      let arrow = start + length (part e) in
      let found : part_in (drop start rest) ≡ Some (letters_in (length e) (length (part e))) =
      ap part_in is ∙ part_read e 32 (letters "-> " ++ behind_arrow) all refl in
      let at-arrow = behind rest start (part e) (letters " -> " ++ behind_arrow) is in
      let so : starts_with (letters " -> ") (drop arrow rest) ≡ true =
      ap (starts_with (letters " -> ")) at-arrow ∙ starts-append (letters " -> ") behind_arrow in
      let from = behind rest arrow (letters " -> ") behind_arrow at-arrow in
      rw (found, so)
      (rw (between_is rest start e (letters " -> " ++ behind_arrow) is) at
      (action_read rest one.condition start (start + length e) (arrow + 4) one.opens more one.action small-too from))

-- a rule's line, by its parts
by_parts : (c e a o more : List ℕ) → (c ++ (letters " " ++ (e ++ (letters " -> " ++ (a ++ o))))) ++ (10 ∷ more)
    ≡ (c ++ letters " ") ++ (e ++ (letters " -> " ++ (a ++ (o ++ (10 ∷ more)))))
by_parts c e a o more = simp append_assoc

found_read : (rest : List ℕ) (one : Rule) (more : List ℕ) → one.condition < length spellings
    → all_small one.ending ≡ true → all_small (written one.action) ≡ true
    → rest
    ≡ spelled one.condition
    ++ (part one.ending ++ (letters " -> " ++ (action one.action ++ (cond one.opens (letters " opens") [] ++ (10 ∷ more)))))
    → ReadAs rest (found_in rest) one more
unfolding found_in
found_read rest one more low small_ending small_replacement is =
    let start = length (spelled one.condition) in
    let tail = action one.action ++ (cond one.opens (letters " opens") [] ++ (10 ∷ more)) in
    let head : head_in rest ≡ Some (Condition one.condition start) =
    ap head_in is ∙ head_read one.condition one.ending tail low small_ending in
    let from : drop start rest ≡ part one.ending ++ (letters " -> " ++ tail) =
    ap (drop start) is ∙ drop-append_seam (spelled one.condition) (part one.ending ++ (letters " -> " ++ tail)) in
    rw head (ending_read rest one start more small_ending small_replacement from)

rule_read : (one : Rule) (more : List ℕ) → form (rule one) ≡ true
    → ReadAs (print (rule one) ++ (10 ∷ more)) (found_in (print (rule one) ++ (10 ∷ more))) one more
unfolding form print spelled
rule_read one more is =
    let nine = ltb one.condition (length spellings) in
    let three = and_parts (nine && all_small one.ending) (all_small (written one.action)) is in
    let two = and_parts nine (all_small one.ending) three.0 in
    let close = cond one.opens (letters " opens") [] in
    found_read (print (rule one) ++ (10 ∷ more)) one more (ltb-true _ _ two.0) two.1 three.1
    (by_parts (spelling one.condition) (part one.ending) (action one.action) close more)

complete : (line : Line) (more : List ℕ) → form line ≡ true → read_line (print line ++ (10 ∷ more)) ≡ got line more
unfolding read_line found_in head_in starts_with print letters
complete (group always) more is = refl
complete (group if_opened) more is = refl
complete (rule one) more is =
    let read = rule_read one more is in
    let rest = print (rule one) ++ (10 ∷ more) in
    ap (told rest) read.is_found ∙ ap₂ (λ (r : Rule) (l : List ℕ). got (rule r) l) read.is_rule read.is_behind

-- the reader finds a line of the form exactly where its printed text and a line feed stand
pub reads : Reads print form read_line
reads = record { sound = sound; complete = complete }

-- ## What follows
-- no two lists of lines have the same text
pub one_text : (these those : List Line) → all_of form these ≡ true → all_of form those ≡ true
    → text_of print these ≡ text_of print those → these ≡ those
one_text these those = one_reading reads these those
