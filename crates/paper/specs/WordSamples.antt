-- The samples that document 01 marks P, with W-201's answer for s; words of one and two letters by their stem and as sheets and tables
-- read them, side by side; words that are refused, with W-204's places; and 01's examples of the measure: each as one statement over a
-- single list. And how many rules 01 has.
use Rattle.std.specs.Prelude.{ℕ, ◌+◌, ◌≡◌, refl, List, [], ◌∷◌, map, length, get_or}
use Prim.Native.String.{String}
use Rattle.std.proofs.Common.{arith, sym, ap, ◌∙◌}
use Rattle.paper.specs.Letters.{letters, among, vowel_after, class_after, inward, class_of, letter_at, class_at, rises, measure}
use Rattle.paper.specs.Conditions.{some_vowel, *v*, *d, *o, last_is, conditions, holds}
use Rattle.paper.specs.Groups.{Group, done, same, ends_with, before, which, first, fitting, longest, chosen, obeyed, act}
use Rattle.paper.specs.Groups.{result, opens_next, steps, reading}
use Rattle.paper.specs.Shipped.{shipped}
use Rattle.paper.specs.Words.{read_word, stem, placed, wrong_length, all_small, Outcome, judged, reading_outcome, judged_outcome}
use Rattle.paper.specs.Words.{first_other, refused, word_outcome, outcome}

-- "nine groups, 62 rules"
unfoldable pub rule_count : List Group → ℕ
rule_count [] = 0
rule_count (group ∷ groups) = length group.rules + rule_count groups

pub shipped_count : (length shipped ≡ 9) × (rule_count shipped ≡ 62)
unfolding rule_count shipped
shipped_count = (refl, refl)

-- a word and its stem
unfoldable pub samples : List (String × String)
samples =
    ("feed", "feed")
    ∷ ("agreed", "agre")
    ∷ ("element", "element")
    ∷ ("hopping", "hop")
    ∷ ("hoping", "hope")
    ∷ ("snowing", "snow")
    ∷ ("controlling", "control")
    ∷ ("sky", "sky")
    ∷ ("toy", "toi")
    ∷ ("ies", "i")
    ∷ ("s", "s")
    ∷ ("relational", "relat")
    ∷ ("generalizations", "gener")
    ∷ ("oscillators", "oscil")
    ∷ ("xyying", "xyi")
    ∷ []

pub samples_hold : map (λ s. stem shipped (letters s.0)) samples ≡ map (λ s. done (letters s.1)) samples
unfolding among vowel_after class_after inward class_of letter_at class_at rises measure some_vowel *v* *d *o last_is
    conditions holds same ends_with before which first fitting longest chosen obeyed act result opens_next steps reading shipped
    read_word stem samples
samples_hold = refl

-- a word, what the word stemmer leaves in its place, and what reading the shipped rules does, as a sheet and as a table are read
unfoldable pub short_samples : List (String × String × String)
short_samples =
    ("s", "s", " ")
    ∷ ("us", "us", "u ")
    ∷ ("as", "as", "a ")
    ∷ ("ay", "ay", "ai")
    ∷ ("by", "by", "by")
    ∷ ("y", "y", "y")
    ∷ ("ies", "i  ", "i  ")
    ∷ ("gas", "ga ", "ga ")
    ∷ []

abbrev pub Places : Type 0
Places = List ℕ × List ℕ

-- the places after the two calls on a word
abbrev pub both_places : String → Places
both_places word = ((outcome (letters word)).place, (word_outcome (read_word shipped) (letters word)).place)

pub short_samples_hold :
    map (λ s. both_places s.0) short_samples ≡ map {B = Places} (λ s. (letters s.1, letters s.2)) short_samples
unfolding among vowel_after class_after inward class_of letter_at class_at rises measure some_vowel *v* *d *o last_is
    conditions holds same ends_with before which first fitting longest chosen obeyed act result opens_next steps reading shipped
    read_word stem all_small wrong_length judged placed reading_outcome judged_outcome word_outcome short_samples
short_samples_hold = refl

-- the two calls give one outcome
abbrev pub Agree : String → Type 0
Agree word = word_outcome (read_word shipped) (letters word) ≡ outcome (letters word)

differs : (word : String) (own left : List ℕ) → both_places word ≡ (own, left) → (own ≡ left → ⊥) → Agree word → ⊥
differs word own left are apart same =
    apart (sym (ap (λ (p : Places). p.0) are) ∙ ap (λ (o : Outcome). o.place) (sym same) ∙ ap (λ (p : Places). p.1) are)

-- which they do not on "s" and on "us"
pub short_differ : (Agree "s" → ⊥) × (Agree "us" → ⊥)
unfolding letters short_samples
short_differ = (
  differs "s" (letters "s") (letters " ") (ap (λ (l : List Places). get_or l 0 ([], [])) short_samples_hold)
      (λ e. let letter : ◌≡◌ {A = ℕ} 115 32 = ap (λ (l : List ℕ). get_or l 0 0) e in omega arith),
  differs "us" (letters "us") (letters "u ") (ap (λ (l : List Places). get_or l 1 ([], [])) short_samples_hold)
      (λ e. let letter : ◌≡◌ {A = ℕ} 115 32 = ap (λ (l : List ℕ). get_or l 1 0) e in omega arith),
)

-- a word that is refused, the number and the value: a digit first, last, at 63, more than one; 1 comes before 2
unfoldable pub refusals : List (String × ℕ × ℕ)
refusals =
    ("1", 2, 0)
    ∷ ("1st", 2, 0)
    ∷ ("a1", 2, 1)
    ∷ ("type4", 2, 4)
    ∷ ("q345t", 2, 1)
    ∷ ("no sheet", 2, 2)
    ∷ ("Feed", 2, 0)
    ∷ ("aaaaaaaaaaaaaaaaaaaaaaaaaaaaaaaaaaaaaaaaaaaaaaaaaaaaaaaaaaaaaaa1", 2, 63)
    ∷ ("aaaaaaaaaaaaaaaaaaaaaaaaaaaaaaaaaaaaaaaaaaaaaaaaaaaaaaaaaaaaaaa1a", 1, 0)
    ∷ ("", 1, 0)
    ∷ []

pub refusals_hold :
    map (λ s. outcome (letters s.0)) refusals ≡ map (λ s. refused s.1 s.2 (letters s.0)) refusals
unfolding letters all_small first_other wrong_length judged judged_outcome word_outcome refusals
refusals_hold = refl

-- a part and its measure
unfoldable pub measures : List (String × ℕ)
measures =
    ("tr", 0)
    ∷ ("ee", 0)
    ∷ ("tree", 0)
    ∷ ("y", 0)
    ∷ ("by", 0)
    ∷ ("", 0)
    ∷ ("trouble", 1)
    ∷ ("oats", 1)
    ∷ ("trees", 1)
    ∷ ("ivy", 1)
    ∷ ("troubles", 2)
    ∷ ("private", 2)
    ∷ ("oaten", 2)
    ∷ ("orrery", 2)
    ∷ []

pub measures_hold : map (λ s. measure (letters s.0)) measures ≡ map (λ s. s.1) measures
unfolding letters among vowel_after class_after inward class_of rises measure measures
measures_hold = refl
