-- "answered n exactly when ..": each number of document 01 for a call on a word, whatever reads the word; the place that W-204 returns
-- with 2; and 4 in 01's words, of a word that is read by groups.
use Prim.Native.Nat.{ℕ, zero, suc, ◌≤◌, ◌<◌}
use Rattle.std.proofs.Common.{arith, sym, ap, subst, ◌∙◌, true≢false, ⊎_elim}
use Rattle.std.specs.Prelude.{◌≡◌, refl, Bool, false, not, List, [], ◌∷◌, map, ◌↔◌, ◌⊎◌, eqb, leb, ltb, length, get_or}
use Rattle.std.proofs.Math.Bool.{true}
use mathlib.Core.List.Memᴰ
use mathlib.Core.List.{Memᴰ}
use Rattle.std.proofs.Math.Logic.{inl, inr}
use borrow.Author.Tests.{eqb-true, eqb-false, ltb-true, ltb-false, leb-true, leb-false}
use Rattle.paper.specs.Groups.{Group, read_turn, Step, steps, Reading, done, outgrown, reading}
use Rattle.paper.specs.TestLaws.{by_test, or_cases, neither_left, neither_right, and_parts, apart}
use Rattle.paper.specs.Words.{wrong_length, small, all_small, first_other, Outcome, reading_outcome, word_outcome, read_word}
use Rattle.paper.specs.WordsLaws.{other_inside, judged-empty, judged_long, judged_other, judged_taken, gives_refused, outcome_taken}

-- "the word has 0 or more than 64 bytes"
abbrev pub WrongLength : List ℕ → Type 0
WrongLength word = (length word ≡ 0) ⊎ (64 < length word)

-- it has 1 to 64
pub record RightLength (word : List ℕ) : Type 0 where
  pub least : 1 ≤ length word
  pub most : length word ≤ 64

-- "a byte of the word is outside a to z"
abbrev pub OtherByte : List ℕ → Type 0
OtherByte word = (byte : ℕ) × Memᴰ byte word × (small byte ≡ false)

-- W-204: "the place of the first byte outside a to z"
pub record FirstOther (word : List ℕ) (place : ℕ) : Type 0 where
  pub inside : place < length word
  pub outside : small (get_or word place 0) ≡ false
  pub before : (i : ℕ) → i < place → small (get_or word i 0) ≡ true

-- 1 to 64 small letters
abbrev pub SmallWord : List ℕ → Type 0
SmallWord word = RightLength word × (all_small word ≡ true)

other_in : (word : List ℕ) → all_small word ≡ false → OtherByte word
unfolding all_small
other_in [] is = absurd (true≢false is)
other_in (byte ∷ bytes) is =
    by_test (small byte)
    (λ here. let found = other_in bytes (rw here at is) in (found.0, Memᴰ.tail found.1, found.2))
    (λ here. (byte, Memᴰ.head refl, here))

small_in : (word : List ℕ) (byte : ℕ) → all_small word ≡ true → Memᴰ byte word → small byte ≡ true
unfolding all_small
small_in [] byte all m = absurd (Memᴰ.not-nil m)
small_in (one ∷ bytes) byte all m =
    let both = and_parts (small one) (all_small bytes) all in
    ⊎_elim (λ same. rw same both.0) (λ later. small_in bytes byte both.1 later) (Memᴰ.cases_cons m)

-- ## The place of the first byte outside a to z

found_first : (word : List ℕ) → all_small word ≡ false → FirstOther word (first_other word)
unfolding all_small first_other
found_first [] is = absurd (true≢false is)
found_first (byte ∷ bytes) is =
    by_test (small byte)
    (λ here. let later = found_first bytes (rw here at is) in
    rw here (record { inside = omega (arith, later.inside); outside = later.outside; before = first_too here later }))
    (λ here. rw here (record { inside = omega arith; outside = here; before = λ i earlier. absurd (omega (arith, earlier)) }))
  where
    first_too : small byte ≡ true → FirstOther bytes (first_other bytes) → (i : ℕ) → i < suc (first_other bytes)
        → small (get_or (byte ∷ bytes) i 0) ≡ true
    first_too here later zero earlier = here
    first_too here later (suc i) earlier = later.before i (omega (arith, earlier))

only_first : (word : List ℕ) (place : ℕ) → FirstOther word place → first_other word ≡ place
unfolding first_other
only_first [] place first = absurd (omega (arith, first.inside))
only_first (byte ∷ bytes) zero first = rw first.outside
only_first (byte ∷ bytes) (suc place) first =
    rw (first.before 0 (omega arith)) (ap suc (only_first bytes place (record {
      inside = omega (arith, first.inside);
      outside = first.outside;
      before = λ i earlier. first.before (suc i) (omega (arith, earlier));
    })))

-- no other place has that
pub one_place : {word : List ℕ} {one other : ℕ} → FirstOther word one → FirstOther word other → one ≡ other
one_place {word} {one} {other} is also = sym (only_first word one is) ∙ only_first word other also

-- ## Every number, both ways

module _ (rule : List ℕ → Reading) (word : List ℕ) where
  abbrev number : ℕ
  number = (word_outcome rule word).number

  abbrev value : ℕ
  value = (word_outcome rule word).value

  -- when a number is answered; no other is
  abbrev pub When : ℕ → Type 0
  When zero = SmallWord word × ((stem : List ℕ) × (rule word ≡ done stem))
  When (suc zero) = WrongLength word
  When (suc (suc zero)) = RightLength word × OtherByte word
  When (suc (suc (suc zero))) = ⊥
  When (suc (suc (suc (suc zero)))) = SmallWord word × (rule word ≡ outgrown)
  When (suc (suc (suc (suc (suc more))))) = ⊥

  wrong-length : WrongLength word → number ≡ 1
  wrong-length wrong =
      ⊎_elim (λ none. sym (gives_refused rule word (sym (judged-empty word none))).number_is)
      (λ long. sym (gives_refused rule word (sym (judged_long word long))).number_is) wrong

  module _ (right : RightLength word) where
    other_byte : all_small word ≡ false → (number ≡ 2) × (value ≡ first_other word)
    other_byte other =
        let refused = gives_refused rule word (sym (judged_other word (λ none. omega (arith, right.least)) right.most other)) in
        (sym refused.number_is, sym refused.value_is)

    module _ (all : all_small word ≡ true) where
      read : {given : Reading} → rule word ≡ given → number ≡ (reading_outcome word given).number
      read is =
          let is-taken = sym (judged_taken word (λ none. omega (arith, right.least)) right.most all) in
          ap (λ (o : Outcome). o.number) (outcome_taken rule word is-taken ∙ ap (reading_outcome word) is)

  has_other : OtherByte word → all_small word ≡ false
  has_other other =
      by_test (all_small word) (λ all. absurd (true≢false (sym (small_in word other.0 all other.1) ∙ other.2))) (λ some. some)

  has_first : {place : ℕ} → FirstOther word place → all_small word ≡ false
  has_first first =
      by_test (all_small word)
      (λ all.
      let none = ltb-false (first_other word) (length word) (other_inside word ∙ ap not all) in
      absurd (omega (arith, none, only_first word _ first, first.inside)))
      (λ some. some)

  answered_when : (n : ℕ) → When n → number ≡ n
  unfolding reading_outcome
  answered_when zero both = read both.0.0 both.0.1 both.1.1
  answered_when (suc zero) wrong = wrong-length wrong
  answered_when (suc (suc zero)) both = (other_byte both.0 (has_other both.1)).0
  answered_when (suc (suc (suc zero))) never = absurd never
  answered_when (suc (suc (suc (suc zero)))) both = read both.0.0 both.0.1 both.1
  answered_when (suc (suc (suc (suc (suc more))))) never = absurd never

  abbrev none_left : Bool
  none_left = eqb (length word) 0

  abbrev too_long : Bool
  too_long = ltb 64 (length word)

  -- some number is answered
  some_answer : (n : ℕ) × When n
  unfolding wrong_length
  some_answer =
      by_test (wrong_length word)
      (λ is. (1, or_cases none_left too_long is (λ none. inl (eqb-true _ _ none)) (λ long. inr (ltb-true _ _ long))))
      (λ is.
      let none = eqb-false (length word) 0 (neither_left none_left too_long is) in
      let right : RightLength word
      = record { least = omega (arith, none); most = ltb-false 64 (length word) (neither_right none_left too_long is) } in
      by_test (all_small word) (λ all. by_reading right all (rule word) refl) (λ some. (2, (right, other_in word some))))
    where
      by_reading : RightLength word → all_small word ≡ true → (given : Reading) → rule word ≡ given → (n : ℕ) × When n
      by_reading right all (done stem) is = (0, ((right, all), (stem, is)))
      by_reading right all outgrown is = (4, ((right, all), is))

  pub answered : (n : ℕ) → (number ≡ n) ↔ When n
  answered n = (
    λ is. let found = some_answer in subst When (sym (answered_when found.0 found.1) ∙ is) found.1,
    answered_when n,
  )

  -- with 2 the place of the first byte outside a to z is returned, and no other
  pub answered_place : (place : ℕ) → ((number ≡ 2) × (value ≡ place)) ↔ (RightLength word × FirstOther word place)
  answered_place place = (
    λ is.
        let both = (answered 2).0 is.0 in
        let other = has_other both.1 in
        (both.0, subst (FirstOther word) (sym (other_byte both.0 other).1 ∙ is.1) (found_first word other)),
    λ both.
        let refused = other_byte both.0 (has_first both.1) in
        (refused.0, refused.1 ∙ only_first word place both.1),
  )

-- ## "some group's result is longer than the word's place"

abbrev pub SomeLonger : ℕ → List Step → Type 0
SomeLonger place given = (step : Step) × Memᴰ step given × (place < length step.word)

reading_outgrown : (place : ℕ) (word : List ℕ) (given : List Step) → (reading place word given ≡ outgrown) ↔ SomeLonger place given
unfolding reading
reading_outgrown place word [] = (λ is. apart (cc), λ some. absurd (Memᴰ.not-nil some.1))
reading_outgrown place word (step ∷ later) =
    let rest = reading_outgrown place step.word later in
    by_test (leb (length step.word) place)
    (λ fits. (
      λ is. let found = rest.0 (rw fits at is) in (found.0, Memᴰ.tail found.1, found.2),
      λ some. rw fits (⊎_elim
          (λ same. absurd (omega (arith, leb-true (length step.word) place fits, some.2, ap (λ (s : Step). length s.word) same)))
          (λ stands. rest.1 (some.0, stands, some.2)) (Memᴰ.cases_cons some.1)),
    ))
    (λ over. (λ is. (step, Memᴰ.head refl, leb-false _ _ over), λ some. rw over))

pub outgrown_exactly : (groups : List Group) (word : List ℕ)
    → (read_word groups word ≡ outgrown) ↔ SomeLonger (length word) (steps (map read_turn groups) false word)
unfolding read_word
outgrown_exactly groups word = reading_outgrown (length word) word (steps (map read_turn groups) false word)
