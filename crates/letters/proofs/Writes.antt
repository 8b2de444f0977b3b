-- The loop that notes states in a list: what stands in the list when some of the letters were passed.
use Prim.Native.Nat.{ℕ, zero, suc, ◌+◌, ◌-◌, ◌≤◌, ◌<◌}
use native.Mathlib.Numerals.{add-one}
use native.Mathlib.Omega.{arith}
use mathlib.Core.Path.{◌≡◌, refl, sym, ap, ◌∙◌}
use mathlib.Core.Bool.{Bool, true, false, ◌&&◌, ◌||◌, and-false}
use mathlib.Core.List.{List, [], ◌∷◌}
use borrow.Author.Tests.{lt-ltb, le-ltb, le-leb, lt-leb, leb-true, ltb-true}
use lib.Dec.{ltb, leb}
use lib.ListN.{length, take, drop, get_or, set, length-set, length-drop}
use lib.Seq.{drop-cons, length-take-le, take-take, paste, paste-zero, paste-suc}
use Rattle.paper.specs.States.{even}
use Rattle.paper.specs.Noted.{next_state, states_after, length_after}
use Rattle.paper.specs.TestLaws.{or_cases}
use Rattle.paper.specs.Words.{first_other}
use Rattle.letters.proofs.Steps.{next_most}
use Rattle.letters.specs.Notes.{noted, renewed}

-- the states of the first letters are the first of the states
states_take : (after : Bool) (before k : ℕ) (letters : List ℕ)
    → states_after after before (take k letters) ≡ take k (states_after after before letters)
unfolding states_after
states_take after before zero letters = refl
states_take after before (suc k) [] = refl
states_take after before (suc k) (letter ∷ letters) =
    let next = next_state after before letter in
    ap (λ (l : List ℕ). next ∷ l) (states_take (even next) next k letters)

module _ (word states₀ : List ℕ) (from : ℕ) (after : Bool) (before : ℕ) where
  abbrev pub made : List ℕ
  made = states_after after before (drop from word)

  -- at the loop's head: the letters from a place on, up to this one, were passed
  pub record Writing (states : List ℕ) (state : ℕ) (consonant : Bool) (i : ℕ) : Type 0 where
    pub low : from ≤ i
    pub high : i ≤ length word
    pub size : length states ≡ length states₀
    pub written : states ≡ paste states₀ (suc from) made (i - from)
    pub rest : states_after consonant state (drop i word) ≡ drop (i - from) made
    pub most : state ≤ before + (i - from)

  length_made : length made ≡ length word - from
  length_made = length_after after before (drop from word) ∙ length-drop from word

  pub writing_none : from ≤ length word → Writing states₀ before after from
  writing_none within =
      let none : from - from ≡ 0 = omega arith in
      record {
        low = omega arith;
        high = within;
        size = refl;
        written = rw none (paste-zero states₀ (suc from) made);
        rest = rw none;
        most = omega arith;
      }

  module _ (longer : length word < length states₀) (states : List ℕ) (state : ℕ) (consonant : Bool) (i : ℕ) where
    -- one letter more: the state after it is stored behind the letter's place
    pub writing_more :
        (next : ℕ)
        → Writing states state consonant i
        → i < length word
        → next ≡ next_state consonant state (get_or word i 0)
        → Writing (set states (i + 1) next) next (even next) (i + 1)
    unfolding states_after
    writing_more next w inside is =
        let k = i - from in
        let size-made = length_made in
        let low = w.low in
        let among : k < length made = omega arith in
        let here : drop i word ≡ get_or word i 0 ∷ drop (suc i) word = drop-cons word i 0 inside in
        let there : drop k made ≡ get_or made k 0 ∷ drop (suc k) made = drop-cons made k 0 among in
        let both : next ∷ states_after (even next) next (drop (suc i) word) ≡ get_or made k 0 ∷ drop (suc k) made =
        rw is (sym (ap (states_after consonant state) here) ∙ w.rest ∙ there) in
        let head : next ≡ get_or made k 0 = cc in
        let count : i + 1 - from ≡ suc k = omega arith in
        let place : i + 1 ≡ suc from + k = omega arith in
        record {
          low = omega arith;
          high = omega arith;
          size = length-set states (i + 1) next ∙ w.size;
          written = rw (count, place, head, w.written) (paste-suc states₀ (suc from) made k 0 (omega arith) among);
          rest = rw (count, add-one) (cc);
          most = omega (arith, w.most, next_most consonant state (get_or word i 0));
        }

module _ (word states₀ states : List ℕ) (state : ℕ) (consonant : Bool) (i : ℕ) (longer : length word < length states₀) where
  -- every letter from the place on was passed
  pub renewed_is :
      (from : ℕ)
      → Writing word states₀ from (ltb 0 from && even (get_or states₀ from 0)) (get_or states₀ from 0) states state consonant i
      → length word ≤ i
      → get_or states₀ from 0 + (length word - from) ≤ 255
      → states ≡ renewed states₀ word from
  unfolding renewed
  renewed_is from w end small =
      let here = get_or states₀ from 0 in
      let size = length_made word states₀ from (ltb 0 from && even here) here in
      let low = w.low in
      let high = w.high in
      let all : i - from ≡ length word - from = omega arith in
      rw (
        le-leb from (length word) (omega arith),
        lt-ltb (length word) (length states₀) longer,
        le-leb (here + (length word - from)) 255 small,
        size,
        ← all,
      )
      w.written

  -- every letter before the first other byte was passed
  pub noted_is :
      Writing word states₀ 0 false 0 states state consonant i → i ≡ first_other word → length word ≤ 255 → states ≡ noted states₀ word
  unfolding noted
  noted_is w first small =
      let high = w.high in
      let all : i - 0 ≡ i = omega arith in
      let passed = states_take false 0 i word in
      let size : length (states_after false 0 (take i word)) ≡ i = length_after false 0 (take i word) ∙ length-take-le i word high in
      let written = rw all at w.written in
      rw (
        ← first,
        lt-ltb (length word) (length states₀) longer,
        le-leb (length word) 255 small,
        size,
        passed,
        take-take i i _ (omega arith),
      )
      written

-- no state is noted
pub noted_not :
    (word states : List ℕ) → leb (length states) (length word) || ltb 255 (length word) ≡ true → states ≡ noted states word
unfolding noted
noted_not word states e =
    or_cases (leb (length states) (length word)) (ltb 255 (length word)) e
    (λ p. rw (le-ltb (length word) (length states) (leb-true (length states) (length word) p)))
    (λ p. rw (lt-leb (length word) 255 (ltb-true 255 (length word) p), and-false))
