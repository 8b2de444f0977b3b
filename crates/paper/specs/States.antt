-- The state of a part: how often the class changes from letter to letter, as if a consonant stood before the first. It is twice the
-- measure, and one more where the last letter is a vowel. So a condition is a look at the states of the part and of the parts one and
-- two letters shorter.
use Rattle.std.specs.Prelude.{ℕ, suc, ◌+◌, ◌*◌, ◌-◌, ◌/◌, ◌%◌, ◌≤◌, ◌<◌, ◌≡◌, refl, Bool, true, false, cond, ◌&&◌, ◌||◌, List, [], ◌∷◌, ◌++◌, reverse, take, drop, get_or}
use Rattle.std.proofs.Common.{le_refl, arith, ◌∙◌, append-nil, append_assoc, take-append-drop, drop_of_length-le, drop_at}
use Rattle.std.proofs.Math.Decide.{dec_le}
use Rattle.std.proofs.Math.Path.{sym, ap}
use Rattle.std.proofs.Math.Bool.{not, and-false, not-not}
use Rattle.std.proofs.lemmas.List.{reverse-append, length-reverse}
use Rattle.std.proofs.Math.Dec.{eqb, ltb}
use Rattle.std.proofs.Math.ListN.{length, length-drop, get_or-append}
use borrow.Author.Tests.{lt-ltb, le-ltb, eq-eqb, ne_eqb, ltb-true, ltb-false}
use Rattle.paper.specs.Letters.{letters, among, Class, none, consonant, vowel, is_consonant, is_vowel, vowel_after, class_after}
use Rattle.paper.specs.Letters.{inward, class_of, letter_at, class_at, rise, rises, measure}
use Rattle.paper.specs.LettersLaws.{inward_more}
use Rattle.paper.specs.TestLaws.{one_if, by_test}
use Rattle.paper.specs.Conditions.{some_vowel, *v*, *d, *o, last_is, conditions, holds}

-- of letters that stand from the last inward
unfoldable pub state_in : List ℕ → ℕ
state_in letters = 2 * rises letters + one_if (is_vowel (class_of letters))

unfoldable pub state : List ℕ → ℕ
state part = state_in (inward part)

-- ## What it says

half : (m : ℕ) (b : Bool) → (2 * m + one_if b) / 2 ≡ m
half m true = omega arith
half m false = omega arith

odd : (m : ℕ) (b : Bool) → eqb ((2 * m + one_if b) % 2) 1 ≡ b
odd m true = eq-eqb ((2 * m + 1) % 2) 1 (omega arith)
odd m false = ne_eqb ((2 * m + 0) % 2) 1 (λ e. omega (arith, e))

pub measure_by_state : (part : List ℕ) → measure part ≡ state part / 2
unfolding measure state state_in
measure_by_state part = sym (half (rises (inward part)) (is_vowel (class_of (inward part))))

-- the last letter is a vowel where the state is odd
vowel_by_state : (from_last : List ℕ) → is_vowel (class_of from_last) ≡ eqb (state_in from_last % 2) 1
unfolding state_in
vowel_by_state from_last = sym (odd (rises from_last) (is_vowel (class_of from_last)))

-- and a consonant where it is even, if there is a letter
consonant_by_state : (from_last : List ℕ)
    → is_consonant (class_of from_last) ≡ ltb 0 (length from_last) && not (eqb (state_in from_last % 2) 1)
unfolding class_of class_after
consonant_by_state [] = refl
consonant_by_state (letter ∷ preceding) =
    rw (lt-ltb 0 (suc (length preceding)) (omega arith), ← vowel_by_state (letter ∷ preceding)) (go (vowel_after (class_of preceding) letter))
  where
    go : (b : Bool) → is_consonant (cond b vowel consonant) ≡ not (is_vowel (cond b vowel consonant))
    go true = refl
    go false = refl

-- ## One letter more

-- 1 where the class is another
abbrev pub changed : Bool → Bool → ℕ
changed true true = 0
changed true false = 1
changed false true = 1
changed false false = 0

state_in_more : (letter : ℕ) (preceding : List ℕ)
    → state_in (letter ∷ preceding) ≡ changed (is_vowel (class_of preceding)) (vowel_after (class_of preceding) letter) + state_in preceding
unfolding state_in rises class_of class_after
state_in_more letter preceding = go (class_of preceding) (vowel_after (class_of preceding) letter) (rises preceding)
  where
    go : (class : Class) (b : Bool) (r : ℕ)
        → 2 * (rise class (cond b vowel consonant) + r) + one_if (is_vowel (cond b vowel consonant))
        ≡ changed (is_vowel class) b + (2 * r + one_if (is_vowel class))
    go none true r = omega arith
    go none false r = omega arith
    go consonant true r = omega arith
    go consonant false r = omega arith
    go vowel true r = omega arith
    go vowel false r = omega arith

pub state_more : (part : List ℕ) (letter : ℕ)
    → state (part ++ letter ∷ []) ≡ changed (is_vowel (class_at 0 part)) (vowel_after (class_at 0 part) letter) + state part
unfolding state class_at
state_more part letter = rw inward_more (state_in_more letter (inward part))

-- the last letter is a vowel where the state is odd
pub last_by_state : (part : List ℕ) → is_vowel (class_at 0 part) ≡ eqb (state part % 2) 1
unfolding state class_at
last_by_state part = vowel_by_state (inward part)

-- the state of a part without its last k letters
abbrev pub state_at : ℕ → List ℕ → ℕ
state_at k part = state_in (drop k (inward part))

pub state_at_earlier : (k : ℕ) (part : List ℕ) (letter : ℕ) → state_at (suc k) (part ++ letter ∷ []) ≡ state_at k part
state_at_earlier k part letter = rw inward_more

-- more letters never take away from it
pub state_grows : (part more : List ℕ) → state part ≤ state (part ++ more)
state_grows part [] = rw append-nil (le_refl (state part))
state_grows part (letter ∷ more) =
    let rest = state_grows (part ++ letter ∷ []) more in
    let one = state_more part letter in
    let both : state part ≤ state ((part ++ letter ∷ []) ++ more) = omega (arith, one, rest) in
    rw append_assoc at both

-- it is that of the first letters
pub state_shorter : (k : ℕ) (part : List ℕ) → state_at k part ≡ state (take (length part - k) part)
unfolding state inward
state_shorter k part = ap state_in (go (dec_le k (length part)))
  where
    go : Dec (k ≤ length part) → drop k (reverse part) ≡ reverse (take (length part - k) part)
    go (yes within) =
        let n = length part - k in
        let behind : length (reverse (drop n part)) ≡ k
        = length-reverse (drop n part) ∙ length-drop n part ∙ omega arith in
        ap (λ (l : List ℕ). drop k (reverse l)) (sym (take-append-drop n part))
        ∙ ap (drop k) (reverse-append (take n part) (drop n part))
        ∙ drop_at (reverse (drop n part)) (reverse (take n part)) k behind
    go (no beyond) =
        let none : length part - k ≡ 0 = omega arith in
        rw none (drop_of_length-le (reverse part) {i = k} (omega (arith, length-reverse part)))

-- ## Conditions

some_vowel_lem : (from_last : List ℕ) → some_vowel from_last ≡ ltb 0 (state_in from_last)
unfolding some_vowel state_in rises class_of class_after
some_vowel_lem [] = refl
some_vowel_lem (letter ∷ preceding) =
    rw (state_in_more letter preceding, some_vowel_lem preceding)
    (go (class_of preceding) (vowel_after (class_of preceding) letter) (rises preceding))
  where
    go : (class : Class) (b : Bool) (r : ℕ)
        → is_vowel (cond b vowel consonant) || ltb 0 (2 * r + one_if (is_vowel class))
        ≡ ltb 0 (changed (is_vowel class) b + (2 * r + one_if (is_vowel class)))
    go none true r = sym (lt-ltb 0 (1 + (2 * r + 0)) (omega arith))
    go none false r = ap (ltb 0) {x = 2 * r + 0} {y = 0 + (2 * r + 0)} (omega arith)
    go consonant true r = sym (lt-ltb 0 (1 + (2 * r + 0)) (omega arith))
    go consonant false r = ap (ltb 0) {x = 2 * r + 0} {y = 0 + (2 * r + 0)} (omega arith)
    go vowel true r = sym (lt-ltb 0 (0 + (2 * r + 1)) (omega arith))
    go vowel false r = lt-ltb 0 (2 * r + 1) (omega arith) ∙ sym (lt-ltb 0 (1 + (2 * r + 1)) (omega arith))

-- `*v*` where the state is at least 1, m>0 from 2 on, m>1 from 4 on
pub vowel_from_1 : (part : List ℕ) → *v* part ≡ ltb 0 (state part)
unfolding *v* state
vowel_from_1 part = some_vowel_lem (inward part)

above_by : (n k m : ℕ) → (k < m → 2 * k + 1 < n) → (m ≤ k → n ≤ 2 * k + 1) → ltb k m ≡ ltb (2 * k + 1) n
above_by n k m up down =
    by_test (ltb k m) (λ p. p ∙ sym (lt-ltb (2 * k + 1) n (up (ltb-true k m p))))
    (λ p. p ∙ sym (le-ltb (2 * k + 1) n (down (ltb-false k m p))))

pub above_from : (k : ℕ) (part : List ℕ) → ltb k (measure part) ≡ ltb (2 * k + 1) (state part)
above_from k part =
    let m = measure_by_state part in
    above_by (state part) k (measure part) (λ h. omega (arith, h, m)) (λ h. omega (arith, h, m))

abbrev pub even : ℕ → Bool
even n = not (eqb (n % 2) 1)

module _ (part : List ℕ) where
  left : (k : ℕ) → length (drop k (inward part)) ≡ length part - k
  unfolding inward
  left k = length-drop k (reverse part) ∙ ap (λ (n : ℕ). n - k) (length-reverse part)

  -- a letter stands there, and it is a consonant
  consonant_at : (k : ℕ) → is_consonant (class_at k part) ≡ ltb 0 (length part - k) && even (state_at k part)
  unfolding class_at
  consonant_at k =
      consonant_by_state (drop k (inward part)) ∙ ap (λ (n : ℕ). ltb 0 n && even (state_at k part)) (left k)

  -- the last letter is a consonant where there is one and the state is even
  pub consonant_last : is_consonant (class_at 0 part) ≡ ltb 0 (length part) && even (state part)
  unfolding state
  consonant_last = consonant_at 0 ∙ ap (λ (n : ℕ). ltb 0 n && even (state part)) {x = length part - 0} {y = length part} (omega arith)

  -- "the last two letters are equal and both consonants"
  pub double_by_states : *d part
      ≡ eqb (letter_at 0 part) (letter_at 1 part) && (ltb 1 (length part) && (even (state_at 0 part) && even (state_at 1 part)))
  unfolding *d
  double_by_states =
      ap (λ (b : Bool). eqb (letter_at 0 part) (letter_at 1 part) && b)
      (rw (consonant_at 0, consonant_at 1) (both (length part) (even (state_at 0 part)) (even (state_at 1 part))))
    where
      both : (n : ℕ) (a b : Bool) → (ltb 0 (n - 0) && a) && (ltb 0 (n - 1) && b) ≡ ltb 1 n && (a && b)
      both n a b =
          by_test (ltb 1 n)
          (λ p.
          let more = ltb-true 1 n p in
          rw (p, lt-ltb 0 (n - 0) (omega (arith, more)), lt-ltb 0 (n - 1) (omega (arith, more))))
          (λ p. rw (p, le-ltb 0 (n - 1) (omega (arith, ltb-false 1 n p))) (and-false (ltb 0 (n - 0) && a)))

  -- "the last three are consonant, vowel, consonant, and the last is not w, x or y"
  vowel_at : (k : ℕ) → is_vowel (class_at k part) ≡ not (even (state_at k part))
  unfolding class_at
  vowel_at k = vowel_by_state (drop k (inward part)) ∙ sym (not-not (eqb (state_at k part % 2) 1))

  pub short_by_states : *o part
      ≡ (ltb 2 (length part) && (even (state_at 2 part) && (not (even (state_at 1 part)) && even (state_at 0 part))))
      && not (among (letter_at 0 part) (letters "wxy"))
  unfolding *o
  short_by_states =
      let three : is_consonant (class_at 2 part) && (is_vowel (class_at 1 part) && is_consonant (class_at 0 part))
      ≡ ltb 2 (length part) && (even (state_at 2 part) && (not (even (state_at 1 part)) && even (state_at 0 part)))
      = rw (consonant_at 2, vowel_at 1, consonant_at 0)
      (all_three (length part) (even (state_at 2 part)) (not (even (state_at 1 part))) (even (state_at 0 part))) in
      ap (λ (b : Bool). b && not (among (letter_at 0 part) (letters "wxy"))) three
    where
      all_three : (n : ℕ) (a b c : Bool) → (ltb 0 (n - 2) && a) && (b && (ltb 0 (n - 0) && c)) ≡ ltb 2 n && (a && (b && c))
      all_three n a b c =
          by_test (ltb 2 n)
          (λ p.
          let more = ltb-true 2 n p in
          rw (p, lt-ltb 0 (n - 0) (omega (arith, more)), lt-ltb 0 (n - 2) (omega (arith, more))))
          (λ p. rw (p, le-ltb 0 (n - 2) (omega (arith, ltb-false 2 n p))))

-- the nine conditions of a part, by its state and those of one and two letters fewer
module _ (part : List ℕ) (now before earlier : ℕ) where
  abbrev pub double_by : Bool
  double_by = eqb (letter_at 0 part) (letter_at 1 part) && (ltb 1 (length part) && (even now && even before))

  abbrev pub short_by : Bool
  short_by =
      (ltb 2 (length part) && (even earlier && (not (even before) && even now))) && not (among (letter_at 0 part) (letters "wxy"))

  unfoldable pub conditions_by : List Bool
  conditions_by =
      true
      ∷ ltb 1 now
      ∷ ltb 3 now
      ∷ ltb 0 now
      ∷ (ltb 3 now && (last_is "s" part || last_is "t" part))
      ∷ (double_by && not (last_is "l" part || (last_is "s" part || last_is "z" part)))
      ∷ (eqb (now / 2) 1 && short_by)
      ∷ (eqb (now / 2) 1 && not short_by)
      ∷ (ltb 3 now && (double_by && last_is "l" part))
      ∷ []

unfoldable pub holds_by : ℕ → List ℕ → ℕ → ℕ → ℕ → Bool
holds_by number part now before earlier = get_or (conditions_by part now before earlier) number false

conditions_by_states : (part : List ℕ) → conditions_by part (state part) (state_at 1 part) (state_at 2 part) ≡ conditions part
unfolding conditions_by conditions state
conditions_by_states part =
    rw (
      vowel_from_1 part,
      double_by_states part,
      short_by_states part,
      above_from 0 part,
      above_from 1 part,
      measure_by_state part,
    )

pub holds_by_states :
    (number : ℕ) (part : List ℕ) → holds_by number part (state part) (state_at 1 part) (state_at 2 part) ≡ holds number part
unfolding holds_by holds
holds_by_states number part = ap (λ (l : List Bool). get_or l number false) (conditions_by_states part)

-- the first four look at no letter, and at the state of the whole part alone
unfoldable pub reaches_by : ℕ → ℕ → Bool
reaches_by number now = get_or (true ∷ ltb 1 now ∷ ltb 3 now ∷ ltb 0 now ∷ []) number false

pub reaches_holds :
    (number : ℕ) (part : List ℕ) (now before earlier : ℕ) → number < 4 → reaches_by number now ≡ holds_by number part now before earlier
unfolding reaches_by holds_by conditions_by
reaches_holds number part now before earlier h =
    sym (get_or-append (true ∷ ltb 1 now ∷ ltb 3 now ∷ ltb 0 now ∷ []) (drop 4 (conditions_by part now before earlier)) false number h)
