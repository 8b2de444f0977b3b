-- The states of all parts that begin a word, kept in a list beside it: what a scan over the letters makes of them, one after the other,
-- and what they tell of a condition. Letters that are written behind a part change no state up to it.
use Rattle.std.specs.Prelude.{ℕ, zero, suc, ◌+◌, ◌-◌, ◌%◌, ◌≤◌, ◌<◌, ◌≡◌, refl, Bool, true, false, ◌&&◌, List, [], ◌∷◌, ◌++◌, eqb, ltb, length, take, drop, get_or}
use Rattle.std.proofs.Common.{not-suc-le-zero, le_of_suc-le-suc, arith, sym, ap, ◌∙◌, append-nil, append_assoc, lt-ltb, length-append, take-append-drop, take_all, take_at, take-take, get_or-take, length-take-le}
use Rattle.std.proofs.Math.Seq.{paste, take-length}
use Rattle.std.proofs.lemmas.List.Edits.{take-paste}
use Rattle.paper.specs.Letters.{Class, none, consonant, vowel, is_consonant, is_vowel, vowel_after, inward, class_of, class_at, rises}
use Rattle.paper.specs.States.{state_in, state, state_at, state_shorter, changed, even, state_more, last_by_state, consonant_last}
use Rattle.paper.specs.States.{holds_by, holds_by_states}
use Rattle.paper.specs.Conditions.{holds}

-- ## One letter after the other

-- of the letter before, only whether it is a consonant counts
abbrev pub class_before : Bool → Class
class_before true = consonant
class_before false = none

-- the state after one letter more, by whether a consonant stands before it
unfoldable pub next_state : Bool → ℕ → ℕ → ℕ
next_state after before letter = changed (eqb (before % 2) 1) (vowel_after (class_before after) letter) + before

-- the states after each of these letters, from a state on
unfoldable pub states_after : Bool → ℕ → List ℕ → List ℕ
states_after after before [] = []
states_after after before (letter ∷ letters) =
    let next = next_state after before letter in
    next ∷ states_after (even next) next letters

-- the last letter of a part is a consonant
abbrev pub ends_in_consonant : List ℕ → Bool
ends_in_consonant part = ltb 0 (length part) && even (state part)

-- of the letter before, only whether it is a consonant counts
by_consonant : (class : Class) (letter : ℕ) → vowel_after (class_before (is_consonant class)) letter ≡ vowel_after class letter
unfolding vowel_after
by_consonant none letter = refl
by_consonant consonant letter = refl
by_consonant vowel letter = refl

pub next_is : (part : List ℕ) (letter : ℕ) → next_state (ends_in_consonant part) (state part) letter ≡ state (part ++ letter ∷ [])
unfolding next_state
next_is part letter =
    rw (← consonant_last part, by_consonant (class_at 0 part) letter, state_more part letter, last_by_state part)

pub ends_after : (part : List ℕ) (letter : ℕ) → even (state (part ++ letter ∷ [])) ≡ ends_in_consonant (part ++ letter ∷ [])
ends_after part letter = rw (lt-ltb 0 (length (part ++ letter ∷ [])) (omega (arith, length-append part (letter ∷ []))))

-- one letter of those that follow a part
step_after :
    (part : List ℕ) (letter : ℕ) (letters : List ℕ)
    → states_after (ends_in_consonant part) (state part) (letter ∷ letters)
    ≡ state (part ++ letter ∷ []) ∷ states_after (ends_in_consonant (part ++ letter ∷ [])) (state (part ++ letter ∷ [])) letters
unfolding states_after
step_after part letter letters =
    rw (next_is part letter)
    (ap (λ (b : Bool). state (part ++ letter ∷ []) ∷ states_after b (state (part ++ letter ∷ [])) letters) (ends_after part letter))

pub length_after : (after : Bool) (before : ℕ) (letters : List ℕ) → length (states_after after before letters) ≡ length letters
unfolding states_after
length_after after before [] = refl
length_after after before (letter ∷ letters) = ap suc (length_after (even (next_state after before letter)) (next_state after before letter) letters)

-- ## The list

-- the states of no letter, of the first letter, of the first two, up to the whole word
unfoldable pub states_of : List ℕ → List ℕ
states_of word = 0 ∷ states_after false 0 word

-- the list holds them, and further numbers behind them
abbrev pub Noted : List ℕ → List ℕ → Type 0
Noted word states = take (suc (length word)) states ≡ states_of word

pub length_states : (word : List ℕ) → length (states_of word) ≡ suc (length word)
unfolding states_of
length_states word = ap suc (length_after false 0 word)

after_append :
    (part letters more : List ℕ)
    → states_after (ends_in_consonant part) (state part) (letters ++ more)
    ≡ states_after (ends_in_consonant part) (state part) letters
    ++ states_after (ends_in_consonant (part ++ letters)) (state (part ++ letters)) more
unfolding states_after
after_append part [] more =
    rw (append-nil part)
after_append part (letter ∷ letters) more =
    let here : List ℕ = states_after (ends_in_consonant part) (state part) (letter ∷ letters) in
    let longer : List ℕ = part ++ letter ∷ [] in
    step_after part letter (letters ++ more)
    ∙ ap (λ (l : List ℕ). state (part ++ letter ∷ []) ∷ l) (after_append (part ++ letter ∷ []) letters more)
    ∙ ap (λ (l : List ℕ). l ++ states_after (ends_in_consonant (longer ++ letters)) (state (longer ++ letters)) more)
    (sym (step_after part letter letters))
    ∙ ap (λ (l : List ℕ). here ++ states_after (ends_in_consonant l) (state l) more) (append_assoc part (letter ∷ []) letters)

pub states_append :
    (part more : List ℕ) → states_of (part ++ more) ≡ states_of part ++ states_after (ends_in_consonant part) (state part) more
unfolding states_of state state_in rises inward class_of
states_append part more = ap (λ (l : List ℕ). 0 ∷ l) (after_append [] part more)

after_at :
    (part more : List ℕ) (k : ℕ)
    → k < length more
    → get_or (states_after (ends_in_consonant part) (state part) more) k 0 ≡ state (part ++ take (suc k) more)
after_at part [] k h = absurd (not-suc-le-zero h)
after_at part (letter ∷ more) zero h = rw (step_after part letter more)
after_at part (letter ∷ more) (suc k) h =
    rw (step_after part letter more)
    (after_at (part ++ letter ∷ []) more k (le_of_suc-le-suc h)
    ∙ ap state (append_assoc part (letter ∷ []) (take (suc k) more)))

-- the state of a part stands at its length
pub state_at_lem : (word : List ℕ) (i : ℕ) → i ≤ length word → get_or (states_of word) i 0 ≡ state (take i word)
unfolding states_of state state_in rises inward class_of
state_at_lem word zero h = refl
state_at_lem word (suc i) h = after_at [] word i h

-- ## What a word's states tell of the parts that begin it

module _ (word states : List ℕ) (noted : Noted word states) where
  pub noted_at : (i : ℕ) → i ≤ length word → get_or states i 0 ≡ state (take i word)
  noted_at i h =
      sym (get_or-take (suc (length word)) states i 0 (omega arith)) ∙ ap (λ (l : List ℕ). get_or l i 0) noted ∙ state_at_lem word i h

  -- a part of it is noted too
  pub noted_part : (k : ℕ) → k ≤ length word → Noted (take k word) states
  noted_part k h =
      let size = length-take-le k word h in
      let long : length (states_of (take k word)) ≡ suc k = length_states (take k word) ∙ ap suc size in
      let whole : states_of word ≡ states_of (take k word) ++ states_after (ends_in_consonant (take k word)) (state (take k word)) (drop k word)
      = ap states_of (sym (take-append-drop k word)) ∙ states_append (take k word) (drop k word) in
      rw size
      (sym (take-take (suc k) (suc (length word)) states (omega arith))
      ∙ ap (take (suc k)) (noted ∙ whole)
      ∙ take_at (states_of (take k word)) _ (suc k) long)

-- letters that are written behind a part: the states up to it stay, and the scan goes on from there
pub noted_more :
    (part more states : List ℕ) (k : ℕ)
    → Noted part states
    → k ≡ length part
    → suc k + length more ≤ length states
    → Noted (part ++ more) (paste states (suc k) (states_after (ends_in_consonant part) (state part) more) (length more))
noted_more part more states k noted is fits =
    let made : List ℕ = states_after (ends_in_consonant part) (state part) more in
    let size = length_after (ends_in_consonant part) (state part) more in
    let long : suc (length (part ++ more)) ≡ suc k + length more = omega (arith, length-append part more) in
    let front : take (suc k) states ≡ states_of part = ap (λ (n : ℕ). take (suc n) states) is ∙ noted in
    rw (long, take-paste states (suc k) made (length more) (omega arith) (omega (arith, size)))
    (ap (λ (l : List ℕ). l ++ take (length more) made) front
    ∙ ap (λ (l : List ℕ). states_of part ++ l) (take_all (length more) made (omega (arith, size)))
    ∙ sym (states_append part more))

-- the condition of a number, by the states that stand at the length of a part, and one and two places before
abbrev pub holds_noted : ℕ → List ℕ → List ℕ → Bool
holds_noted number part states =
    holds_by number part (get_or states (length part) 0) (get_or states (length part - 1) 0) (get_or states (length part - 2) 0)

pub holds_noted_lem : (number : ℕ) (part states : List ℕ) → Noted part states → holds_noted number part states ≡ holds number part
holds_noted_lem number part states noted =
    let at : (k : ℕ) → get_or states (length part - k) 0 ≡ state_at k part
    = λ k. noted_at part states noted (length part - k) (omega arith) ∙ sym (state_shorter k part) in
    let whole : get_or states (length part) 0 ≡ state part
    = noted_at part states noted (length part) (omega arith) ∙ ap state (take-length part) in
    rw (whole, at 1, at 2) (holds_by_states number part)

-- ## A letter adds one at most

pub one_most : (a b : Bool) → changed a b ≤ 1
one_most true true = omega arith
one_most true false = omega arith
one_most false true = omega arith
one_most false false = omega arith

more_most : (part more : List ℕ) → state (part ++ more) ≤ state part + length more
more_most part [] = rw append-nil (omega arith)
more_most part (letter ∷ more) =
    let rest = rw append_assoc at (more_most (part ++ letter ∷ []) more) in
    omega (arith, rest, state_more part letter, one_most (is_vowel (class_at 0 part)) (vowel_after (class_at 0 part) letter))

pub state_most : (part : List ℕ) → state part ≤ length part
unfolding state state_in rises inward class_of
state_most part = let most : state part ≤ 0 + length part = more_most [] part in omega arith
