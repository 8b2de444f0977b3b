-- One letter more in a forward scan.
use Prim.Native.Nat.{ℕ, ◌+◌, ◌%◌, ◌<◌, ◌≤◌}
use native.Mathlib.Numerals.{add-one}
use native.Mathlib.Omega.{arith}
use mathlib.Core.Path.{◌≡◌, ap, sym, subst, ◌∙◌}
use mathlib.Core.Bool.{Bool, true, false, cond, beq}
use borrow.Author.Tests.{eq-eqb, ne_eqb, eqb-true, eqb-false}
use lib.Dec.{eqb}
use lib.ListN.{length, take, drop, get_or, take-append-drop}
use lib.Seq.{take-suc, take_all}
use mathlib.Core.List.{List, [], ◌∷◌, ◌++◌}
use Rattle.paper.specs.Letters.{vowel_after}
use Rattle.paper.specs.States.{state as state_of, even, changed, state_at, state_at_earlier, state_grows}
use Rattle.paper.specs.Noted.{class_before, next_state, next_is, ends_after, one_most}
use Rattle.letters.proofs.Classes.{odd}
use Rattle.letters.specs.Scan.{Scanned}
use Rattle.letters.specs.declared.Passed.{Passed}

-- a letter adds one at most
pub next_most : (after : Bool) (before letter : ℕ) → next_state after before letter ≤ before + 1
unfolding next_state
next_most after before letter = omega (arith, one_most (eqb (before % 2) 1) (vowel_after (class_before after) letter))

-- the state after a letter, by its class and that of the letter before: one more where they are not the same
by_classes : (vowel now : Bool) (state : ℕ) → cond (beq now vowel) state (state + 1) ≡ changed vowel now + state
by_classes true true state = omega arith
by_classes true false state = omega arith
by_classes false true state = omega arith
by_classes false false state = omega arith

-- it is odd where the letter is a vowel, if that was so before
by_parity : (vowel now : Bool) (state : ℕ) → vowel ≡ odd state → now ≡ odd (changed vowel now + state)
by_parity true true state e = sym (eq-eqb ((0 + state) % 2) 1 (omega (arith, eqb-true (state % 2) 1 (sym e))))
by_parity true false state e = sym (ne_eqb ((1 + state) % 2) 1 (λ f. omega (arith, eqb-true (state % 2) 1 (sym e))))
by_parity false true state e = sym (eq-eqb ((1 + state) % 2) 1 (omega (arith, eqb-false (state % 2) 1 (sym e))))
by_parity false false state e = sym (ne_eqb ((0 + state) % 2) 1 (λ f. omega (arith, eqb-false (state % 2) 1 (sym e))))

module _ (after vowel now : Bool) (before letter : ℕ) (kept : vowel ≡ odd before) (is : now ≡ vowel_after (class_before after) letter) where
  pub next_by_class : cond (beq now vowel) before (before + 1) ≡ next_state after before letter
  unfolding next_state
  next_by_class = rw (← kept, ← is) (by_classes vowel now before)

  pub next_odd : (next : ℕ) → next ≡ next_state after before letter → now ≡ odd next
  unfolding next_state
  next_odd next e = rw (e, ← kept, ← is) (by_parity vowel now before kept)

module _ (part : List ℕ) (s : Passed) (h : Scanned part s) (l : ℕ) where
  state_before : state_at 1 (part ++ l ∷ []) ≡ state_of part
  unfolding state_of
  state_before = state_at_earlier 0 part l

  pub one_more : (n : ℕ) → n ≡ next_state s.consonant s.state l
      → Scanned (part ++ l ∷ []) (record { state = n; before = s.state; earlier = s.before; consonant = even n })
  one_more n is =
      let after : n ≡ state_of (part ++ l ∷ []) = is ∙ rw (h.consonant, h.state) (next_is part l) in
      record {
        state = after;
        before = h.state ∙ sym state_before;
        earlier = h.before ∙ sym (state_at_earlier 1 part l);
        consonant = ap even after ∙ ends_after part l;
      }

-- ## The loop of a scan

-- at the loop's head: so many letters were passed
abbrev pub Passing : List ℕ → Passed → ℕ → Type 0
Passing part s i = (i ≤ length part) × (s.state ≤ i) × Scanned (take i part) s

-- what one step gives
pub step_gives :
    (part : List ℕ) (s after : Passed) (i : ℕ)
    → i < length part
    → Passing part s i
    → after.state ≤ s.state + 1
    → ((passed : List ℕ) → Scanned passed s → Scanned (passed ++ get_or part i 0 ∷ []) after)
    → Passing part after (i + 1)
step_gives part s after i inside passing more scanned =
    let next : take (i + 1) part ≡ take i part ++ get_or part i 0 ∷ [] = rw add-one (take-suc part i 0 inside) in
    (omega arith, omega arith, rw next (scanned (take i part) passing.2))

-- the whole part was passed
pub all_passed : (part : List ℕ) (s : Passed) (i : ℕ) → length part ≤ i → Passing part s i → Scanned part s
all_passed part s i end passing =
    subst (λ (passed : List ℕ). Scanned passed s) (take_all i part end) passing.2

-- what is known of the letters passed is known of the whole part
pub state_passed : (part : List ℕ) (s : Passed) (i : ℕ) → Passing part s i → s.state ≤ state_of part
state_passed part s i passing =
    let grows = rw take-append-drop at (state_grows (take i part) (drop i part)) in
    omega (arith, passing.2.state, grows)
