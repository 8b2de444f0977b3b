-- The class table holds the class of every letter, and no byte outside a to z is a vowel.
use Prim.Native.Nat.{ℕ, zero, suc, ◌+◌, ◌-◌, ◌%◌, ◌≤◌, ◌<◌}
use native.Mathlib.Nat.{le_of_suc-le-suc, not-suc-le-zero}
use native.Mathlib.Omega.{arith}
use Prim.Native.Char.{code}
use mathlib.Core.Path.{◌≡◌, refl, sym, ap, ◌∙◌}
use mathlib.Core.Bool.{Bool, true, false, ◌&&◌, ◌||◌}
use mathlib.Core.List.{List, [], ◌∷◌, map}
use lib.Dec.{eqb}
use lib.ListN.{get_or, get_or-map}
use borrow.Author.Tests.{ne_eqb}
use Rattle.paper.specs.Letters.{letters, among, Class, none, consonant, is_consonant, vowel_after}
use Rattle.paper.specs.Noted.{class_before}
use Rattle.letters.specs.Scan.{class_table}

-- none of a, e, i, o, u, y
no_vowel :
    (preceding : Class) (l : ℕ)
    → (l ≡ 97 → ⊥)
    → (l ≡ 101 → ⊥)
    → (l ≡ 105 → ⊥)
    → (l ≡ 111 → ⊥)
    → (l ≡ 117 → ⊥)
    → (l ≡ 121 → ⊥)
    → vowel_after preceding l ≡ false
unfolding vowel_after among letters
no_vowel preceding l a e i o u y =
    simp (ne_eqb l 97 a, ne_eqb l 101 e, ne_eqb l 105 i, ne_eqb l 111 o, ne_eqb l 117 u, ne_eqb l 121 y)

pub below_a : (preceding : Class) (l : ℕ) → l < 97 → vowel_after preceding l ≡ false
below_a preceding l h =
    no_vowel preceding l (λ e. omega arith) (λ e. omega arith) (λ e. omega arith) (λ e. omega arith) (λ e. omega arith)
    (λ e. omega arith)

pub above_z : (preceding : Class) (l : ℕ) → 122 < l → vowel_after preceding l ≡ false
above_z preceding l h =
    no_vowel preceding l (λ e. omega arith) (λ e. omega arith) (λ e. omega arith) (λ e. omega arith) (λ e. omega arith)
    (λ e. omega arith)

abbrev pub odd : ℕ → Bool
odd n = eqb (n % 2) 1

-- n numbers from a on
counted : ℕ → ℕ → List ℕ
counted a zero = []
counted a (suc n) = a ∷ counted (suc a) n

counted_at : (a n k : ℕ) → k < n → get_or (counted a n) k 0 ≡ a + k
unfolding counted
counted_at a zero k h = absurd (not-suc-le-zero h)
counted_at a (suc n) zero h = omega arith
counted_at a (suc n) (suc k) h = let e = counted_at (suc a) n k (le_of_suc-le-suc h) in omega arith

abbrev alphabet : List ℕ
alphabet = counted 97 26

-- a row whose odd numbers stand at the vowels of the alphabet
row_at :
    (preceding : Class) (row : List ℕ) (l : ℕ)
    → map odd row ≡ map (vowel_after preceding) alphabet
    → 97 ≤ l
    → l ≤ 122
    → odd (get_or row (l - 97) 0) ≡ vowel_after preceding l
unfolding vowel_after among letters
row_at preceding row l same low high =
    let e : get_or alphabet (l - 97) 0 ≡ 97 + (l - 97) = counted_at 97 26 (l - 97) (omega arith) in
    let f : get_or alphabet (l - 97) 0 ≡ l = omega arith in
    sym (get_or-map odd row (l - 97) 0)
    ∙ ap (λ (tests : List Bool). get_or tests (l - 97) false) same
    ∙ get_or-map (vowel_after preceding) alphabet (l - 97) 0
    ∙ ap (vowel_after preceding) f

-- of the second row only the y counts, and only behind a consonant
both_rows : (some y b : Bool)
    → (some || (y && false)) || ((some || (y && true)) && b) ≡ some || (y && is_consonant (class_before b))
both_rows true y b = refl
both_rows false true true = refl
both_rows false true false = refl
both_rows false false b = refl

-- what a row holds is one computed equation
pub in_table :
    (b : Bool) (l : ℕ)
    → 97 ≤ l
    → l ≤ 122
    → odd (get_or (get_or class_table 0 []) (l - 97) 0) || (odd (get_or (get_or class_table 1 []) (l - 97) 0) && b) ≡ vowel_after (class_before b) l
unfolding class_table vowel_after among letters counted
in_table b l low high =
    rw (row_at none (get_or class_table 0 []) l refl low high, row_at consonant (get_or class_table 1 []) l refl low high)
    (both_rows (among l (letters "aeiou")) (eqb l (code "y")) b)
