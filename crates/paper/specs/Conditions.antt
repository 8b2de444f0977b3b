-- Document 01, "Letters, measure, conditions": the nine conditions with their numbers.
use Rattle.std.specs.Prelude.{ℕ, Bool, true, false, not, ◌&&◌, ◌||◌, List, [], ◌∷◌, eqb, ltb, get_or}
use Prim.Native.Char.{Char, code}
use Rattle.paper.specs.Letters.{letters, among, is_consonant, is_vowel, class_of, inward, letter_at, class_at, measure}

-- some of these letters, which stand from the last inward, is a vowel
unfoldable pub some_vowel : List ℕ → Bool
some_vowel [] = false
some_vowel (letter ∷ preceding) = is_vowel (class_of (letter ∷ preceding)) || some_vowel preceding

-- "some letter is a vowel"
unfoldable pub *v* : List ℕ → Bool
*v* part = some_vowel (inward part)

-- "the last two letters are equal and both consonants"
unfoldable pub *d : List ℕ → Bool
*d part = eqb (letter_at 0 part) (letter_at 1 part) && (is_consonant (class_at 0 part) && is_consonant (class_at 1 part))

-- "the last three are consonant, vowel, consonant, and the last is not w, x or y"
unfoldable pub *o : List ℕ → Bool
*o part =
    (is_consonant (class_at 2 part) && (is_vowel (class_at 1 part) && is_consonant (class_at 0 part)))
    && not (among (letter_at 0 part) (letters "wxy"))

-- "`*S`: the last letter is s; `*L`, `*T` and `*Z` likewise."
unfoldable pub last_is : Char → List ℕ → Bool
last_is letter part = eqb (letter_at 0 part) (code letter)

-- "Conditions by number": 0 to 8 in this order. A number above 8 is no condition, and does not hold.
unfoldable pub conditions : List ℕ → List Bool
conditions part =
    let m = measure part in
    true
    ∷ ltb 0 m
    ∷ ltb 1 m
    ∷ *v* part
    ∷ (ltb 1 m && (last_is "s" part || last_is "t" part))
    ∷ (*d part && not (last_is "l" part || (last_is "s" part || last_is "z" part)))
    ∷ (eqb m 1 && *o part)
    ∷ (eqb m 1 && not (*o part))
    ∷ (ltb 1 m && (*d part && last_is "l" part))
    ∷ []

-- the highest of these numbers
abbrev pub highest : ℕ
highest = 8

-- the conditions with which a rule may leave a single letter: "action 1 without condition 5 or 8" is faulty
abbrev pub for_single : ℕ → Bool
for_single number = eqb number 5 || eqb number 8

-- the condition of this number holds of the part before the ending
unfoldable pub holds : ℕ → List ℕ → Bool
holds number part = get_or (conditions part) number false
