-- Document 01, "Letters, measure, conditions": the class of a letter, and the measure. A part of a word is a list of
-- bytes.
use Rattle.std.specs.Prelude.{ℕ, ◌+◌, Bool, true, false, cond, ◌&&◌, ◌||◌, List, [], ◌∷◌, reverse, eqb, drop, get_or}
use Prim.Native.Char.{code}
use Prim.Native.String.{String}

-- a quoted text as the list of its letters
unfoldable pub letters : String → List ℕ
letters String.[] = []
letters (String.◌∷◌ c rest) = code c ∷ letters rest

-- the letter is one of these
unfoldable pub among : ℕ → List ℕ → Bool
among letter [] = false
among letter (one ∷ more) = eqb letter one || among letter more

-- the class of a letter; `none` stands where there is no letter
pub data Class : Type 0 where
  none consonant vowel : Class

abbrev pub is_consonant : Class → Bool
is_consonant none = false
is_consonant consonant = true
is_consonant vowel = false

abbrev pub is_vowel : Class → Bool
is_vowel none = false
is_vowel consonant = false
is_vowel vowel = true

-- "A letter is a vowel if it is a, e, i, o, u, or a y whose preceding letter is a consonant."
unfoldable pub vowel_after : Class → ℕ → Bool
vowel_after preceding letter = among letter (letters "aeiou") || (eqb letter (code "y") && is_consonant preceding)

-- "Every other letter is a consonant, so a y at the start is one."
unfoldable pub class_after : Class → ℕ → Class
class_after preceding letter = cond (vowel_after preceding letter) vowel consonant

-- the letters from the last inward
unfoldable pub inward : List ℕ → List ℕ
inward part = reverse part

-- the class of the first of these letters, which stand from the last inward
unfoldable pub class_of : List ℕ → Class
class_of [] = none
class_of (letter ∷ preceding) = class_after (class_of preceding) letter

-- the letter at k places before the last, and its class
unfoldable pub letter_at : ℕ → List ℕ → ℕ
letter_at k part = get_or (inward part) k 0

unfoldable pub class_at : ℕ → List ℕ → Class
class_at k part = class_of (drop k (inward part))

-- 1 where a consonant directly follows a vowel
abbrev pub rise : Class → Class → ℕ
rise none next = 0
rise consonant next = 0
rise vowel none = 0
rise vowel consonant = 1
rise vowel vowel = 0

-- the rises among letters that stand from the last inward
unfoldable pub rises : List ℕ → ℕ
rises [] = 0
rises (letter ∷ preceding) = rise (class_of preceding) (class_of (letter ∷ preceding)) + rises preceding

-- "The measure m of a word part is the number of places where a consonant directly follows a vowel."
unfoldable pub measure : List ℕ → ℕ
measure part = rises (inward part)
