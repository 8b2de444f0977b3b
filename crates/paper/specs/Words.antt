-- The stem of a word, and what a call on a word answers: document 01, "Numbers returned", with W-201 and W-204 of document 02.
use Rattle.std.specs.Prelude.{ℕ, ◌-◌, ◌≡◌, Bool, true, false, cond, ◌&&◌, ◌||◌, List, [], ◌∷◌, ◌++◌, map, eqb, leb, ltb, length, replicate}
use Rattle.paper.specs.Groups.{Group, read_turn, Reading, done, outgrown, through}
use Rattle.paper.specs.Shipped.{shipped}

-- a word read by groups, in its own place
unfoldable pub read_word : List Group → List ℕ → Reading
read_word groups word = through (length word) (map read_turn groups) false word

-- the stem of a word by groups. W-201: "leaves words of one or two letters as they are"; a longer word is read
unfoldable pub stem : List Group → List ℕ → Reading
stem groups word = cond (leb (length word) 2) (done word) (read_word groups word)

abbrev pub spaces : ℕ → List ℕ
spaces n = replicate n 32

-- "the stem stands first and spaces fill the rest"
unfoldable pub placed : List ℕ → List ℕ → List ℕ
placed word stem = stem ++ spaces (length word - length stem)

-- "The word has 0 or more than 64 bytes"
unfoldable pub wrong_length : List ℕ → Bool
wrong_length word = eqb (length word) 0 || ltb 64 (length word)

-- a byte from a to z
abbrev pub small : ℕ → Bool
small byte = leb 97 byte && leb byte 122

-- every byte is from a to z
unfoldable pub all_small : List ℕ → Bool
all_small [] = true
all_small (byte ∷ bytes) = small byte && all_small bytes

-- how many bytes stand before the first that is outside a to z
unfoldable pub first_other : List ℕ → ℕ
first_other [] = 0
first_other (byte ∷ bytes) = cond (small byte) (ℕ.suc (first_other bytes)) 0

-- what a call gives: the number, what is returned besides it, and what the lent bytes are afterwards
pub record Outcome : Type 0 where
  pub number : ℕ
  pub value : ℕ
  pub place : List ℕ

-- a call gives this number and this value, and leaves these bytes in what was lent
pub record Gives (outcome : Outcome) (number value : ℕ) (after : List ℕ) : Type 0 where
  pub number_is : number ≡ outcome.number
  pub value_is : value ≡ outcome.value
  pub place_is : after ≡ outcome.place

-- "Every refusal leaves all that was lent unchanged."
abbrev pub refused : ℕ → ℕ → List ℕ → Outcome
refused number value word = record { number = number; value = value; place = word }

-- what is said of a word before it is read: it is taken, or refused with a number and a value
pub data Judgement : Type 0 where
  taken : Judgement
  turned_down : ℕ → ℕ → Judgement

-- "1, 2 .. for a word"; W-204: "number 2 returns the place instead of 0"
unfoldable pub judged : List ℕ → Judgement
judged word = cond (wrong_length word) (turned_down 1 0) (cond (all_small word) taken (turned_down 2 (first_other word)))

-- the same by the word's length and the place of its first byte outside a to z
unfoldable pub judged_by : ℕ → ℕ → Judgement
judged_by size other = cond (eqb size 0 || ltb 64 size) (turned_down 1 0) (cond (ltb other size) (turned_down 2 other) taken)

unfoldable pub reading_outcome : List ℕ → Reading → Outcome
reading_outcome word (done stem) = record { number = 0; value = length stem; place = placed word stem }
reading_outcome word outgrown = refused 4 0 word

unfoldable pub judged_outcome : List ℕ → Reading → Judgement → Outcome
judged_outcome word reading taken = reading_outcome word reading
judged_outcome word reading (turned_down number value) = refused number value word

-- a call on a word, whatever reads it: "1, 2, 4 for a word"
unfoldable pub word_outcome : (List ℕ → Reading) → List ℕ → Outcome
word_outcome reading word = judged_outcome word (reading word) (judged word)

-- a call of the word stemmer
abbrev pub outcome : List ℕ → Outcome
outcome word = word_outcome (stem shipped) word
