-- Demand 2 for texts: "a text of at most 65,536 bytes holds the same at each word; both counts are 01's." It holds of any word rule
-- that answers every word with a stem no longer than the word; ours is `stem shipped`.
use Rattle.std.specs.Prelude.{ℕ, suc, ◌-◌, ◌≤◌, ◌<◌, ◌≡◌, true, false, cond, ltb, length, take, drop, get_or}
use Rattle.std.proofs.Common.{arith, le-ltb}
use mathlib.Core.List.{List, [], ◌∷◌, ◌++◌, map, append-nil}
use Rattle.std.proofs.Math.ListN.{length-map}
use Rattle.paper.specs.Groups.{Group, Reading, done}
use Rattle.paper.specs.Words.{placed, stem}
use Rattle.paper.specs.WordsLaws.{stem_short}
use Rattle.pieces.specs.Pieces.{is_letter, lowered, Piece, word, other, pieces}
use Rattle.pieces.specs.PiecesLaws.{starts_outside, ends_outside}
use Rattle.pieces.specs.LongestRuns.{IsWord}
use Rattle.texts.specs.Texts.{stemmed_to, answered, of_word, Outcome}

-- the words of 1 to 64 letters, and those over 64
unfoldable pub short_words : List Piece → ℕ
short_words [] = 0
short_words (word letters ∷ rest) = cond (ltb 64 (length letters)) (short_words rest) (suc (short_words rest))
short_words (other byte ∷ rest) = short_words rest

unfoldable pub long_words : List Piece → ℕ
long_words [] = 0
long_words (word letters ∷ rest) = cond (ltb 64 (length letters)) (suc (long_words rest)) (long_words rest)
long_words (other byte ∷ rest) = long_words rest

-- a text cut at a word: in front of it no letter stands last, behind it none stands first, so the word is a longest run
pub record CutAt (text front letters back : List ℕ) : Type 0 where
  pub joined : text ≡ front ++ (letters ++ back)
  pub before : ends_outside front ≡ true
  pub is_word : IsWord letters
  pub behind : starts_outside back ≡ true

-- the bytes of the text afterwards that stand where the word stood
abbrev pub place_of : List ℕ → List ℕ → List ℕ → List ℕ
place_of front letters after = take (length letters) (drop (length front) after)

-- what a call on such a text gives
pub record Rewritten (rule : List ℕ → Reading) (text : List ℕ) (o : Outcome) : Type 0 where
  pub number : o.number ≡ 0
  pub length-stays : length o.text ≡ length text
  pub word_stemmed : (front letters back : List ℕ) → CutAt text front letters back → length letters ≤ 64
      → (stem-of : List ℕ) × (rule (map lowered letters) ≡ done stem-of) × (length stem-of ≤ length letters)
      × (place_of front letters o.text ≡ placed letters stem-of)
  pub word_left : (front letters back : List ℕ) → CutAt text front letters back → 64 < length letters
      → place_of front letters o.text ≡ letters
  pub others_stay : (at : ℕ) → at < length text → is_letter (get_or text at 0) ≡ false → get_or o.text at 0 ≡ get_or text at 0
  pub stemmed : o.stemmed ≡ short_words (pieces text)
  pub left : o.left ≡ long_words (pieces text)

-- ## Words of one or two letters

-- such a word is made small, stays as it then is, and counts as stemmed, whatever the rules
pub short_made_small : (groups : List Group) (letters : List ℕ) → length letters ≤ 2
    → of_word (stem groups) letters ≡ stemmed_to (map lowered letters)
unfolding of_word answered placed
short_made_small groups letters few =
    let small = map lowered letters in
    let size = length-map letters lowered in
    let none : length letters - length small ≡ 0 = omega (arith, size) in
    rw (le-ltb 64 (length letters) (omega arith), stem_short groups small (omega (arith, size)), none, append-nil small)
