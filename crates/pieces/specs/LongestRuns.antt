-- The words of a text are its longest runs of letters, and no other list of pieces is the text and has this property: so
-- `pieces` is the one reading of "A word is a longest run of A to Z and a to z; all other bytes separate".
use Rattle.std.specs.Prelude.{ℕ, ◌<◌, ◌≡◌, refl, Bool, true, false, not, ◌&&◌, List, [], ◌∷◌, ◌++◌, length}
use Rattle.std.proofs.Common.{ap, ◌∙◌, true≢false, arith}
use Rattle.pieces.specs.Pieces.{is_letter, leading, Piece, word, other, with_letter, pieces}
use Rattle.pieces.specs.PiecesLaws.{joined, pieces_letter, pieces_other, leading_letter, leading_other}
use Rattle.pieces.specs.PiecesLaws.{starts_outside, ends_outside, pieces_cut}
use Rattle.paper.specs.TestLaws.{and_left, and_right, or_right}

unfoldable pub all_letters : List ℕ → Bool
all_letters [] = true
all_letters (byte ∷ bytes) = is_letter byte && all_letters bytes

-- at least one byte, and nothing but letters
pub record IsWord (letters : List ℕ) : Type 0 where
  pub some : 0 < length letters
  pub all : all_letters letters ≡ true

abbrev pub starts_with_word : List Piece → Bool
starts_with_word [] = false
starts_with_word (word letters ∷ rest) = true
starts_with_word (other byte ∷ rest) = false

-- words of letters, none directly behind another, and between them bytes that are no letters
abbrev pub LongestRuns : List Piece → Type 0
LongestRuns [] = Unit {0}
LongestRuns (word letters ∷ rest) = IsWord letters × (starts_with_word rest ≡ false) × LongestRuns rest
LongestRuns (other byte ∷ rest) = (is_letter byte ≡ false) × LongestRuns rest

-- ## The letters that a text begins with are a word

all_leading : (text : List ℕ) → all_letters (leading text) ≡ true
unfolding leading all_letters
all_leading [] = refl
all_leading (byte ∷ bytes) = go (all_leading bytes) (is_letter byte) refl
  where
    go : all_letters (leading bytes) ≡ true → (test : Bool) → is_letter byte ≡ test → all_letters (leading (byte ∷ bytes)) ≡ true
    go shorter true letter = rw (leading_letter byte bytes letter, letter) shorter
    go shorter false separates = rw (leading_other byte bytes separates)

pub leading_word : (text : List ℕ) → 0 < length (leading text) → IsWord (leading text)
leading_word text some = record { some = some; all = all_leading text }

-- ## The pieces of a text are longest runs

longer : (letter : ℕ) (rest : List Piece) → is_letter letter ≡ true → LongestRuns rest → LongestRuns (with_letter letter rest)
unfolding with_letter all_letters
longer letter [] is runs = (record { some = omega arith; all = rw is }, refl, tt)
longer letter (word letters ∷ rest) is runs = (record { some = omega arith; all = rw (is) runs.0.all }, runs.1, runs.2)
longer letter (other byte ∷ rest) is runs = (record { some = omega arith; all = rw is }, refl, runs)

pub pieces-longest : (text : List ℕ) → LongestRuns (pieces text)
unfolding pieces
pieces-longest [] = tt
pieces-longest (byte ∷ bytes) = go (pieces-longest bytes) (is_letter byte) refl
  where
    go : LongestRuns (pieces bytes) → (test : Bool) → is_letter byte ≡ test → LongestRuns (pieces (byte ∷ bytes))
    go runs true letter = rw (pieces_letter byte bytes letter) (longer byte (pieces bytes) letter runs)
    go runs false separates = rw (pieces_other byte bytes separates) (separates, runs)

-- ## Whatever list of pieces is the text and has longest runs is the text's pieces

alone : (letter : ℕ) (letters : List ℕ) → all_letters (letter ∷ letters) ≡ true
    → pieces (letter ∷ letters) ≡ word (letter ∷ letters) ∷ []
unfolding all_letters pieces with_letter
alone letter [] all = rw (pieces_letter letter [] (and_left (is_letter letter) true all))
alone letter (next ∷ letters) all =
    let is : is_letter letter ≡ true = and_left (is_letter letter) (all_letters (next ∷ letters)) all in
    let rest : all_letters (next ∷ letters) ≡ true = and_right (is_letter letter) (all_letters (next ∷ letters)) all in
    rw (pieces_letter letter (next ∷ letters) is, alone next letters rest)

pub pieces_word : (letters back : List ℕ) → IsWord letters → starts_outside back ≡ true
    → pieces (letters ++ back) ≡ word letters ∷ pieces back
pieces_word [] back is outside = absurd (omega (arith, is.some))
pieces_word (letter ∷ letters) back is outside =
    let cut = or_right (ends_outside (letter ∷ letters)) (starts_outside back) outside in
    pieces_cut (letter ∷ letters) back cut ∙ ap (λ (l : List Piece). l ++ pieces back) (alone letter letters is.all)

outside_joined : (rest : List Piece) → starts_with_word rest ≡ false → LongestRuns rest → starts_outside (joined rest) ≡ true
unfolding joined
outside_joined [] none runs = refl
outside_joined (word letters ∷ rest) none runs = absurd (true≢false none)
outside_joined (other byte ∷ rest) none runs = ap not runs.0

pub only-pieces : (list : List Piece) → LongestRuns list → pieces (joined list) ≡ list
unfolding joined pieces
only-pieces [] runs = refl
only-pieces (word letters ∷ rest) runs =
    pieces_word letters (joined rest) runs.0 (outside_joined rest runs.1 runs.2)
    ∙ ap (λ (l : List Piece). word letters ∷ l) (only-pieces rest runs.2)
only-pieces (other byte ∷ rest) runs =
    pieces_other byte (joined rest) runs.0 ∙ ap (λ (l : List Piece). other byte ∷ l) (only-pieces rest runs.1)
