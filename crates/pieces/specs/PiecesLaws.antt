-- What holds of the pieces of a text: they are the whole text in its order, their words are the longest runs of letters,
-- and a text that is cut at a byte outside words falls into the pieces of the two parts.
use Rattle.std.specs.Prelude.{ℕ, ◌≤◌, ◌<◌, ◌≡◌, refl, Bool, true, false, cond, not, ◌||◌, List, [], ◌∷◌, ◌++◌, length, take, drop}
use Rattle.std.proofs.Common.{sym, ap, ◌∙◌, arith, length-append}
use Rattle.std.proofs.lemmas.Bool.{not-true}
use Rattle.std.proofs.Math.Seq.{take-append_seam}
use Rattle.pieces.specs.Pieces.{is_letter, leading, Piece, word, other, with_letter, pieces}

-- the bytes of a piece, and of pieces one after the other
abbrev pub bytes_of : Piece → List ℕ
bytes_of (word letters) = letters
bytes_of (other byte) = byte ∷ []

unfoldable pub joined : List Piece → List ℕ
joined [] = []
joined (piece ∷ pieces) = bytes_of piece ++ joined pieces

-- ## The pieces are the text

joined_with_letter : (letter : ℕ) (rest : List Piece) → joined (with_letter letter rest) ≡ letter ∷ joined rest
unfolding joined with_letter
joined_with_letter letter [] = refl
joined_with_letter letter (word letters ∷ rest) = refl
joined_with_letter letter (other byte ∷ rest) = refl

joined_step : (test : Bool) (byte : ℕ) (rest : List Piece)
    → joined (cond test (with_letter byte rest) (other byte ∷ rest)) ≡ byte ∷ joined rest
unfolding joined
joined_step true byte rest = joined_with_letter byte rest
joined_step false byte rest = refl

pub joined_pieces : (text : List ℕ) → joined (pieces text) ≡ text
unfolding joined pieces
joined_pieces [] = refl
joined_pieces (byte ∷ bytes) =
    joined_step (is_letter byte) byte (pieces bytes) ∙ ap (λ (l : List ℕ). byte ∷ l) (joined_pieces bytes)

-- ## A text that begins with a letter begins with the word of its leading letters

pub pieces_letter : (byte : ℕ) (bytes : List ℕ) → is_letter byte ≡ true
    → pieces (byte ∷ bytes) ≡ with_letter byte (pieces bytes)
unfolding pieces
pieces_letter byte bytes letter = rw letter

pub pieces_other : (byte : ℕ) (bytes : List ℕ) → is_letter byte ≡ false → pieces (byte ∷ bytes) ≡ other byte ∷ pieces bytes
unfolding pieces
pieces_other byte bytes separates = rw separates

pub leading_letter : (byte : ℕ) (bytes : List ℕ) → is_letter byte ≡ true → leading (byte ∷ bytes) ≡ byte ∷ leading bytes
unfolding leading
leading_letter byte bytes letter = rw letter

pub leading_other : (byte : ℕ) (bytes : List ℕ) → is_letter byte ≡ false → leading (byte ∷ bytes) ≡ []
unfolding leading
leading_other byte bytes separates = rw separates

pub begins_with_word : (letter : ℕ) (text : List ℕ)
    → with_letter letter (pieces text) ≡ word (letter ∷ leading text) ∷ pieces (drop (length (leading text)) text)
unfolding pieces leading with_letter
begins_with_word letter [] = refl
begins_with_word letter (byte ∷ bytes) = go (begins_with_word byte bytes) (is_letter byte) refl
  where
    go : with_letter byte (pieces bytes) ≡ word (byte ∷ leading bytes) ∷ pieces (drop (length (leading bytes)) bytes)
        → (test : Bool) → is_letter byte ≡ test
        → with_letter letter (pieces (byte ∷ bytes))
        ≡ word (letter ∷ leading (byte ∷ bytes)) ∷ pieces (drop (length (leading (byte ∷ bytes))) (byte ∷ bytes))
    go shorter true letter = rw (pieces_letter byte bytes letter, leading_letter byte bytes letter, shorter)
    go shorter false separates = rw (leading_other byte bytes separates, pieces_other byte bytes separates)

pub leading_first : (text : List ℕ) → text ≡ leading text ++ drop (length (leading text)) text
unfolding leading
leading_first [] = refl
leading_first (byte ∷ bytes) = go (leading_first bytes) (is_letter byte) refl
  where
    go : bytes ≡ leading bytes ++ drop (length (leading bytes)) bytes
        → (test : Bool) → is_letter byte ≡ test
        → byte ∷ bytes ≡ leading (byte ∷ bytes) ++ drop (length (leading (byte ∷ bytes))) (byte ∷ bytes)
    go shorter true letter = rw (leading_letter byte bytes letter) (ap (λ (l : List ℕ). byte ∷ l) shorter)
    go shorter false separates = rw (leading_other byte bytes separates)

pub leading_stands : (text : List ℕ) → leading text ≡ take (length (leading text)) text
leading_stands text =
    sym (take-append_seam (leading text) _) ∙ ap (take (length (leading text))) (sym (leading_first text))

pub leading_within : (text : List ℕ) → length (leading text) ≤ length text
leading_within text = omega (arith, simp length-append at (ap length (leading_first text)))

-- ## A text may be cut at any place that is not inside a word: its pieces are those of the two parts

-- the text is empty, or its first byte separates; the same of its last byte
abbrev pub starts_outside : List ℕ → Bool
starts_outside [] = true
starts_outside (byte ∷ bytes) = not (is_letter byte)

abbrev pub ends_outside : List ℕ → Bool
ends_outside [] = true
ends_outside (byte ∷ []) = not (is_letter byte)
ends_outside (byte ∷ next ∷ bytes) = ends_outside (next ∷ bytes)

with_letter-append : (letter : ℕ) (front back : List Piece) → 0 < length front
    → with_letter letter (front ++ back) ≡ with_letter letter front ++ back
unfolding with_letter
with_letter-append letter [] back none = absurd (omega arith)
with_letter-append letter (word letters ∷ front) back some = refl
with_letter-append letter (other byte ∷ front) back some = refl

some_piece : (byte : ℕ) (bytes : List ℕ) → 0 < length (pieces (byte ∷ bytes))
unfolding pieces with_letter
some_piece byte bytes = go (is_letter byte) (pieces bytes)
  where
    some : (rest : List Piece) → 0 < length (with_letter byte rest)
    some [] = omega arith
    some (word letters ∷ rest) = omega arith
    some (other one ∷ rest) = omega arith

    go : (test : Bool) (rest : List Piece) → 0 < length (cond test (with_letter byte rest) (other byte ∷ rest))
    go true rest = some rest
    go false rest = omega arith

word_before : (letter : ℕ) (text : List ℕ) → starts_outside text ≡ true
    → with_letter letter (pieces text) ≡ word (letter ∷ []) ∷ pieces text
unfolding pieces with_letter
word_before letter [] outside = refl
word_before letter (byte ∷ bytes) outside = rw (pieces_other byte bytes (not-true _ outside))

pub pieces_cut : (front back : List ℕ) → (ends_outside front || starts_outside back) ≡ true
    → pieces (front ++ back) ≡ pieces front ++ pieces back
unfolding pieces with_letter
pieces_cut [] back cut = refl
pieces_cut (byte ∷ []) back cut = go (is_letter byte) refl
  where
    go : (test : Bool) → is_letter byte ≡ test → pieces (byte ∷ back) ≡ pieces (byte ∷ []) ++ pieces back
    go true letter =
        let outside : starts_outside back ≡ true = rw letter at cut in
        rw (pieces_letter byte back letter, pieces_letter byte [] letter, word_before byte back outside)
    go false separates = rw (pieces_other byte back separates, pieces_other byte [] separates)
pieces_cut (byte ∷ next ∷ front) back cut = go (pieces_cut (next ∷ front) back cut) (is_letter byte) refl
  where
    go : pieces (next ∷ front ++ back) ≡ pieces (next ∷ front) ++ pieces back
        → (test : Bool) → is_letter byte ≡ test
        → pieces (byte ∷ next ∷ front ++ back) ≡ pieces (byte ∷ next ∷ front) ++ pieces back
    go shorter true letter =
        rw (pieces_letter byte _ letter, pieces_letter byte (next ∷ front) letter, shorter)
        (with_letter-append byte (pieces (next ∷ front)) (pieces back) (some_piece next front))
    go shorter false separates =
        rw (pieces_other byte _ separates, pieces_other byte (next ∷ front) separates, shorter)
