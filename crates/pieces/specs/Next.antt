-- Document 01, "The text run": the next word from a place.
use Rattle.std.specs.Prelude.{ℕ, suc, ◌+◌, min, List, [], ◌∷◌, ◌≡◌, length, drop}
use Rattle.std.specs.Borrow.{Bor}
use Rattle.pieces.specs.Pieces.{leading, Piece, word, other, pieces}

-- the first word of these pieces; "the part is empty if no word follows"
unfoldable pub first_word : List Piece → List ℕ
first_word [] = []
first_word (word letters ∷ pieces) = letters
first_word (other byte ∷ pieces) = first_word pieces

-- how many bytes stand before the first word; all of them if there is none
unfoldable pub gap : List Piece → ℕ
gap [] = 0
gap (word letters ∷ pieces) = 0
gap (other byte ∷ pieces) = suc (gap pieces)

-- "The next word is handed back as a part of the caller's own text, searched from a given place as if the text began there"
unfoldable pub next_word : List ℕ → ℕ → List ℕ
next_word text from = first_word (pieces (drop from text))

-- where in the text it stands; the text's length if no word follows
unfoldable pub next_word_at : List ℕ → ℕ → ℕ
next_word_at text from = min from (length text) + gap (pieces (drop from text))

-- where the letters end that stand from a place on
abbrev pub word_end : List ℕ → ℕ → ℕ
word_end text from = from + length (leading (drop from text))

-- the part that is handed back: its bytes are the next word, and they are the text's own, at that word's offset
pub record NextWord (text : Bor (List ℕ)) (from : ℕ) (part : Bor (List ℕ)) : Type 0 where
  pub letters : part.now ≡ next_word text.now from
  pub place : part.ref_ptr ≡ (text.ref_ptr.0, next_word_at text.now from + text.ref_ptr.1)
