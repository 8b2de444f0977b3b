-- Document 01, "The text run": which bytes of a text are words.
use Rattle.std.specs.Prelude.{ℕ, ◌+◌, Bool, cond, ◌&&◌, ◌||◌, List, [], ◌∷◌, leb}
use Rattle.paper.specs.Words.{small}

-- a byte from A to Z
abbrev pub capital : ℕ → Bool
capital byte = leb 65 byte && leb byte 90

-- a byte that words are made of: "A to Z and a to z"
unfoldable pub is_letter : ℕ → Bool
is_letter byte = small byte || capital byte

-- a letter made small: a lies 32 after A, and so on to z
unfoldable pub lowered : ℕ → ℕ
lowered byte = cond (capital byte) (byte + 32) byte

-- the letters that a text begins with
unfoldable pub leading : List ℕ → List ℕ
leading [] = []
leading (byte ∷ bytes) = cond (is_letter byte) (byte ∷ leading bytes) []

-- what a text falls into: words, and the bytes that separate, one by one
pub data Piece : Type 0 where
  word : List ℕ → Piece
  other : ℕ → Piece

-- a letter in front of these pieces: with the word that they begin with it makes one word, "a longest run"
unfoldable pub with_letter : ℕ → List Piece → List Piece
with_letter letter [] = word (letter ∷ []) ∷ []
with_letter letter (word letters ∷ pieces) = word (letter ∷ letters) ∷ pieces
with_letter letter (other byte ∷ pieces) = word (letter ∷ []) ∷ other byte ∷ pieces

-- "A word is a longest run of A to Z and a to z; all other bytes separate, those of UTF-8 and the apostrophe included."
unfoldable pub pieces : List ℕ → List Piece
pieces [] = []
pieces (byte ∷ bytes) = cond (is_letter byte) (with_letter byte (pieces bytes)) (other byte ∷ pieces bytes)
