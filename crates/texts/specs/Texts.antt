-- Document 01, "The text run": what becomes of a text, by any word rule.
use Rattle.std.specs.Prelude.{ℕ, ◌+◌, cond, List, [], ◌∷◌, ◌++◌, map, ltb, length}
use Rattle.paper.specs.Groups.{Reading, done, outgrown}
use Rattle.paper.specs.Words.{placed}
use Rattle.pieces.specs.Pieces.{lowered, Piece, word, other, pieces}

-- what becomes of a part of a text: its bytes afterwards, and the two counts, "words stemmed, words left"
pub record Ran : Type 0 where
  pub text : List ℕ
  pub stemmed : ℕ
  pub left : ℕ

-- of a word in whose place these bytes stand, the stem first
abbrev pub stemmed_to : List ℕ → Ran
stemmed_to place = record { text = place; stemmed = 1; left = 0 }

-- of a word that "stays with its capitals"
abbrev pub stays : List ℕ → Ran
stays letters = record { text = letters; stemmed = 0; left = 1 }

-- of a word by what a word rule answers: the stem in the word's place, or, if it is "answered 4", the word
unfoldable pub answered : List ℕ → Reading → Ran
answered letters (done stem) = stemmed_to (placed letters stem)
answered letters outgrown = stays letters

-- "Words of 1 to 64 letters are made small and stemmed. A word over 64 letters, or one answered 4, stays with its capitals."
unfoldable pub of_word : (List ℕ → Reading) → List ℕ → Ran
of_word rule letters = cond (ltb 64 (length letters)) (stays letters) (answered letters (rule (map lowered letters)))

unfoldable pub of_piece : (List ℕ → Reading) → Piece → Ran
of_piece rule (word letters) = of_word rule letters
of_piece rule (other byte) = record { text = byte ∷ []; stemmed = 0; left = 0 }

-- "An empty text gives 0 and 0."
abbrev pub nothing : Ran
nothing = record { text = []; stemmed = 0; left = 0 }

-- a part of a text and the part behind it: the bytes follow each other, the counts are added
infixr 40 ◌then◌
abbrev pub ◌then◌ : Ran → Ran → Ran
one then more =
    record { text = one.text ++ more.text; stemmed = one.stemmed + more.stemmed; left = one.left + more.left }

unfoldable pub of_pieces : (List ℕ → Reading) → List Piece → Ran
of_pieces rule [] = nothing
of_pieces rule (piece ∷ rest) = of_piece rule piece then of_pieces rule rest

-- a text after each of its words was rewritten where it stands
unfoldable pub run_text : (List ℕ → Reading) → List ℕ → Ran
run_text rule text = of_pieces rule (pieces text)

-- what a call gives: the number, the two counts, and what the lent bytes are afterwards
pub record Outcome : Type 0 where
  pub number : ℕ
  pub stemmed : ℕ
  pub left : ℕ
  pub text : List ℕ

-- 5, "the text has more than 65,536 bytes", with "0 and 0": "Every refusal leaves all that was lent unchanged."
abbrev pub refused : List ℕ → Outcome
refused text = record { number = 5; stemmed = 0; left = 0; text = text }

abbrev pub finished : Ran → Outcome
finished ran = record { number = 0; stemmed = ran.stemmed; left = ran.left; text = ran.text }

-- a call on a text, whatever reads its words
unfoldable pub text_outcome : (List ℕ → Reading) → List ℕ → Outcome
text_outcome rule text = cond (ltb 65536 (length text)) (refused text) (finished (run_text rule text))
