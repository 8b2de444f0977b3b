-- What is done at one word of a text does not depend on the rest of the text, by any word rule. What people ask of a text run, that its
-- length stays and its counts add up, stands in proofs/.
use Prim.Native.Nat.{ℕ, suc, ◌≤◌}
use Rattle.std.specs.Prelude.{◌≡◌, ◌||◌}
use Rattle.std.proofs.Math.Path.{sym, ap}
use Rattle.std.proofs.Common.{◌∙◌, add_assoc, zero-add, add-zero, arith}
use Rattle.std.proofs.Math.Bool.{true}
use mathlib.Core.List.{List, [], ◌∷◌, ◌++◌, append_assoc, append-nil}
use Rattle.std.proofs.Math.ListN.{length, length-append}
use Rattle.paper.specs.Groups.{Reading}
use Rattle.pieces.specs.Pieces.{Piece, word, other, pieces}
use Rattle.pieces.specs.PiecesLaws.{joined, joined_pieces, starts_outside, ends_outside, pieces_cut}
use Rattle.pieces.specs.LongestRuns.{IsWord, LongestRuns, pieces-longest, pieces_word}
use Rattle.texts.specs.Texts.{Ran, of_word, of_piece, nothing, ◌then◌, of_pieces, run_text}

-- ## Parts of a text one after the other

pub then_assoc : (one two three : Ran) → (one then two) then three ≡ one then (two then three)
then_assoc one two three =
    λ i.
    record {
      text = append_assoc one.text two.text three.text i;
      stemmed = add_assoc one.stemmed two.stemmed three.stemmed i;
      left = add_assoc one.left two.left three.left i;
    }

pub nothing_then : (ran : Ran) → nothing then ran ≡ ran
nothing_then ran = λ i. record { text = ran.text; stemmed = zero-add ran.stemmed i; left = zero-add ran.left i }

pub then_nothing : (ran : Ran) → ran then nothing ≡ ran
then_nothing ran =
    λ i. record { text = append-nil ran.text i; stemmed = add-zero ran.stemmed i; left = add-zero ran.left i }

unfoldable pub word_count : List Piece → ℕ
word_count [] = 0
word_count (word letters ∷ rest) = suc (word_count rest)
word_count (other byte ∷ rest) = word_count rest

-- A text has no more words than bytes.
count_within : (list : List Piece) → LongestRuns list → word_count list ≤ length (joined list)
unfolding word_count joined
count_within [] runs = omega arith
count_within (word letters ∷ rest) runs =
    simp length-append (omega (arith, runs.0.some, count_within rest runs.2))
count_within (other byte ∷ rest) runs = omega (arith, count_within rest runs.1)

pub words_within : (text : List ℕ) → word_count (pieces text) ≤ length text
words_within text =
    omega (arith, count_within (pieces text) (pieces-longest text), ap length (joined_pieces text))

module _ (rule : List ℕ → Reading) where
  pub of_pieces-append : (front back : List Piece)
      → of_pieces rule (front ++ back) ≡ of_pieces rule front then of_pieces rule back
  unfolding of_pieces
  of_pieces-append [] back = sym (nothing_then (of_pieces rule back))
  of_pieces-append (piece ∷ front) back =
      ap (λ (ran : Ran). of_piece rule piece then ran) (of_pieces-append front back)
      ∙ sym (then_assoc (of_piece rule piece) (of_pieces rule front) (of_pieces rule back))

  -- A text that is cut at a place not inside a word is run part by part.
  pub run_cut : (front back : List ℕ) → (ends_outside front || starts_outside back) ≡ true
      → run_text rule (front ++ back) ≡ run_text rule front then run_text rule back
  unfolding run_text
  run_cut front back cut = ap (of_pieces rule) (pieces_cut front back cut) ∙ of_pieces-append (pieces front) (pieces back)

  -- What is done at one word does not depend on the rest of the text.
  pub run_word : (front letters back : List ℕ) → ends_outside front ≡ true → IsWord letters → starts_outside back ≡ true
      → run_text rule (front ++ (letters ++ back)) ≡ run_text rule front then of_word rule letters then run_text rule back
  unfolding run_text of_pieces of_piece
  run_word front letters back ends is starts =
      run_cut front (letters ++ back) (rw ends)
      ∙ ap (λ (list : List Piece). run_text rule front then of_pieces rule list) (pieces_word letters back is starts)
