-- What is run byte by byte and word by word: what becomes of every piece of a text, by any word rule.
use Prim.Native.Nat.{ℕ, suc, ◌+◌, ◌≤◌, ◌<◌}
use Rattle.std.specs.Prelude.{◌≡◌, Bool, cond, ltb, take, drop, get_or}
use Rattle.std.proofs.Math.Path.{refl, ap}
use Rattle.std.proofs.Common.{◌∙◌, arith, length-take, lt-ltb}
use Rattle.std.proofs.Math.Bool.{true, false, not}
use mathlib.Core.List.{List, [], ◌∷◌, ◌++◌, map}
use Rattle.std.proofs.Math.ListN.{length, length-append, length-map}
use Rattle.std.proofs.lemmas.List.{length-replicate, get_or_at}
use Rattle.std.proofs.Math.Seq.{split_at}
use Rattle.paper.specs.Groups.{Reading, done, outgrown}
use Rattle.paper.specs.Words.{placed}
use Rattle.paper.specs.LengthLaws.{NeverLengthens}
use Rattle.paper.specs.TestLaws.{or_right}
use Rattle.pieces.specs.Pieces.{is_letter, lowered, Piece, word, other, pieces}
use Rattle.pieces.specs.PiecesLaws.{joined, joined_pieces, pieces_other, starts_outside, ends_outside}
use Rattle.pieces.specs.LongestRuns.{IsWord}
use Rattle.texts.specs.Texts.{Ran, stays, answered, of_word, of_piece, ◌then◌, of_pieces, run_text}
use Rattle.texts.specs.TextsLaws.{run_cut, run_word, word_count}

module _ (rule : List ℕ → Reading) where
  -- Every byte outside words is run by itself.
  pub run_other : (front : List ℕ) (byte : ℕ) (back : List ℕ) → is_letter byte ≡ false
      → run_text rule (front ++ byte ∷ back)
      ≡ run_text rule front then record { text = byte ∷ []; stemmed = 0; left = 0 } then run_text rule back
  unfolding run_text of_pieces of_piece
  run_other front byte back separates =
      run_cut rule front (byte ∷ back) (or_right (ends_outside front) _ (ap not separates))
      ∙ ap (λ (list : List Piece). run_text rule front then of_pieces rule list) (pieces_other byte back separates)

  -- Words over 64 letters stay with their capitals.
  pub long_word : (letters : List ℕ) → 64 < length letters → of_word rule letters ≡ stays letters
  unfolding of_word
  long_word letters long = rw (lt-ltb 64 (length letters) long)

  pub run_long_word : (front letters back : List ℕ) → ends_outside front ≡ true → IsWord letters → starts_outside back ≡ true
      → 64 < length letters
      → run_text rule (front ++ (letters ++ back)) ≡ run_text rule front then stays letters then run_text rule back
  run_long_word front letters back ends is starts long =
      run_word rule front letters back ends is starts
      ∙ ap (λ (ran : Ran). run_text rule front then ran then run_text rule back) (long_word letters long)

  -- The two counts add up to the number of words.
  word_counts : (letters : List ℕ) → (of_word rule letters).stemmed + (of_word rule letters).left ≡ 1
  unfolding of_word answered
  word_counts letters = go (ltb 64 (length letters)) (rule (map lowered letters))
    where
      go : (long : Bool) (reading : Reading)
          → (cond long (stays letters) (answered letters reading)).stemmed
          + (cond long (stays letters) (answered letters reading)).left
          ≡ 1
      go true reading = refl
      go false (done stem) = refl
      go false outgrown = refl

  pieces_counts : (list : List Piece) → (of_pieces rule list).stemmed + (of_pieces rule list).left ≡ word_count list
  unfolding of_pieces of_piece word_count
  pieces_counts [] = refl
  pieces_counts (word letters ∷ rest) = omega (arith, word_counts letters, pieces_counts rest)
  pieces_counts (other byte ∷ rest) = omega (arith, pieces_counts rest)

  pub counts_add_up : (text : List ℕ) → (run_text rule text).stemmed + (run_text rule text).left ≡ word_count (pieces text)
  unfolding run_text
  counts_add_up text = pieces_counts (pieces text)

  module _ (never : NeverLengthens rule) where
    -- The length stays.
    pub word_length_lem : (letters : List ℕ) → length (of_word rule letters).text ≡ length letters
    unfolding of_word answered placed
    word_length_lem letters = go (ltb 64 (length letters)) (rule (map lowered letters)) (never (map lowered letters))
      where
        go : (long : Bool) (reading : Reading)
            → ((stem : List ℕ) → reading ≡ done stem → length stem ≤ length (map lowered letters))
            → length (cond long (stays letters) (answered letters reading)).text ≡ length letters
        go true reading within = refl
        go false (done stem) within =
            simp (length-append, length-replicate) (omega (arith, within stem refl, length-map letters lowered))
        go false outgrown within = refl

    pieces-length : (list : List Piece) → length (of_pieces rule list).text ≡ length (joined list)
    unfolding of_pieces of_piece joined
    pieces-length [] = refl
    pieces-length (word letters ∷ rest) = simp length-append (omega (arith, word_length_lem letters, pieces-length rest))
    pieces-length (other byte ∷ rest) = ap suc (pieces-length rest)

    pub length-stays : (text : List ℕ) → length (run_text rule text).text ≡ length text
    unfolding run_text
    length-stays text = pieces-length (pieces text) ∙ ap length (joined_pieces text)

    -- Every byte outside words stays where it is.
    pub others_stay : (text : List ℕ) (at : ℕ) → at < length text → is_letter (get_or text at 0) ≡ false
        → get_or (run_text rule text).text at 0 ≡ get_or text at 0
    others_stay text at inside separates =
        let parts : text ≡ take at text ++ get_or text at 0 ∷ drop (suc at) text = split_at text at 0 inside in
        let front : length (run_text rule (take at text)).text ≡ at =
        length-stays (take at text) ∙ length-take at text ∙ omega arith
        in
        ap (λ (l : List ℕ). get_or (run_text rule l).text at 0) parts
        ∙ ap (λ (ran : Ran). get_or ran.text at 0) (run_other (take at text) (get_or text at 0) (drop (suc at) text) separates)
        ∙ get_or_at (run_text rule (take at text)).text (get_or text at 0) _ 0 at front
