-- What holds of the next word: it stands at its offset, it is made of the letters found there, and none follows exactly
-- where the offset is the text's length. And what a walk over the words of a text finds from a place.
use Prim.Native.Nat.{ℕ, suc, ◌+◌, ◌-◌, ◌≤◌, ◌<◌, min}
use Rattle.std.specs.Prelude.{◌≡◌, Bool, take}
use Rattle.std.proofs.Math.Path.{refl, sym, ap}
use Rattle.std.proofs.Common.{◌∙◌, length-append, length-take-le}
use Rattle.std.proofs.Math.Bool.{true, false}
use mathlib.Core.List.{List, [], ◌∷◌, ◌++◌, map}
use native.Mathlib.Omega.{arith}
use Rattle.std.specs.Borrow.{Bor}
use Rattle.std.proofs.Math.ListN.{length, drop, length-drop, drop_of_length-le}
use Rattle.std.proofs.Math.Dec.{leb}
use Rattle.std.proofs.Math.Seq.{drop-drop, drop-length}
use borrow.Author.Tests.{leb-true, leb-false}
use Rattle.paper.specs.Settled.{settled}
use Rattle.pieces.specs.Pieces.{is_letter, leading, Piece, other, pieces}
use Rattle.pieces.specs.Next.{first_word, gap, next_word, next_word_at, word_end, NextWord}
use Rattle.pieces.specs.PiecesLaws.{pieces_letter, pieces_other, leading_letter, begins_with_word, leading_stands, leading_within}
use Rattle.pieces.specs.LongestRuns.{IsWord, leading_word}

-- ## Over the pieces of a text

pub gap_letter : (byte : ℕ) (bytes : List ℕ) → is_letter byte ≡ true → gap (pieces (byte ∷ bytes)) ≡ 0
unfolding gap
gap_letter byte bytes letter = rw (pieces_letter byte bytes letter, begins_with_word byte bytes)

pub gap_other : (byte : ℕ) (bytes : List ℕ) → is_letter byte ≡ false → gap (pieces (byte ∷ bytes)) ≡ suc (gap (pieces bytes))
unfolding gap
gap_other byte bytes separates = rw (pieces_other byte bytes separates)

pub gap_within : (text : List ℕ) → gap (pieces text) ≤ length text
unfolding gap pieces
gap_within [] = omega arith
gap_within (byte ∷ bytes) = go (gap_within bytes) (is_letter byte) refl
  where
    go : gap (pieces bytes) ≤ length bytes → (test : Bool) → is_letter byte ≡ test
        → gap (pieces (byte ∷ bytes)) ≤ suc (length bytes)
    go within true letter = omega (arith, gap_letter byte bytes letter)
    go within false separates = omega (arith, gap_other byte bytes separates)

-- the bytes of the gap separate, and the pieces of what is behind them follow
pub pieces_gap : (text : List ℕ) → pieces text ≡ map other (take (gap (pieces text)) text) ++ pieces (drop (gap (pieces text)) text)
unfolding gap pieces
pieces_gap [] = refl
pieces_gap (byte ∷ bytes) = go (pieces_gap bytes) (is_letter byte) refl
  where
    go : pieces bytes ≡ map other (take (gap (pieces bytes)) bytes) ++ pieces (drop (gap (pieces bytes)) bytes)
        → (test : Bool) → is_letter byte ≡ test
        → pieces (byte ∷ bytes)
        ≡ map other (take (gap (pieces (byte ∷ bytes))) (byte ∷ bytes)) ++ pieces (drop (gap (pieces (byte ∷ bytes))) (byte ∷ bytes))
    go shorter true letter = rw (gap_letter byte bytes letter)
    go shorter false separates =
        rw (gap_other byte bytes separates, pieces_other byte bytes separates) (ap (λ (l : List Piece). other byte ∷ l) shorter)

-- the first word is made of the letters behind the gap
pub first_leading : (text : List ℕ) → first_word (pieces text) ≡ leading (drop (gap (pieces text)) text)
unfolding gap pieces first_word leading
first_leading [] = refl
first_leading (byte ∷ bytes) = go (first_leading bytes) (is_letter byte) refl
  where
    go : first_word (pieces bytes) ≡ leading (drop (gap (pieces bytes)) bytes)
        → (test : Bool) → is_letter byte ≡ test
        → first_word (pieces (byte ∷ bytes)) ≡ leading (drop (gap (pieces (byte ∷ bytes))) (byte ∷ bytes))
    go shorter true letter =
        rw (
          gap_letter byte bytes letter,
          pieces_letter byte bytes letter,
          begins_with_word byte bytes,
          leading_letter byte bytes letter,
        )
    go shorter false separates = rw (gap_other byte bytes separates, pieces_other byte bytes separates) shorter

-- a text that is not empty has a byte outside words or a letter
pub gap_or_word : (text : List ℕ) → 0 < length text → 0 < gap (pieces text) + length (leading (drop (gap (pieces text)) text))
unfolding gap pieces leading
gap_or_word [] none = absurd (omega arith)
gap_or_word (byte ∷ bytes) some = go (is_letter byte) refl
  where
    go : (test : Bool) → is_letter byte ≡ test
        → 0 < gap (pieces (byte ∷ bytes)) + length (leading (drop (gap (pieces (byte ∷ bytes))) (byte ∷ bytes)))
    go true letter = rw (gap_letter byte bytes letter, leading_letter byte bytes letter) (omega arith)
    go false separates = rw (gap_other byte bytes separates) (omega arith)

no_word : (text : List ℕ) → length (first_word (pieces text)) ≡ 0 → gap (pieces text) ≡ length text
unfolding gap pieces first_word
no_word [] none = refl
no_word (byte ∷ bytes) none = go (no_word bytes) (is_letter byte) refl
  where
    go : (length (first_word (pieces bytes)) ≡ 0 → gap (pieces bytes) ≡ length bytes)
        → (test : Bool) → is_letter byte ≡ test → gap (pieces (byte ∷ bytes)) ≡ suc (length bytes)
    go shorter true letter =
        let first : length (first_word (pieces (byte ∷ bytes))) ≡ suc (length (leading bytes)) =
        rw (pieces_letter byte bytes letter, begins_with_word byte bytes)
        in
        absurd (omega arith)
    go shorter false separates =
        let fewer : length (first_word (pieces bytes)) ≡ 0 = rw (pieces_other byte bytes separates) at none in
        gap_other byte bytes separates ∙ ap suc (shorter fewer)

-- ## Over a text and a place

module _ (text : List ℕ) (from : ℕ) where
  pub next_within : next_word_at text from ≤ length text
  unfolding next_word_at
  next_within = omega (arith, gap_within (drop from text), length-drop from text)

  -- behind the gap from the place, and at the offset of the next word, stands the same
  pub from_next : drop (gap (pieces (drop from text))) (drop from text) ≡ drop (next_word_at text from) text
  unfolding next_word_at
  from_next = drop-drop (gap (pieces (drop from text))) from text ∙ go (leb from (length text)) refl
    where
      go : (test : Bool) → leb from (length text) ≡ test
          → drop (from + gap (pieces (drop from text))) text ≡ drop (min from (length text) + gap (pieces (drop from text))) text
      go true inside =
          let same : min from (length text) ≡ from = omega (arith, leb-true from (length text) inside) in
          rw same
      go false past =
          let far : length text < from = leb-false from (length text) past in
          let one : length text ≤ from + gap (pieces (drop from text)) = omega arith in
          let two : length text ≤ min from (length text) + gap (pieces (drop from text)) = omega arith in
          drop_of_length-le text one ∙ sym (drop_of_length-le text two)

  -- the next word is all of the letters at its offset
  pub next_leading : next_word text from ≡ leading (drop (next_word_at text from) text)
  unfolding next_word
  next_leading = first_leading (drop from text) ∙ ap leading from_next

  -- the next word is the part of the text at its offset, as long as it is
  pub next_stands : next_word text from ≡ take (length (next_word text from)) (drop (next_word_at text from) text)
  next_stands = rw next_leading (leading_stands (drop (next_word_at text from) text))

  -- "the part is empty if no word follows", and then the offset is the text's length; a word that is not empty stands before it
  pub next_none : length (next_word text from) ≡ 0 → next_word_at text from ≡ length text
  unfolding next_word next_word_at
  next_none none = omega (arith, no_word (drop from text) none, length-drop from text)

  pub next_some : next_word_at text from ≡ length text → next_word text from ≡ []
  unfolding leading
  next_some end = next_leading ∙ ap leading (ap (λ (n : ℕ). drop n text) end ∙ drop-length text)

-- any two parts that the contract of the next word allows are the same part
pub next_determined : (text : Bor (List ℕ)) (from : ℕ) (one two : Bor (List ℕ))
    → NextWord text from one → NextWord text from two → (one.now ≡ two.now) × (one.ref_ptr ≡ two.ref_ptr)
next_determined text from one two p q = (settled p.letters q.letters, settled p.place q.place)

-- ## The part from a place to the end of the letters there

module _ (text : List ℕ) (start end : ℕ) (ends : end ≡ word_end text start) where
  pub part_within : start ≤ length text → end ≤ length text
  part_within inside = omega (arith, leading_within (drop start text), length-drop start text)

  pub part-leading : take (end - start) (drop start text) ≡ leading (drop start text)
  part-leading =
      let long : end - start ≡ length (leading (drop start text)) = omega arith in
      rw long (sym (leading_stands (drop start text)))

-- what a turn finds from a place inside a text: where the next word starts, and where its letters end
pub record Found (text : List ℕ) (at start end : ℕ) : Type 0 where
  pub inside : at < length text
  pub next : start ≡ next_word_at text at
  pub ends : end ≡ word_end text start

module _ {text : List ℕ} {at start end : ℕ} (found : Found text at start end) where
  pub start_within : start ≤ length text
  start_within = rw found.next (next_within text at)

  pub end_within : end ≤ length text
  end_within = part_within text start end found.ends start_within

  -- the place moves on
  pub turn_on : at < end
  unfolding next_word_at
  turn_on =
      let there : drop (gap (pieces (drop at text))) (drop at text) ≡ drop start text =
      from_next text at ∙ ap (λ (n : ℕ). drop n text) (sym found.next)
      in
      let some : 0 < length (drop at text) = rw (length-drop at text) (omega arith) in
      omega (arith, gap_or_word (drop at text) some, ap (λ (l : List ℕ). length (leading l)) there)

  -- the part from its start to its end is a word, if it is not empty
  pub part_word : start < end → IsWord (take (end - start) (drop start text))
  part_word some =
      rw (part-leading text start end found.ends) (leading_word (drop start text) (omega arith))

  pub part_length : length (take (end - start) (drop start text)) ≡ end - start
  part_length = ap length (part-leading text start end found.ends) ∙ omega (arith, found.ends)

  -- the text with other bytes in the place of that part is as long as it was
  pub length_after : (place : List ℕ) → length place ≡ length (take (end - start) (drop start text))
      → length (take start text ++ (place ++ drop (end - start) (drop start text))) ≡ length text
  length_after place long =
      simp (length-append, length-drop)
      (omega (arith, long, part_length, length-take-le start text start_within, end_within, found.ends))
