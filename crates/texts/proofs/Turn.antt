-- One turn of a text run, by any word rule: from a place, the gap to the next word, the word, and the place behind it.
use Prim.Native.Nat.{ℕ, ◌+◌, ◌-◌, ◌≤◌, ◌<◌}
use mathlib.Core.Path.{◌≡◌, refl, sym, ap, ◌∙◌}
use mathlib.Core.Bool.{Bool, true, false}
use mathlib.Core.List.{List, [], ◌∷◌, ◌++◌, map, append_assoc}
use native.Mathlib.Nat.{add-zero}
use native.Mathlib.Omega.{arith}
use lib.ListN.{length, take, drop, length-append, drop_of_length-le}
use lib.Seq.{take-add, drop-drop, take_at, drop_at, length-take-le, take_all}
use Rattle.paper.specs.Groups.{Reading}
use Rattle.pieces.specs.Pieces.{is_letter, leading, other, pieces}
use Rattle.pieces.specs.Next.{gap, next_word_at}
use Rattle.pieces.specs.PiecesLaws.{leading_letter, leading_other, leading_stands, pieces_letter, begins_with_word}
use Rattle.pieces.specs.NextLaws.{pieces_gap, part-leading, Found, start_within, part_length}
use Rattle.texts.specs.Texts.{Ran, stemmed_to, of_word, of_piece, ◌then◌, of_pieces, run_text}
use Rattle.texts.specs.TextsLaws.{then_assoc, then_nothing, of_pieces-append}
use Rattle.texts.proofs.TextsLaws.{long_word}

-- bytes that are not in words, with nothing counted
abbrev pub plain : List ℕ → Ran
plain bytes = record { text = bytes; stemmed = 0; left = 0 }

module _ (rule : List ℕ → Reading) where
  others : (bytes : List ℕ) → of_pieces rule (map other bytes) ≡ plain bytes
  unfolding of_pieces of_piece
  others [] = refl
  others (byte ∷ bytes) = ap (λ (ran : Ran). of_piece rule (other byte) then ran) (others bytes)

  run_gap : (text : List ℕ)
      → run_text rule text
      ≡ plain (take (gap (pieces text)) text) then run_text rule (drop (gap (pieces text)) text)
  unfolding run_text
  run_gap text =
      ap (of_pieces rule) (pieces_gap text)
      ∙ of_pieces-append rule (map other (take (gap (pieces text)) text)) (pieces (drop (gap (pieces text)) text))
      ∙ ap (λ (ran : Ran). ran then of_pieces rule (pieces (drop (gap (pieces text)) text))) (others (take (gap (pieces text)) text))

  run_leading : (text : List ℕ) → 0 < length (leading text)
      → run_text rule text ≡ of_word rule (leading text) then run_text rule (drop (length (leading text)) text)
  unfolding run_text of_pieces of_piece leading
  run_leading [] none = absurd (omega arith)
  run_leading (byte ∷ bytes) some = go (is_letter byte) refl
    where
      go : (test : Bool) → is_letter byte ≡ test
          → run_text rule (byte ∷ bytes)
          ≡ of_word rule (leading (byte ∷ bytes)) then run_text rule (drop (length (leading (byte ∷ bytes))) (byte ∷ bytes))
      go true letter = rw (leading_letter byte bytes letter, pieces_letter byte bytes letter, begins_with_word byte bytes)
      go false separates = absurd (omega (arith, ap length (leading_other byte bytes separates)))

  -- what is done before a place of a text, and what is still to be done behind it
  abbrev pub whole : List ℕ → ℕ → ℕ → ℕ → Ran
  whole text at stemmed left = record { text = take at text; stemmed = stemmed; left = left } then run_text rule (drop at text)

  -- at the text's end all is done
  pub whole_done : (text : List ℕ) (at stemmed left : ℕ) → length text ≤ at
      → whole text at stemmed left ≡ record { text = text; stemmed = stemmed; left = left }
  unfolding run_text of_pieces pieces
  whole_done text at stemmed left past =
      rw (take_all at text past, drop_of_length-le text past) (then_nothing (record { text = text; stemmed = stemmed; left = left }))

  same : {one two : List ℕ} {stemmed stemmed-then left left_then : ℕ} {rest Rest-then : List ℕ}
      → one ≡ two → stemmed ≡ stemmed-then → left ≡ left_then → rest ≡ Rest-then
      → record { text = one; stemmed = stemmed; left = left } then run_text rule rest
      ≡ record { text = two; stemmed = stemmed-then; left = left_then } then run_text rule Rest-then
  same p q r s = λ i. record { text = p i; stemmed = q i; left = r i } then run_text rule (s i)

  module _ {text : List ℕ} {at start end : ℕ} (found : Found text at start end) (stemmed left : ℕ) where
    so_far : Ran
    so_far = record { text = take start text; stemmed = stemmed; left = left }

    turn_gap : whole text at stemmed left ≡ whole text start stemmed left
    unfolding next_word_at
    turn_gap =
        let g : ℕ = gap (pieces (drop at text)) in
        let there : at + g ≡ start = omega arith in
        let before : Ran = record { text = take at text; stemmed = stemmed; left = left } in
        ap (λ (ran : Ran). before then ran) (run_gap (drop at text))
        ∙ sym (then_assoc before (plain (take g (drop at text))) (run_text rule (drop g (drop at text))))
        ∙ same
        (sym (take-add at g text) ∙ ap (λ (n : ℕ). take n text) there)
        (add-zero stemmed)
        (add-zero left)
        (drop-drop g at text ∙ ap (λ (n : ℕ). drop n text) there)

    turn_word : start < end
        → whole text at stemmed left
        ≡ (so_far then of_word rule (leading (drop start text))) then run_text rule (drop end text)
    unfolding so_far
    turn_word some =
        let letters : List ℕ = leading (drop start text) in
        let behind : drop (length letters) (drop start text) ≡ drop end text =
        drop-drop (length letters) start text ∙ ap (λ (n : ℕ). drop n text) (sym found.ends)
        in
        turn_gap
        ∙ ap (λ (ran : Ran). so_far then ran) (run_leading (drop start text) (omega arith))
        ∙ sym (then_assoc so_far (of_word rule letters) _)
        ∙ ap (λ (l : List ℕ). (so_far then of_word rule letters) then run_text rule l) behind

    -- a word over 64 letters stays
    pub turn_left : 64 < end - start → whole text at stemmed left ≡ whole text end stemmed (left + 1)
    unfolding so_far
    turn_left long =
        let letters : List ℕ = leading (drop start text) in
        let to_end : take start text ++ letters ≡ take end text =
        ap (λ (l : List ℕ). take start text ++ l) (leading_stands (drop start text))
        ∙ sym (take-add start (length letters) text)
        ∙ ap (λ (n : ℕ). take n text) (sym found.ends)
        in
        turn_word (omega arith)
        ∙ ap (λ (ran : Ran). (so_far then ran) then run_text rule (drop end text)) (long_word rule letters (omega arith))
        ∙ same to_end (add-zero stemmed) refl refl

    -- a word is stemmed to these bytes, and the text has them in its place
    pub turn_stemmed : (place : List ℕ) → start < end → length place ≡ length (take (end - start) (drop start text))
        → of_word rule (take (end - start) (drop start text)) ≡ stemmed_to place
        → whole text at stemmed left
        ≡ whole (take start text ++ (place ++ drop (end - start) (drop start text))) end (stemmed + 1) left
    unfolding so_far
    turn_stemmed place some long is =
        let rest : List ℕ = drop (end - start) (drop start text) in
        let within : start ≤ length text = start_within found in
        let front : length (take start text ++ place) ≡ end =
        length-append (take start text) place ∙ omega (arith, length-take-le start text within, long, part_length found)
        in
        let after : take start text ++ (place ++ rest) ≡ (take start text ++ place) ++ rest =
        sym (append_assoc (take start text) place rest)
        in
        let there : start + (end - start) ≡ end = omega arith in
        let behind : rest ≡ drop end text = drop-drop (end - start) start text ∙ ap (λ (n : ℕ). drop n text) there in
        turn_word some
        ∙ ap
        (λ (ran : Ran). (so_far then ran) then run_text rule (drop end text))
        (ap (of_word rule) (sym (part-leading text start end found.ends)) ∙ is)
        ∙ same
        (sym (ap (take end) after ∙ take_at (take start text ++ place) rest end front))
        refl
        (add-zero left)
        (sym (ap (drop end) after ∙ drop_at (take start text ++ place) rest end front ∙ behind))

    -- no word follows
    pub turn_none : end ≤ start → whole text at stemmed left ≡ whole text end stemmed left
    turn_none none =
        let stop : start ≡ end = omega arith in
        turn_gap ∙ ap (λ (n : ℕ). whole text n stemmed left) stop
