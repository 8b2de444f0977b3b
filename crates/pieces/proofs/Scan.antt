-- One step of a scan: what the byte at a place says of the gap and of the leading letters from there.
use Prim.Native.Nat.{ℕ, suc, ◌+◌, ◌≤◌, ◌<◌}
use mathlib.Core.Path.{◌≡◌}
use mathlib.Core.Bool.{true, false}
use mathlib.Core.List.{List, [], ◌∷◌}
use native.Mathlib.Numerals.{add-one}
use lib.ListN.{length, drop, get_or, drop_of_length-le}
use lib.Seq.{drop-cons}
use Rattle.pieces.specs.Pieces.{is_letter, leading, pieces}
use Rattle.pieces.specs.Next.{gap}
use Rattle.pieces.specs.PiecesLaws.{leading_letter, leading_other}
use Rattle.pieces.specs.NextLaws.{gap_letter, gap_other}

module _ (text : List ℕ) (at : ℕ) where
  module _ (inside : at < length text) where
    pub gap_at_letter : is_letter (get_or text at 0) ≡ true → gap (pieces (drop at text)) ≡ 0
    gap_at_letter letter = rw (drop-cons text at 0 inside) (gap_letter (get_or text at 0) (drop (suc at) text) letter)

    pub gap_at_other : is_letter (get_or text at 0) ≡ false
        → gap (pieces (drop at text)) ≡ suc (gap (pieces (drop (at + 1) text)))
    gap_at_other separates =
        rw (add-one at, drop-cons text at 0 inside) (gap_other (get_or text at 0) (drop (suc at) text) separates)

    pub leading_at_letter : is_letter (get_or text at 0) ≡ true
        → leading (drop at text) ≡ get_or text at 0 ∷ leading (drop (at + 1) text)
    leading_at_letter letter =
        rw (add-one at, drop-cons text at 0 inside) (leading_letter (get_or text at 0) (drop (suc at) text) letter)

    pub leading_at_other : is_letter (get_or text at 0) ≡ false → leading (drop at text) ≡ []
    leading_at_other separates =
        rw (drop-cons text at 0 inside) (leading_other (get_or text at 0) (drop (suc at) text) separates)

  module _ (past : length text ≤ at) where
    pub gap_at_end : gap (pieces (drop at text)) ≡ 0
    unfolding gap pieces
    gap_at_end = rw (drop_of_length-le text past)

    pub leading_at_end : leading (drop at text) ≡ []
    unfolding leading
    leading_at_end = rw (drop_of_length-le text past)
