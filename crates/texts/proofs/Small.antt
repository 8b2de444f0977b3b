-- A word whose letters up to a place have been made small, and one letter more.
use Prim.Native.Nat.{ℕ, zero, suc, ◌+◌, ◌≤◌, ◌<◌}
use mathlib.Core.Path.{◌≡◌, refl, sym, ◌∙◌}
use mathlib.Core.Bool.{true}
use mathlib.Core.List.{List, [], ◌∷◌, ◌++◌, map, append_assoc, append-nil, map-append}
use native.Mathlib.Numerals.{add-one}
use native.Mathlib.Omega.{arith}
use lib.ListN.{length, take, drop, get_or, set, length-append, length-map, length-drop, drop_of_length-le}
use lib.Seq.{take-suc, drop-cons, set_at, get_or_at, length-take-le, take_all}
use Rattle.pieces.specs.Pieces.{is_letter, lowered}
use Rattle.pieces.specs.LongestRuns.{all_letters}
use Rattle.paper.specs.TestLaws.{and_left, and_right}

pub letter_at : (word : List ℕ) (at : ℕ) → all_letters word ≡ true → at < length word → is_letter (get_or word at 0) ≡ true
unfolding all_letters
letter_at [] at all inside = absurd (omega arith)
letter_at (byte ∷ bytes) zero all inside = and_left (is_letter byte) (all_letters bytes) all
letter_at (byte ∷ bytes) (suc at) all inside =
    letter_at bytes at (and_right (is_letter byte) (all_letters bytes) all) (omega arith)

unfoldable pub small_to : List ℕ → ℕ → List ℕ
small_to word at = map lowered (take at word) ++ drop at word

module _ (word : List ℕ) where
  pub small_none : small_to word 0 ≡ word
  unfolding small_to
  small_none = refl

  pub small_all : (at : ℕ) → length word ≤ at → small_to word at ≡ map lowered word
  unfolding small_to
  small_all at all = rw (take_all at word all, drop_of_length-le word all) (append-nil (map lowered word))

  module _ (at : ℕ) (inside : at < length word) where
    front : length (map lowered (take at word)) ≡ at
    front = length-map (take at word) lowered ∙ length-take-le at word (omega arith)

    pub small_at : get_or (small_to word at) at 0 ≡ get_or word at 0
    unfolding small_to
    small_at =
        rw (drop-cons word at 0 inside)
        (get_or_at (map lowered (take at word)) (get_or word at 0) (drop (suc at) word) 0 at front)

    step : set (small_to word at) at (lowered (get_or word at 0)) ≡ small_to word (at + 1)
    unfolding small_to
    step =
        rw (add-one at, take-suc word at 0 inside, drop-cons word at 0 inside, map-append)
        (set_at (map lowered (take at word)) (get_or word at 0) (drop (suc at) word) (lowered (get_or word at 0)) at front
        ∙ sym (append_assoc (map lowered (take at word)) (lowered (get_or word at 0) ∷ []) (drop (suc at) word)))

    pub small_more : set (small_to word at) at (lowered (get_or (small_to word at) at 0)) ≡ small_to word (at + 1)
    small_more = rw small_at step

    pub small_length : length (small_to word at) ≡ length word
    unfolding small_to
    small_length = simp (length-append, length-drop) (omega (arith, front))
