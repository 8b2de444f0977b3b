-- Laws of endings that end with a tail, and have a letter before it; and of the letter of a tail.
use Prim.Native.Nat.{ℕ, suc, ◌+◌, ◌-◌, ◌≤◌, ◌<◌}
use Rattle.std.specs.Prelude.{◌≡◌, true, false, ◌&&◌, List, [], ◌∷◌, eqb, length, get_or, take, drop, set}
use Rattle.std.proofs.Common.{sym, ap, drop_of_length-le, drop-cons, get_or-set_same, get_or-set_other, eq-eqb, ne_eqb, eqb-true}
use Rattle.std.proofs.Math.Bool.{and-false, and-true}
use native.Mathlib.Omega.{arith}
use Rattle.std.proofs.Math.Seq.{take-nil}
use Rattle.std.proofs.lemmas.Bool.{eqb-false}
use Rattle.paper.specs.Groups.{same, ends_with}
use Rattle.paper.specs.GroupsLaws.{same_equal, ends_short, ends_itself, ends_rest, ends_empty}
use Rattle.paper.specs.Nodes.{tails, member}
use Rattle.paper.specs.TestLaws.{by_test}
use Rattle.levels.specs.Layout.{letter_of}
use Rattle.translations.specs.Looking.{Noted}

-- an ending has a letter and a tail at its end exactly if it has the tail there, and this letter before it
pub ends_more : (ending tail : List ℕ) (letter : ℕ) → length tail < length ending
    → ends_with ending (letter ∷ tail) ≡ (eqb (get_or ending (length ending - length tail - 1) 0) letter && ends_with ending tail)
unfolding ends_with same
ends_more ending tail letter more =
    let place = length ending - length tail - 1 in
    let here : length ending - suc (length tail) ≡ place = omega arith in
    let behind : suc place ≡ length ending - length tail = omega arith in
    rw (here, drop-cons ending place 0 (omega arith), ap (λ (n : ℕ). drop n ending) behind)

-- letters are among the tails of an ending exactly if it ends with them
pub tail_member : (ending : List ℕ) (letter : ℕ) (tail : List ℕ) → member (letter ∷ tail) (tails ending) ≡ ends_with ending (letter ∷ tail)
unfolding tails member same
tail_member [] letter tail = sym (ends_empty (letter ∷ tail))
tail_member (first ∷ rest) letter tail =
    by_test (same (letter ∷ tail) (first ∷ rest))
    (λ is. rw (is, same_equal (letter ∷ tail) (first ∷ rest) is) (sym (ends_itself (first ∷ rest))))
    (λ other. rw (other, ends_rest first rest (letter ∷ tail) other) (tail_member rest letter tail))

-- an ending that is the tail
pub same_ends : (ending tail : List ℕ) → length ending ≡ length tail → same ending tail ≡ ends_with ending tail
unfolding ends_with
same_ends ending tail long = let none : length ending - length tail ≡ 0 = omega arith in rw none

-- ## What is noted of an ending

module _ (ending : List ℕ) (end : ℕ) (tail ends : List ℕ) where
  pub noted_short : length ending ≤ length tail → Noted ending end tail ends ends
  noted_short short k h = rw (ends_short ending ((97 + k) ∷ tail) (omega arith))

  module _ (more : length tail < length ending) where
    pub noted_other : ends_with ending tail ≡ false → Noted ending end tail ends ends
    noted_other other k h = rw (ends_more ending tail (97 + k) more, other, and-false)

    module _ (is : ends_with ending tail ≡ true) (letter : ℕ) (before : letter ≡ get_or ending (length ending - length tail - 1) 0) where
      ends_by : (k : ℕ) → ends_with ending ((97 + k) ∷ tail) ≡ eqb letter (97 + k)
      ends_by k = rw (ends_more ending tail (97 + k) more, is, and-true, before)

      pub noted_low : letter < 97 → Noted ending end tail ends ends
      noted_low low k h = rw (ends_by k, ne_eqb letter (97 + k) (λ e. absurd (omega arith)))

      module _ (place : ℕ) (place_is : place ≡ letter - 97) (high : 97 ≤ letter) where
        pub noted_kept : (get_or ends place 0 ≡ 0 → ⊥) → Noted ending end tail ends ends
        noted_kept taken k h =
            rw (ends_by k)
            (by_test (eqb letter (97 + k))
            (λ e.
            let here : k ≡ place = omega (arith, eqb-true letter (97 + k) e) in
            rw (e, here, ne_eqb (get_or ends place 0) 0 taken))
            (λ e. rw e))

        pub noted_new : get_or ends place 0 ≡ 0 → (ends-then : List ℕ) → ends-then ≡ set ends place end → Noted ending end tail ends ends-then
        noted_new free ends-then is k h =
            rw (is, ends_by k)
            (by_test (eqb letter (97 + k))
            (λ e.
            let here : place ≡ k = omega (arith, eqb-true letter (97 + k) e) in
            let none = rw here at free in
            rw (e, here, eq-eqb (get_or ends k 0) 0 none) (get_or-set_same ends k end 0 h))
            (λ e. rw e (get_or-set_other ends place k end 0 (λ same_place. eqb-false letter (97 + k) e (omega arith)))))

-- ## The letter of a tail that stands in the sheet

module _ (sheet : List ℕ) (start end : ℕ) where
  pub letter_none : end ≤ start → 0 ≡ letter_of (take (end - start) (drop start sheet))
  unfolding letter_of
  letter_none over = let none : end - start ≡ 0 = omega arith in rw none

  pub letter_beyond : length sheet ≤ start → 0 ≡ letter_of (take (end - start) (drop start sheet))
  unfolding letter_of
  letter_beyond over = rw (drop_of_length-le sheet over, take-nil)

  pub letter_here : start < end → start < length sheet → get_or sheet start 0 ≡ letter_of (take (end - start) (drop start sheet))
  unfolding letter_of
  letter_here ahead inside = let more : end - start ≡ suc (end - start - 1) = omega arith in rw (drop-cons sheet start 0 inside, more)
