-- How long the longest tail is that two endings share: how many letters are the same from the last one on.
use Rattle.std.proofs.Common.{ℕ, zero, suc, ◌-◌, ◌≤◌, ◌<◌, ◌≡◌, Bool, List, ◌∷◌, eqb, length, get_or, drop, take_while}
use Rattle.std.proofs.Common.{reverse, sym, ap, ◌∙◌, arith, eqb-true, eq-eqb}
use Rattle.std.proofs.lemmas.Bool.{false≢true}
use Rattle.std.proofs.lemmas.List.{get_or-reverse, length-reverse}
use Rattle.std.proofs.lemmas.List.Folds.{length-prefix_len}
use Rattle.std.proofs.lemmas.List.Sums.{prefix_len-le-length, prefix_len_passes, prefix_len_stops}
use Rattle.std.proofs.lemmas.Slice.Zip.{length-zip, get_or-zip}
use Rattle.std.specs.List.{zip, prefix_len}
use lib.Seq.{drop-cons, drop-length}
use Rattle.paper.specs.Nodes.{tails}
use Rattle.paper.specs.LookBack.{shared}
use Rattle.paper.specs.SharedTails.{Equal, Stop, shared_is}

-- one more letter from the end on
one_more : (l : List ℕ) (k : ℕ) → k < length l → drop (length l - suc k) l ≡ get_or l (length l - 1 - k) 0 ∷ drop (length l - k) l
one_more l k less =
    let place : length l - suc k ≡ length l - 1 - k = omega arith in
    let next : suc (length l - 1 - k) ≡ length l - k = omega arith in
    ap (λ (i : ℕ). drop i l) place
    ∙ (drop-cons l (length l - 1 - k) 0 (omega arith) ∙ ap (λ (i : ℕ). get_or l (length l - 1 - k) 0 ∷ drop i l) next)

module _ (e f : List ℕ) where
  abbrev pairs : List (ℕ × ℕ)
  pairs = zip (reverse e) (reverse f)

  abbrev same : ℕ × ℕ → Bool
  same p = eqb p.0 p.1

  abbrev count : ℕ
  count = prefix_len same pairs

  inside : (count ≤ length e) × (count ≤ length f)
  inside =
      let most = prefix_len-le-length same pairs in
      let size = length-zip (reverse e) (reverse f) in
      let one = length-reverse e in
      let other = length-reverse f in (omega arith, omega arith)

  letters : (k : ℕ) → k < length e → k < length f
      → get_or pairs k (0, 0) ≡ (get_or e (length e - 1 - k) 0, get_or f (length f - 1 - k) 0)
  letters k first second =
      let one = length-reverse e in
      let other = length-reverse f in
      get_or-zip (reverse e) (reverse f) k (0, 0) (omega arith) (omega arith)
      ∙ rw (get_or-reverse e k 0 first, get_or-reverse f k 0 second)

  equal : (k : ℕ) → k ≤ count → Equal e f k
  equal zero none =
      ap (λ (i : ℕ). drop i e) (let h : length e - 0 ≡ length e = omega arith in h)
      ∙ (drop-length e ∙ (sym (drop-length f) ∙ ap (λ (i : ℕ). drop i f) (let h : length f ≡ length f - 0 = omega arith in h)))
  equal (suc k) less =
      let first : k < length e = omega (arith, inside.0) in
      let second : k < length f = omega (arith, inside.1) in
      let passes = ap same (sym (letters k first second)) ∙ prefix_len_passes {X = ℕ × ℕ} same pairs k (0, 0) (omega arith) in
      let letter = eqb-true _ _ passes in
      let one = one_more e k first in
      let other = one_more f k second in
      let before = equal k (omega arith) in
      cc

  stop : Stop e f count
  stop first second letter =
      let size = length-zip (reverse e) (reverse f) in
      let one = length-reverse e in
      let other = length-reverse f in
      let stops = ap same (sym (letters count first second)) ∙ prefix_len_stops {X = ℕ × ℕ} same pairs (0, 0) (omega arith) in
      false≢true (sym stops ∙ eq-eqb _ _ letter)

  pub tail_is : length (take_while same pairs) ≡ shared e (tails f)
  tail_is = length-prefix_len same pairs ∙ sym (shared_is e f count inside.0 (equal count (omega arith)) stop)
