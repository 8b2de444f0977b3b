-- The loop that looks for the first byte outside a to z: what is left to find lies in the bytes not passed yet.
use Rattle.std.specs.Prelude.{ℕ, ◌+◌, ◌≤◌, ◌<◌, ◌≡◌, true, List, leb, length, drop, get_or}
use Rattle.std.proofs.Common.{add-one, le-leb, drop_of_length-le}
use native.Mathlib.Omega.{arith}
use Rattle.std.proofs.Math.Path.{ap}
use Rattle.std.proofs.Math.Bool.{and-false}
use Rattle.std.proofs.lemmas.Bool.{lt-leb}
use Rattle.paper.specs.Words.{small, first_other}
use Rattle.paper.specs.WordsLaws.{other_here, other_later}

-- at the loop's head: none of the first i bytes is outside a to z
abbrev pub Sought : List ℕ → ℕ → Type 0
Sought word i = first_other word ≡ i + first_other (drop i word)

module _ (word : List ℕ) (i : ℕ) (sought : Sought word i) where
  pub below-found : i < length word → get_or word i 0 < 97 → i ≡ first_other word
  below-found inside below =
      let here = other_here word i inside (rw (lt-leb 97 (get_or word i 0) below)) in
      omega arith

  pub above_found : i < length word → 122 < get_or word i 0 → i ≡ first_other word
  above_found inside above =
      let here = other_here word i inside (rw (lt-leb (get_or word i 0) 122 above) (and-false (leb 97 (get_or word i 0)))) in
      omega arith

  pub sought_more : i < length word → 97 ≤ get_or word i 0 → get_or word i 0 ≤ 122 → Sought word (i + 1)
  sought_more inside low high =
      let letter : small (get_or word i 0) ≡ true = rw (le-leb 97 (get_or word i 0) low, le-leb (get_or word i 0) 122 high) in
      let later = other_later word i inside letter in
      rw add-one (omega arith)

  pub none_found : length word ≤ i → i ≡ first_other word
  unfolding first_other
  none_found end =
      let all : first_other (drop i word) ≡ 0 = ap first_other (drop_of_length-le word end) in
      omega arith
