-- Letters that rise, one after another as a loop takes them, and as the laws of forests say it.
use Rattle.std.specs.Prelude.{ℕ, suc, ◌+◌, ◌-◌, ◌≤◌, ◌≡◌, List}
use Rattle.std.proofs.Common.{arith}
use Rattle.forests.specs.Forest.{Rising}
use Rattle.forests.specs.Shapes.{Rises}

module _ (table : List ℕ) (first end : ℕ) where
  pub rises-start : end ≤ first + 1 → Rises table first end
  rises-start h k after more = absurd (omega arith)

module _ (table : List ℕ) (first count : ℕ) where
  pub rises_from : Rising table first count → Rises table first (first + count)
  rises_from rising k after more =
      let here : first + (k - first) ≡ k = omega arith in
      let next : first + suc (k - first) ≡ suc k = omega arith in
      rw (here, next) at (rising (k - first) (omega arith))

  pub rising_from : Rises table first (first + count) → Rising table first count
  rising_from rises k more =
      let next : first + suc k ≡ suc (first + k) = omega arith in
      rw next (rises (first + k) (omega arith) (omega arith))
