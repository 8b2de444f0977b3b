-- The bit of 32 in a byte: with it a letter is small. Shown by one computed test over all 256 bytes.
use Rattle.std.specs.Prelude.{ℕ, zero, suc, ◌<◌, ◌≡◌, refl, Bool, true, false, not, ◌&&◌, ◌||◌, eqb}
use Rattle.std.proofs.Common.{ap, ◌∙◌, arith, eqb-true}
use Rattle.std.specs.Int.Bits.{bit_or}
use Rattle.std.proofs.lemmas.Bool.{eqb-false}
use Rattle.pieces.specs.Pieces.{is_letter, lowered}
use Rattle.paper.specs.TestLaws.{and_left, and_right}

-- a test of every number below a bound

every : (ℕ → Bool) → ℕ → Bool
every test zero = true
every test (suc n) = test n && every test n

every_at : (test : ℕ → Bool) (n : ℕ) → every test n ≡ true → (k : ℕ) → k < n → test k ≡ true
unfolding every
every_at test zero all k below = absurd (omega arith)
every_at test (suc n) all k below = go (every_at test n (and_right (test n) (every test n) all) k) (eqb k n) refl
  where
    go : (k < n → test k ≡ true) → (same : Bool) → eqb k n ≡ same → test k ≡ true
    go shorter true same = ap test (eqb-true k n same) ∙ and_left (test n) (every test n) all
    go shorter false other = shorter (omega (arith, eqb-false k n other))

-- a letter with the bit is the letter made small
right : ℕ → Bool
right byte = not (is_letter byte) || eqb (bit_or byte 32) (lowered byte)

all_right : every right 256 ≡ true
unfolding every right is_letter lowered
all_right = refl

pub small_by_bit : (byte : ℕ) → byte < 256 → is_letter byte ≡ true → bit_or byte 32 ≡ lowered byte
unfolding right
small_by_bit byte below letter = eqb-true (bit_or byte 32) (lowered byte) (rw letter at (every_at right 256 all_right byte below))
