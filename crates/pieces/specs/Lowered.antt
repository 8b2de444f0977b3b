-- Letters made small are small letters, and small letters stay what they are.
use Rattle.std.specs.Prelude.{ℕ, ◌+◌, ◌≤◌, ◌≡◌, refl, Bool, true, false, cond, ◌||◌, List, [], ◌∷◌, map, leb}
use Rattle.std.proofs.Common.{sym, ◌∙◌, arith, leb-true, le-leb}
use Rattle.std.proofs.Math.Bool.{and-true, and-false}
use Rattle.std.proofs.lemmas.Bool.{lt-leb}
use Rattle.paper.specs.Words.{small, all_small}
use Rattle.pieces.specs.Pieces.{capital, is_letter, lowered}
use Rattle.pieces.specs.LongestRuns.{all_letters}
use Rattle.paper.specs.TestLaws.{and_left, and_right, and_parts, and_both, or_cases}

or_first : (a b : Bool) → b ≡ false → (a || b) ≡ true → a ≡ true
or_first true b none some = refl
or_first false b none some = sym none ∙ some

pub lowered_small : (byte : ℕ) → is_letter byte ≡ true → small (lowered byte) ≡ true
unfolding is_letter lowered
lowered_small byte letter = go (capital byte) refl
  where
    go : (test : Bool) → capital byte ≡ test → small (cond test (byte + 32) byte) ≡ true
    go true is =
        let low : 65 ≤ byte = leb-true 65 byte (and_left (leb 65 byte) (leb byte 90) is) in
        let high : byte ≤ 90 = leb-true byte 90 (and_right (leb 65 byte) (leb byte 90) is) in
        rw (le-leb 97 (byte + 32) (omega arith), le-leb (byte + 32) 122 (omega arith))
    go false is = or_first (small byte) (capital byte) is letter

pub all_lowered : (letters : List ℕ) → all_letters letters ≡ true → all_small (map lowered letters) ≡ true
unfolding all_letters all_small
all_lowered [] all = refl
all_lowered (byte ∷ letters) all =
    let both = and_parts (is_letter byte) (all_letters letters) all in
    and_both (lowered_small byte both.0) (all_lowered letters both.1)

-- a letter is small exactly if it does not stand before a
pub small_letter : (byte : ℕ) → is_letter byte ≡ true → small byte ≡ leb 97 byte
unfolding is_letter
small_letter byte letter =
    let high : leb byte 122 ≡ true =
    or_cases (small byte) (capital byte) letter
    (and_right (leb 97 byte) (leb byte 122))
    (λ is. le-leb byte 122 (omega (arith, leb-true byte 90 (and_right (leb 65 byte) (leb byte 90) is))))
    in
    rw (high, and-true)

small_stays : (byte : ℕ) → small byte ≡ true → lowered byte ≡ byte
unfolding lowered
small_stays byte is =
    let low : 97 ≤ byte = leb-true 97 byte (and_left (leb 97 byte) (leb byte 122) is) in
    rw (lt-leb byte 90 (omega arith), and-false)

pub all_stay : (letters : List ℕ) → all_small letters ≡ true → map lowered letters ≡ letters
unfolding all_small
all_stay [] all = refl
all_stay (byte ∷ letters) all =
    let both = and_parts (small byte) (all_small letters) all in
    rw (small_stays byte both.0, all_stay letters both.1)
