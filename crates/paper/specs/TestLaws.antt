-- Laws of the Boolean tests that the definitions are made of.
use Rattle.std.specs.Prelude.{ℕ, ◌≡◌, refl, Bool, true, false, ◌&&◌, ◌||◌}
use Rattle.std.proofs.Common.{arith, sym, true≢false}
use Rattle.std.proofs.Math.Bool.{or-true}
use Rattle.std.proofs.lemmas.Bool.{false≢true}

-- two constructors are never equal: what would follow from that is anything. `apart (cc)` says so where `cc` sees them equal
pub apart : {P : Type 0} → ◌≡◌ {A = ℕ} 0 1 → P
apart equal = absurd (omega arith)

-- 1 where a test holds
abbrev pub one_if : Bool → ℕ
one_if true = 1
one_if false = 0

-- one of two cases
pub by_test {ℓ} : {C : Type ℓ} (b : Bool) → (b ≡ true → C) → (b ≡ false → C) → C
by_test true f g = f refl
by_test false f g = g refl

-- two tests that both hold
pub and_left : (a b : Bool) → (a && b) ≡ true → a ≡ true
and_left true b e = refl
and_left false b e = e

pub and_right : (a b : Bool) → (a && b) ≡ true → b ≡ true
and_right true b e = e
and_right false b e = absurd (false≢true e)

pub and_parts : (a b : Bool) → (a && b) ≡ true → (a ≡ true) × (b ≡ true)
and_parts a b e = (and_left a b e, and_right a b e)

pub and_both : {a b : Bool} → a ≡ true → b ≡ true → (a && b) ≡ true
and_both p q = rw (p, q)

-- six that all hold
pub all_of_six : (a b c d e f : Bool) → a && b && c && d && e && f ≡ true
    → (a ≡ true) × (b ≡ true) × (c ≡ true) × (d ≡ true) × (e ≡ true) × (f ≡ true)
all_of_six true true true true true f h = (refl, refl, refl, refl, refl, h)
all_of_six true true true true false f h = absurd (false≢true h)
all_of_six true true true false e f h = absurd (false≢true h)
all_of_six true true false d e f h = absurd (false≢true h)
all_of_six true false c d e f h = absurd (false≢true h)
all_of_six false b c d e f h = absurd (false≢true h)

-- two tests of which one holds, and of which neither does
pub or_left : (a b : Bool) → a ≡ true → (a || b) ≡ true
or_left a b e = rw e

pub or_right : (a b : Bool) → b ≡ true → (a || b) ≡ true
or_right a b e = rw (e, or-true)

pub or_cases {ℓ} : {C : Type ℓ} (a b : Bool) → (a || b) ≡ true → (a ≡ true → C) → (b ≡ true → C) → C
or_cases true b e f g = f refl
or_cases false b e f g = g e

pub neither_left : (a b : Bool) → (a || b) ≡ false → a ≡ false
neither_left true b e = absurd (true≢false e)
neither_left false b e = refl

pub neither_right : (a b : Bool) → (a || b) ≡ false → b ≡ false
neither_right true b e = absurd (true≢false e)
neither_right false b e = e

-- three, and six, of which none holds
pub none_of_three : (a b c : Bool) → a || b || c ≡ false → (a ≡ false) × (b ≡ false) × (c ≡ false)
none_of_three true b c h = absurd (true≢false h)
none_of_three false true c h = absurd (true≢false h)
none_of_three false false c h = (refl, refl, h)

pub none_of_six : (a b c d e f : Bool) → a || b || c || d || e || f ≡ false
    → (a ≡ false) × (b ≡ false) × (c ≡ false) × (d ≡ false) × (e ≡ false) × (f ≡ false)
none_of_six true b c d e f h = absurd (true≢false h)
none_of_six false true c d e f h = absurd (true≢false h)
none_of_six false false true d e f h = absurd (true≢false h)
none_of_six false false false true e f h = absurd (true≢false h)
none_of_six false false false false true f h = absurd (true≢false h)
none_of_six false false false false false f h = (refl, refl, refl, refl, refl, h)

-- two tests that hold together are the same
pub test_ext : (a b : Bool) → (a ≡ true → b ≡ true) → (b ≡ true → a ≡ true) → a ≡ b
test_ext true true f g = refl
test_ext true false f g = sym (f refl)
test_ext false true f g = g refl
test_ext false false f g = refl
