-- Two lists of letters compared pair by pair.
use Rattle.std.proofs.Common.{◌≡◌, refl, ℕ, List, [], ◌∷◌, length, arith}
use Rattle.std.specs.Prelude.{◌==◌}
use Rattle.std.specs.List.{list_all, zip}
use Rattle.paper.specs.Groups.{same}

pub zip_same : (xs ys : List ℕ) → length xs ≡ length ys → list_all (λ (p : ℕ × ℕ). p.0 == p.1) (zip xs ys) ≡ same xs ys
unfolding same
zip_same [] [] e = refl
zip_same [] (y ∷ ys) e = absurd (omega arith)
zip_same (x ∷ xs) [] e = absurd (omega arith)
zip_same (x ∷ xs) (y ∷ ys) e = rw (zip_same xs ys (omega arith))
