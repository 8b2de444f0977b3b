-- Laws of any lists.
use Rattle.std.specs.Prelude.{ℕ, zero, suc, ◌+◌, ◌-◌, ◌≡◌, refl, List, [], ◌∷◌, length, take, drop}
use Rattle.std.proofs.Common.{◌∙◌, arith, length-drop, take_all}
use Rattle.std.proofs.Math.Nat.{sub-zero, zero-sub, suc-sub-suc}
use Rattle.std.proofs.Math.Seq.{drop-nil, take-nil}

-- a list of no elements is the empty list
pub empty : {A : Type 0} (l : List A) → length l ≡ 0 → l ≡ []
empty [] none = refl
empty (x ∷ l) none = absurd (omega arith)

-- the first elements, less some
pub drop-take : {A : Type 0} (n m : ℕ) (list : List A) → drop n (take m list) ≡ take (m - n) (drop n list)
drop-take zero m list = rw sub-zero
drop-take (suc n) zero list = rw (drop-nil, zero-sub)
drop-take (suc n) (suc m) [] = rw take-nil
drop-take (suc n) (suc m) (x ∷ list) = drop-take n m list ∙ rw suc-sub-suc

-- a part that goes to the end
pub to_the_end : {A : Type 0} (list : List A) (at : ℕ) → take (length list - at) (drop at list) ≡ drop at list
to_the_end list at = take_all (length list - at) (drop at list) (omega (arith, length-drop at list))

-- how many stand in a part, by its two ends
pub so_many : (from count : ℕ) → from + count - from ≡ count
so_many from count = omega arith
