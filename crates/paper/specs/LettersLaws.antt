-- Letters from the last inward, as a forward scan meets them: one letter more, and a letter by its place from the front.
use Rattle.std.specs.Prelude.{ℕ, suc, ◌-◌, ◌<◌, ◌≡◌, refl, length, get_or}
use Rattle.std.proofs.Common.{not-suc-le-zero, arith}
use Rattle.std.proofs.Math.Decide.{dec_lt}
use mathlib.Core.List.{List, [], ◌∷◌, ◌++◌, reverse, reverse-append, reverse-cons}
use Rattle.std.proofs.lemmas.List.{length-reverse}
use Rattle.std.proofs.Math.ListN.{get_or-append}
use Rattle.std.proofs.Math.Seq.{get_or-append_seam}
use Rattle.paper.specs.Letters.{inward, letter_at}

pub inward_more : (part : List ℕ) (letter : ℕ) → inward (part ++ letter ∷ []) ≡ letter ∷ inward part
unfolding inward
inward_more part letter = reverse-append part (letter ∷ [])

-- where there is no letter
pub letter_at_none : (part : List ℕ) → length part ≡ 0 → letter_at 0 part ≡ 0
unfolding letter_at inward
letter_at_none [] none_there = refl
letter_at_none (letter ∷ part) none_there = absurd (omega arith)

-- a letter by its place from the front
pub letter_at_index : (part : List ℕ) (k : ℕ) → k < length part → letter_at k part ≡ get_or part (length part - 1 - k) 0
unfolding letter_at inward
letter_at_index [] k h = absurd (not-suc-le-zero h)
letter_at_index (letter ∷ part) k h = rw reverse-cons (go (letter_at_index part k) (dec_lt k (length part)))
  where
    go :
        (k < length part → get_or (reverse part) k 0 ≡ get_or part (length part - 1 - k) 0)
        → Dec (k < length part)
        → get_or (reverse part ++ letter ∷ []) k 0 ≡ get_or (letter ∷ part) (suc (length part) - 1 - k) 0
    go inner (yes below) =
        let i : suc (length part) - 1 - k ≡ suc (length part - 1 - k) = omega arith in
        rw (i, get_or-append (reverse part) (letter ∷ []) 0 k (rw length-reverse below)) (inner below)
    go inner (no above) =
        let i : suc (length part) - 1 - k ≡ 0 = omega arith in
        let e : k ≡ length (reverse part) = rw length-reverse (omega arith) in
        rw (i, e) (get_or-append_seam (reverse part) letter [] 0)
