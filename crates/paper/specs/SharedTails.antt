-- How long the longest tail is that two endings share, found from the last letter inward.
use Rattle.std.specs.Prelude.{ℕ, zero, suc, ◌+◌, ◌-◌, ◌≤◌, ◌<◌, ◌≡◌, refl, Bool, true, false, List, [], ◌∷◌, leb, length, get_or, drop}
use Rattle.std.proofs.Common.{sym, ap, ◌∙◌, arith, leb-true, leb-false, length-drop, get_or-drop}
use Rattle.std.proofs.lemmas.Bool.{false≢true}
use Rattle.std.proofs.Math.Bool.{or-true}
use Rattle.paper.specs.Groups.{same}
use Rattle.paper.specs.Nodes.{tails, member}
use Rattle.paper.specs.LookBack.{shared, shared_at_most}
use Rattle.paper.specs.GroupsLaws.{same_equal, same_itself}

-- what stands from a place on is one of the tails
tail_member : (f : List ℕ) (j x : ℕ) (t : List ℕ) → drop j f ≡ x ∷ t → member (x ∷ t) (tails f) ≡ true
unfolding member tails
tail_member [] zero x t is = let no_letter = ap length is in absurd (omega arith)
tail_member [] (suc j) x t is = let no_letter = ap length is in absurd (omega arith)
tail_member (y ∷ f) zero x t is = rw is (simp (same_itself (x ∷ t)))
tail_member (y ∷ f) (suc j) x t is = rw (tail_member f j x t is) (or-true (same (x ∷ t) (y ∷ f)))

-- and each tail is what stands from some place on
tail_place : (f e : List ℕ) → member e (tails f) ≡ true → (j : ℕ) × (drop j f ≡ e)
unfolding member tails
tail_place [] e is = absurd (false≢true is)
tail_place (y ∷ f) e is = by (same e (y ∷ f)) refl (tail_place f e)
  where
    by : (b : Bool) → same e (y ∷ f) ≡ b → (member e (tails f) ≡ true → (j : ℕ) × (drop j f ≡ e)) → (j : ℕ) × (drop j (y ∷ f) ≡ e)
    by true eq further = (0, sym (same_equal e (y ∷ f) eq))
    by false eq further = let found = further (simp eq at is) in (suc found.0, found.1)

-- letters at the same place from the end are equal in a tail
tail_letter : (f e : List ℕ) (j k : ℕ) → drop j f ≡ e → k < length e
    → get_or e (length e - 1 - k) 0 ≡ get_or f (length f - 1 - k) 0
tail_letter f e j k is inside =
    let long : length f - j ≡ length e = sym (length-drop j f) ∙ ap length is in
    let place : j + (length e - 1 - k) ≡ length f - 1 - k = omega arith in
    ap (λ (l : List ℕ). get_or l (length e - 1 - k) 0) (sym is)
    ∙ (get_or-drop j f (length e - 1 - k) 0 ∙ ap (λ (i : ℕ). get_or f i 0) place)

drop_as : (n m : ℕ) (l : List ℕ) → n ≡ m → drop n l ≡ drop m l
drop_as n m l is = ap (λ (i : ℕ). drop i l) is

-- the last k letters are equal
abbrev pub Equal : List ℕ → List ℕ → ℕ → Type 0
Equal e f k = drop (length e - k) e ≡ drop (length f - k) f

-- the letters before the last k are not, or one of the two has no more
abbrev pub Stop : List ℕ → List ℕ → ℕ → Type 0
Stop e f k = k < length e → k < length f → get_or e (length e - 1 - k) 0 ≡ get_or f (length f - 1 - k) 0 → ⊥

module _ (x : ℕ) (e f : List ℕ) (k : ℕ) where
  not_whole : Stop (x ∷ e) f k → k ≤ length e → (b : Bool) → member (x ∷ e) (tails f) ≡ b → member (x ∷ e) (tails f) ≡ false
  not_whole stop less true is =
      let found = tail_place f (x ∷ e) is in
      let long : length f - found.0 ≡ suc (length e) = sym (length-drop found.0 f) ∙ ap length found.1 in
      absurd (stop (omega arith) (omega arith) (tail_letter f (x ∷ e) found.0 k found.1 (omega arith)))
  not_whole stop less false is = is

  whole : k ≡ suc (length e) → Equal (x ∷ e) f k → member (x ∷ e) (tails f) ≡ true
  whole is equal =
      tail_member f (length f - k) x e (sym equal ∙ drop_as (suc (length e) - k) 0 (x ∷ e) (omega arith))

  inner_equal : k ≤ length e → Equal (x ∷ e) f k → Equal e f k
  inner_equal less equal = sym (drop_as (suc (length e) - k) (suc (length e - k)) (x ∷ e) (omega arith)) ∙ equal

  inner_stop : Stop (x ∷ e) f k → Stop e f k
  inner_stop stop less other equal =
      let place : suc (length e) - 1 - k ≡ suc (length e - 1 - k) = omega arith in
      stop (omega arith) other (ap (λ (i : ℕ). get_or (x ∷ e) i 0) place ∙ equal)

pub shared_is : (e f : List ℕ) (k : ℕ) → k ≤ length e → Equal e f k → Stop e f k → shared e (tails f) ≡ k
unfolding shared
shared_is [] f k short equal stop = omega arith
shared_is (x ∷ e) f k short equal stop = by (leb k (length e)) refl (shared_is e f k)
  where
    by : (b : Bool) → leb k (length e) ≡ b → (k ≤ length e → Equal e f k → Stop e f k → shared e (tails f) ≡ k)
        → shared (x ∷ e) (tails f) ≡ k
    by true is further =
        let less = leb-true k (length e) is in
        rw (not_whole x e f k stop less (member (x ∷ e) (tails f)) refl)
        (further less (inner_equal x e f k less equal) (inner_stop x e f k stop))
    by false is further =
        let more = leb-false k (length e) is in
        rw (whole x e f k (omega arith) equal) (omega arith)

-- ## No longer tail is shared where the letters before the last k differ
-- in the shared tail the letters are equal
SameLetter : List ℕ → List ℕ → ℕ → Type 0
SameLetter e f k = (k < length f) × (get_or e (length e - 1 - k) 0 ≡ get_or f (length f - 1 - k) 0)

shared_letter : (e f : List ℕ) (k : ℕ) → k < shared e (tails f) → SameLetter e f k
unfolding shared SameLetter
shared_letter [] f k less = absurd (omega arith)
shared_letter (x ∷ e) f k less = by (member (x ∷ e) (tails f)) refl (shared_letter e f k)
  where
    by : (b : Bool) → member (x ∷ e) (tails f) ≡ b → (k < shared e (tails f) → SameLetter e f k) → SameLetter (x ∷ e) f k
    by true is further =
        let all : k < suc (length e) = rw is at less in
        let found = tail_place f (x ∷ e) is in
        let long : length f - found.0 ≡ suc (length e) = sym (length-drop found.0 f) ∙ ap length found.1 in
        (omega arith, tail_letter f (x ∷ e) found.0 k found.1 all)
    by false is further =
        let inner : k < shared e (tails f) = rw is at less in
        let most = shared_at_most e (tails f) in
        let place : suc (length e) - 1 - k ≡ suc (length e - 1 - k) = omega arith in
        ((further inner).0, ap (λ (i : ℕ). get_or (x ∷ e) i 0) place ∙ (further inner).1)

pub shared-below : (e f : List ℕ) (k : ℕ) → Stop e f k → shared e (tails f) ≤ k
unfolding SameLetter
shared-below e f k stop = by (leb (shared e (tails f)) k) refl
  where
    by : (b : Bool) → leb (shared e (tails f)) k ≡ b → shared e (tails f) ≤ k
    by true is = leb-true (shared e (tails f)) k is
    by false is =
        let more = leb-false (shared e (tails f)) k is in
        let most = shared_at_most e (tails f) in
        let letter = shared_letter e f k more in
        absurd (stop (omega arith) letter.0 letter.1)
