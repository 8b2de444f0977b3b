-- Laws of the tails that stand among others, and of how many of them are distinct.
use Rattle.std.specs.Prelude.{ℕ, ◌≡◌, refl, Bool, true, ◌||◌, List, [], ◌∷◌, ◌++◌}
use Rattle.std.proofs.Common.{sym, ◌∙◌}
use Rattle.std.proofs.lemmas.Bool.{false≢true}
use Rattle.std.proofs.Math.Bool.{or_assoc, or_comm}
use Rattle.paper.specs.Groups.{Rule, same}
use Rattle.paper.specs.TestLaws.{or_left, or_right, or_cases}
use Rattle.paper.specs.GroupsLaws.{same_equal, same_itself}
use Rattle.paper.specs.Nodes.{tails, tails_of, member, distinct}

-- ## In any list of tails
pub member-append : (t : List ℕ) (xs ys : List (List ℕ)) → member t (xs ++ ys) ≡ (member t xs || member t ys)
unfolding member
member-append t [] ys = refl
member-append t (x ∷ xs) ys = rw (member-append t xs ys, or_assoc)

-- two lists have the same members
abbrev pub Alike : List (List ℕ) → List (List ℕ) → Type 0
Alike xs ys = (t : List ℕ) → member t xs ≡ member t ys

-- it does not matter where in a list a tail stands
pub swapped : (e : List ℕ) (ts seen : List (List ℕ)) → Alike (ts ++ e ∷ seen) (e ∷ ts ++ seen)
unfolding member
swapped e ts seen t =
    member-append t ts (e ∷ seen) ∙ (swap (member t ts) (same t e) (member t seen) ∙ rw (member-append t ts seen))
  where
    swap : (a b c : Bool) → (a || (b || c)) ≡ (b || (a || c))
    swap a b c = sym (or_assoc a b c) ∙ rw (or_comm a b) (or_assoc b a c)

-- how many tails are distinct beside those seen depends on the members of these alone
pub distinct_alike : (xs ys : List (List ℕ)) → Alike xs ys → (more : List (List ℕ)) → distinct xs more ≡ distinct ys more
unfolding distinct member
distinct_alike xs ys alike [] = refl
distinct_alike xs ys alike (t ∷ more) =
    let known = distinct_alike xs ys alike more in
    let new = distinct_alike (t ∷ xs) (t ∷ ys) (λ u. rw (alike u)) more in
    rw (alike t, known, new)

-- ## In the tails of endings
-- an ending is one of its tails
pub member_self : (letter : ℕ) (parent : List ℕ) → member (letter ∷ parent) (tails (letter ∷ parent)) ≡ true
unfolding member tails
member_self letter parent = or_left (same (letter ∷ parent) (letter ∷ parent)) (member (letter ∷ parent) (tails parent))
    (same_itself (letter ∷ parent))

-- where a tail stands among these, its own tails do
abbrev pub Closed : List (List ℕ) → Type 0
Closed seen = (x y : ℕ) (t : List ℕ) → member (x ∷ y ∷ t) seen ≡ true → member (y ∷ t) seen ≡ true

closed-tails : (f : List ℕ) → Closed (tails f)
unfolding tails member
closed-tails [] x y t is = absurd (false≢true is)
closed-tails (a ∷ f) x y t is =
    let here = same (y ∷ t) (a ∷ f) in
    or_cases (same (x ∷ y ∷ t) (a ∷ f)) (member (x ∷ y ∷ t) (tails f)) is
    (λ eq.
    let whole = same_equal (x ∷ y ∷ t) (a ∷ f) eq in
    let rest : f ≡ y ∷ t = cc in
    or_right here (member (y ∷ t) (tails f)) (rw rest (member_self y t)))
    (λ further. or_right here (member (y ∷ t) (tails f)) (closed-tails f x y t further))

closed-append : (xs ys : List (List ℕ)) → Closed xs → Closed ys → Closed (xs ++ ys)
closed-append xs ys one other x y t is =
    member-append (y ∷ t) xs ys
    ∙ or_cases (member (x ∷ y ∷ t) xs) (member (x ∷ y ∷ t) ys) (sym (member-append (x ∷ y ∷ t) xs ys) ∙ is)
    (λ first. or_left (member (y ∷ t) xs) (member (y ∷ t) ys) (one x y t first))
    (λ second. or_right (member (y ∷ t) xs) (member (y ∷ t) ys) (other x y t second))

pub closed_rules : (rules : List Rule) → Closed (tails_of rules)
unfolding tails_of member
closed_rules [] x y t is = absurd (false≢true is)
closed_rules (rule ∷ rules) x y t is =
    closed-append (tails rule.ending) (tails_of rules) (closed-tails rule.ending) (closed_rules rules) x y t is
