-- The node count by looking back: a rule brings as many nodes as its ending is longer than the longest tail that it shares
-- with an earlier ending of its group.
use Rattle.std.specs.Prelude.{ℕ, suc, ◌+◌, ◌-◌, ◌≤◌, ◌<◌, max, ◌≡◌, refl, Bool, true, false, cond, ◌||◌, List, [], ◌∷◌, ◌++◌, length}
use Rattle.std.proofs.Common.{sym, ap, ◌∙◌, append_assoc, arith}
use Rattle.std.proofs.lemmas.Bool.{false≢true}
use Rattle.std.proofs.Math.Bool.{or-true, or-false, or_comm}
use Rattle.paper.specs.Groups.{Rule, same}
use Rattle.paper.specs.Nodes.{tails, tails_of, member, distinct}
use Rattle.paper.specs.MemberLaws.{member-append, Alike, swapped, distinct_alike, Closed, closed_rules}
use Rattle.paper.specs.TestLaws.{or_cases}
use Rattle.paper.specs.GroupsLaws.{same_equal, same_itself, differ_same}

-- how long the longest tail of an ending is that stands among these
unfoldable pub shared : List ℕ → List (List ℕ) → ℕ
shared [] seen = 0
shared (letter ∷ letters) seen = cond (member (letter ∷ letters) seen) (suc (length letters)) (shared letters seen)

-- a longer list is another
same_longer : (xs ys : List ℕ) → length xs < length ys → same xs ys ≡ false
same_longer xs ys less = differ_same xs ys (λ e. let long = ap length e in omega arith)

-- ## Tails that were seen
-- all of these are members of those
abbrev Within : List (List ℕ) → List (List ℕ) → Type 0
Within xs ys = (t : List ℕ) → member t xs ≡ true → member t ys ≡ true

known_none : (ts seen more : List (List ℕ)) → Within ts seen → distinct seen (ts ++ more) ≡ distinct seen more
unfolding distinct member
known_none [] seen more all = refl
known_none (t ∷ ts) seen more all =
    let here : member t seen ≡ true = all t (simp (same_itself t)) in
    rw here (known_none ts seen more (λ u is. all u (rw is (or-true (same u t)))))

absorbed : (ts seen : List (List ℕ)) → Within ts seen → Alike (ts ++ seen) seen
absorbed ts seen all t = member-append t ts seen ∙ by (member t ts) refl
  where
    by : (b : Bool) → member t ts ≡ b → member t ts || member t seen ≡ member t seen
    by true is = rw (is, all t is) refl
    by false is = rw is refl

tails_known : (seen : List (List ℕ)) → Closed seen → (t : List ℕ) (x : ℕ) → member (x ∷ t) seen ≡ true → Within (tails (x ∷ t)) seen
unfolding tails member
tails_known seen closed [] x is u among =
    or_cases (same u (x ∷ [])) false among (λ eq. rw (same_equal u (x ∷ []) eq) is) (λ none. absurd (false≢true none))
tails_known seen closed (y ∷ t) x is u among =
    or_cases (same u (x ∷ y ∷ t)) (member u (tails (y ∷ t))) among (λ eq. rw (same_equal u (x ∷ y ∷ t) eq) is)
    (tails_known seen closed t y (closed x y t is) u)

-- ## The longest shared tail
at_most : (b : Bool) (n k : ℕ) → k ≤ n → cond b (suc n) k ≤ suc n
at_most true n k less = omega arith
at_most false n k less = omega arith

pub shared_at_most : (e : List ℕ) (seen : List (List ℕ)) → shared e seen ≤ length e
unfolding shared
shared_at_most [] seen = omega arith
shared_at_most (x ∷ e) seen = at_most (member (x ∷ e) seen) (length e) (shared e seen) (shared_at_most e seen)

-- the longest of two
longer_of : (a b : Bool) (n k l both : ℕ) → both ≡ max k l → k ≤ n → l ≤ n
    → cond (a || b) (suc n) both ≡ max (cond a (suc n) k) (cond b (suc n) l)
longer_of true true n k l both is first second = omega arith
longer_of true false n k l both is first second = omega arith
longer_of false true n k l both is first second = omega arith
longer_of false false n k l both is first second = is

pub shared-append : (e : List ℕ) (xs ys : List (List ℕ)) → shared e (xs ++ ys) ≡ max (shared e xs) (shared e ys)
unfolding shared
shared-append [] xs ys = refl
shared-append (x ∷ e) xs ys =
    rw (member-append (x ∷ e) xs ys)
    (longer_of (member (x ∷ e) xs) (member (x ∷ e) ys) (length e) (shared e xs) (shared e ys) (shared e (xs ++ ys))
    (shared-append e xs ys)
    (shared_at_most e xs)
    (shared_at_most e ys))

-- ## The law
-- none of these is as short as n letters
abbrev Longer : ℕ → List (List ℕ) → Type 0
Longer n ts = (t : List ℕ) → length t ≤ n → member t ts ≡ false

new : (seen : List (List ℕ)) (t : List ℕ) (more : List (List ℕ)) → member t seen ≡ false
    → distinct seen (t ∷ more) ≡ suc (distinct (t ∷ seen) more)
unfolding distinct
new seen t more is = rw is refl

tails_of_append : (xs ys : List Rule) → tails_of (xs ++ ys) ≡ tails_of xs ++ tails_of ys
unfolding tails_of
tails_of_append [] ys = refl
tails_of_append (x ∷ xs) ys = rw (tails_of_append xs ys) (sym (append_assoc (tails x.ending) (tails_of xs) (tails_of ys)))

appended : (earlier : List Rule) (rule : Rule) → Alike (tails rule.ending ++ tails_of earlier) (tails_of (earlier ++ (rule ∷ [])))
unfolding tails_of member
appended earlier rule t =
    rw (
      tails_of_append earlier (rule ∷ []),
      member-append t (tails rule.ending) (tails_of earlier),
      member-append t
          (tails_of earlier) (tails_of (rule ∷ [])),
      member-append t (tails rule.ending) [],
    )
    (rw (or-false (member t (tails rule.ending))) (or_comm (member t (tails rule.ending)) (member t (tails_of earlier))))

-- an ending's tails, beside those seen: `longer` has been seen too, and bears on none of them
fresh : (e : List ℕ) (longer seen more : List (List ℕ)) → Closed seen → Longer (length e) longer
    → distinct (longer ++ seen) (tails e ++ more) ≡ length e - shared e seen + distinct (tails e ++ (longer ++ seen)) more
unfolding tails shared member
fresh [] longer seen more closed none = omega arith
fresh (x ∷ e) longer seen more closed none =
    by (member (x ∷ e) seen) refl
    (λ is. fresh e ((x ∷ e) ∷ longer) seen more closed (λ t short. rw (same_longer t (x ∷ e) (omega arith), none t (omega arith)) refl))
  where
    here : member (x ∷ e) (longer ++ seen) ≡ member (x ∷ e) seen
    here = member-append (x ∷ e) longer seen ∙ rw (none (x ∷ e) (omega arith)) refl

    among : member (x ∷ e) seen ≡ true → Within (tails (x ∷ e)) (longer ++ seen)
    among is t in-tails =
        member-append t longer seen ∙ rw (tails_known seen closed e x is t in-tails) (or-true (member t longer))

    by : (b : Bool) → member (x ∷ e) seen ≡ b
        → (member (x ∷ e) seen ≡ false
        → distinct ((x ∷ e) ∷ longer ++ seen) (tails e ++ more)
        ≡ length e - shared e seen + distinct (tails e ++ ((x ∷ e) ∷ longer ++ seen)) more)
        → distinct (longer ++ seen) (tails (x ∷ e) ++ more)
        ≡ suc (length e) - shared (x ∷ e) seen + distinct (tails (x ∷ e) ++ (longer ++ seen)) more
    by true is further =
        let none-new = known_none (tails (x ∷ e)) (longer ++ seen) more (among is) in
        let all = longer ++ seen in
        let alike = distinct_alike (tails (x ∷ e) ++ all) all (absorbed (tails (x ∷ e)) all (among is)) more in
        rw is (omega arith)
    by false is further =
        let new-one = new (longer ++ seen) (x ∷ e) (tails e ++ more) (here ∙ is) in
        let rest = further is in
        let short = shared_at_most e seen in
        let alike = distinct_alike (tails e ++ ((x ∷ e) ∷ longer ++ seen)) ((x ∷ e) ∷ (tails e ++
        (longer ++ seen))) (swapped (x ∷ e) (tails e) (longer ++ seen)) more in
        rw is (omega arith)

-- a rule after these, and its tails beside theirs
pub look_back : (earlier : List Rule) (rule : Rule) (more : List (List ℕ))
    → distinct (tails_of earlier) (tails rule.ending ++ more)
    ≡ length rule.ending - shared rule.ending (tails_of earlier) + distinct (tails_of (earlier ++ (rule ∷ []))) more
unfolding member
look_back earlier rule more =
    let e = rule.ending in
    let alike = distinct_alike (tails e ++ tails_of earlier) (tails_of (earlier ++ (rule ∷ []))) (appended earlier rule) more in
    let law = fresh e [] (tails_of earlier) more (closed_rules earlier) (λ t short. refl) in
    omega arith
