-- The rule that a walk obeys, found by going through the group's rules in sheet order.
use Rattle.std.specs.Prelude.{ℕ, suc, ◌-◌, ◌≡◌, Bool, cond, ◌&&◌, List, [], ◌∷◌, eqb, leb, drop}
use Rattle.std.proofs.Common.{ap, arith, leb-true, leb-false}
use Rattle.std.proofs.Math.Option.{Option, none, some}
use Rattle.std.proofs.Math.Seq.{drop-nil}
use Rattle.paper.specs.Letters.{inward}
use Rattle.paper.specs.Conditions.{holds}
use Rattle.paper.specs.Groups.{Rule, before, which, first}
use Rattle.walks.specs.Walk.{Nodes, deepest, reached, held, walked}
use Rattle.paper.specs.TestLaws.{by_test}

-- the first rule from number `found` on that passes both tests, rules being counted from `k`
unfoldable pub pick : (Rule → Bool) → (Rule → Bool) → ℕ → ℕ → List Rule → Option Rule
pick own good found k [] = none
pick own good found k (rule ∷ rules) =
    cond (leb found k && (own rule && good rule)) (some rule) (pick own good found (suc k) rules)

pub pick_first : (own good : Rule → Bool) (found k : ℕ) (rules : List Rule)
    → first good (which own (drop (found - k) rules)) ≡ pick own good found k rules
unfolding first which pick
pick_first own good found k [] = rw drop-nil
pick_first own good found k (rule ∷ rules) =
    let rest = pick_first own good found (suc k) rules in
    by_test (leb found k)
    (λ p.
    let reached-it = leb-true found k p in
    let none_passed : found - k ≡ 0 = omega arith in
    let none_next : found - suc k ≡ 0 = omega arith in
    let here = rw none_next at rest in
    rw (none_passed, p)
    (by_test (own rule) (λ q. rw (q, first, here)) (λ q. rw (q, first, here))))
    (λ p.
    let before_it = leb-false found k p in
    let one-passed : found - k ≡ suc (found - suc k) = omega arith in
    rw (one-passed, p) rest)

-- the rule that a walk obeys
pub walked_picks : (nodes : Nodes) (root number : ℕ) (word : List ℕ) (rules : List Rule) (found : ℕ)
    → found ≡ deepest nodes root (inward word)
    → walked nodes root number word rules
    ≡ cond (eqb found 0) none
    (pick (λ rule. eqb found (held nodes (reached nodes root rule.ending))) (λ rule. holds rule.condition
    (before word rule.ending)) found number rules)
unfolding walked
walked_picks nodes root number word rules found e =
    rw (← e) (ap (cond (eqb found 0) none) (pick_first _ _ found number rules))
