-- Rules that end somewhere: among which the first is, and that a fact of all of them is one of each.
use Rattle.std.specs.Prelude.{ℕ, suc, ◌≡◌, refl, Bool, List, [], ◌∷◌, ◌++◌}
use Rattle.std.proofs.Common.{sym, subst, ◌∙◌, append_assoc, lit<}
use Rattle.paper.specs.Numbered.{number_of}
use Rattle.paper.specs.NumberedLaws.{Every, number_some}
use Rattle.paper.specs.TestLaws.{by_test}
use Rattle.walks.specs.Ends.{Node, same_node}
use Rattle.walks.specs.EndsLaws.{same_node_eq, same_node_refl}

-- tests that agree on all of a list find the same
pub number_alike : {A : Type 0} (f g : A → Bool) (k : ℕ) (list : List A) → Every (λ one. f one ≡ g one) list
    → number_of f k list ≡ number_of g k list
unfolding number_of
number_alike f g k [] e = refl
number_alike f g k (one ∷ more) e = rw (e.0, number_alike f g (suc k) more e.1)

-- a rule ends at this node, so what is known of all is known of it
pub of_one : (P : Node → Type 0) (k : ℕ) (list : List Node) (one : Node) → Every P list → (number_of (same_node one) k list ≡ 0 → ⊥) → P one
unfolding number_of
of_one P k [] one all e = absurd (e refl)
of_one P k (other ∷ more) one all e =
    by_test (same_node one other) (λ p. subst P (sym (same_node_eq one other p)) all.0)
    (λ p. of_one P (suc k) more one all.1 (rw p at e))

-- what is known of each node where a rule ends is known of all
of_all_behind : (P : Node → Type 0) (all front list : List Node) → front ++ list ≡ all
    → ((one : Node) → (number_of (same_node one) 1 all ≡ 0 → ⊥) → P one) → Every P list
of_all_behind P all front [] split each = tt
of_all_behind P all front (one ∷ more) split each = (
  each one (subst (λ (list : List Node). number_of (same_node one) 1 list ≡ 0 → ⊥) split
      (number_some (same_node one) 1 front one more (same_node_refl one) (lit< tt))),
  of_all_behind P all (front ++ one ∷ []) more (append_assoc front (one ∷ []) more ∙ split) each,
)

pub of_all : (P : Node → Type 0) (all : List Node) → ((one : Node) → (number_of (same_node one) 1 all ≡ 0 → ⊥) → P one) → Every P all
of_all P all each = of_all_behind P all [] all refl each
