-- Where a node stands in a list of nodes.
use Rattle.std.specs.Prelude.{ℕ, suc, ◌+◌, ◌<◌, ◌≡◌, refl, true, not, ◌||◌, List, [], ◌∷◌, ◌++◌, eqb, length}
use Rattle.std.proofs.Common.{ap, ◌∙◌, arith, add-zero, ne_eqb}
use Rattle.std.proofs.lemmas.Bool.{false≢true}
use Rattle.std.proofs.Math.Bool.{or_assoc}
use Rattle.siblings.specs.Layout.{present}
use Rattle.walks.specs.Ends.{Node, same_node}
use Rattle.paper.specs.Numbered.{number_of}
use Rattle.paper.specs.TestLaws.{by_test}
use Rattle.walks.specs.EndsLaws.{same_node_eq}

-- counted from 1 or more, the number is 0 exactly where the node is missing
pub number_missing : (one : Node) (k : ℕ) (nodes : List Node) → 0 < k → eqb (number_of (same_node one) k nodes) 0 ≡ not (present one nodes)
unfolding number_of present
number_missing one k [] h = refl
number_missing one k (other ∷ more) h =
    by_test (same_node one other) (λ p. rw p (ne_eqb k 0 (λ z. omega arith)))
    (λ p. rw p (number_missing one (suc k) more (omega arith)))

-- a present node stands at its number
pub record Stands (one : Node) (k : ℕ) (nodes : List Node) : Type 0 where
  pub before : List Node
  pub later : List Node
  pub split : before ++ one ∷ later ≡ nodes
  pub number : number_of (same_node one) k nodes ≡ k + length before

pub stands : (one : Node) (k : ℕ) (nodes : List Node) → present one nodes ≡ true → Stands one k nodes
unfolding number_of present
stands one k [] e = absurd (false≢true e)
stands one k (other ∷ more) e =
    by_test (same_node one other)
    (λ p. record { before = []; later = more; split = ap (λ (n : Node). n ∷ more) (same_node_eq one other p); number = rw (p, add-zero) })
    (λ p.
    let rest = stands one (suc k) more (rw p at e) in
    record {
      before = other ∷ rest.before;
      later = rest.later;
      split = ap (λ (list : List Node). other ∷ list)
          rest.split;
      number = rw p (rest.number ∙ omega arith);
    })

pub present-append : (one : Node) (left right : List Node) → present one (left ++ right) ≡ (present one left || present one right)
unfolding present
present-append one [] right = refl
present-append one (other ∷ left) right = rw (present-append one left right, or_assoc)
