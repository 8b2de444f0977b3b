-- When two nodes are the same, parent and child, or siblings.
use Rattle.std.specs.Prelude.{ℕ, ◌≡◌, true, false, ◌&&◌, List, [], ◌∷◌, eqb}
use Rattle.std.proofs.Common.{sym, ap, ap₂, ◌∙◌, eqb-true}
use Rattle.std.proofs.lemmas.Bool.{false≢true}
use Rattle.std.proofs.Math.Bool.{and-true, and-false}
use Rattle.paper.specs.Groups.{same}
use Rattle.siblings.specs.Layout.{letter_of, one_more, is_child, is_sibling}
use Rattle.walks.specs.Ends.{Node, node, same_node}
use Rattle.paper.specs.TestLaws.{by_test, and_left, and_right, and_both}
use Rattle.paper.specs.GroupsLaws.{same_equal}

-- ## A child of a letter is the node whose tail has that letter before the parent's tail

pub child_letter : (letter : ℕ) (parent : Node) (group : ℕ) (tail : List ℕ) → is_child parent (node group tail) ≡ true
    → same_node (node parent.group (letter ∷ parent.tail)) (node group tail) ≡ eqb letter (letter_of tail)
unfolding same_node is_child one_more same letter_of
child_letter letter parent group [] e = absurd (false≢true (and_right (eqb parent.group group) false e))
child_letter letter parent group (other ∷ rest) e =
    let groups = and_left (eqb parent.group group) (same parent.tail rest) e in
    let tails = and_right (eqb parent.group group) (same parent.tail rest) e in
    rw (groups, tails, and-true)

pub letter_child : (letter : ℕ) (parent : Node) (group : ℕ) (tail : List ℕ)
    → same_node (node parent.group (letter ∷ parent.tail)) (node group tail) ≡ true → is_child parent (node group tail) ≡ true
unfolding same_node is_child one_more same
letter_child letter parent group [] e = e
letter_child letter parent group (other ∷ rest) e =
    let groups = and_left (eqb parent.group group) (eqb letter other && same parent.tail rest) e in
    let tails = and_right (eqb parent.group group) (eqb letter other && same parent.tail rest) e in
    and_both groups (and_right (eqb letter other) (same parent.tail rest) tails)

pub no_child : (letter : ℕ) (parent other : Node) → is_child parent other ≡ false
    → same_node (node parent.group (letter ∷ parent.tail)) other ≡ false
no_child letter parent other e =
    by_test (same_node (node parent.group (letter ∷ parent.tail)) other)
    (λ p. absurd (false≢true (sym e ∙ letter_child letter parent other.group other.tail p))) (λ p. p)

-- the siblings of a child are its parent's children
pub child_siblings : (parent : Node) (group : ℕ) (tail : List ℕ) → is_child parent (node group tail) ≡ true
    → (other : Node) → is_sibling group tail other ≡ is_child parent other
unfolding is_sibling is_child one_more
child_siblings parent group [] e other = absurd (false≢true (and_right (eqb parent.group group) false e))
child_siblings parent group (letter ∷ rest) e other =
    let groups = eqb-true parent.group group (and_left (eqb parent.group group) (same parent.tail rest) e) in
    let tails = same_equal parent.tail rest (and_right (eqb parent.group group) (same parent.tail rest) e) in
    ap (λ (one : Node). is_child one other) (sym (ap₂ node groups tails))

-- a root is no child, and no tail with a letter is a root's
pub root_no_child : (parent : Node) (group : ℕ) → is_child parent (node group []) ≡ false
unfolding is_child one_more
root_no_child parent group = and-false (eqb parent.group group)
