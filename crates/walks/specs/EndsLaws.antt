-- The first rule that ends at a node, among the rules of all groups, is the group's own first rule with that ending.
use Rattle.std.specs.Prelude.{ℕ, suc, ◌+◌, ◌<◌, ◌≤◌, ◌≡◌, refl, true, false, List, [], ◌∷◌, ◌++◌, map, eqb, length}
use Rattle.std.proofs.Common.{ap₂, ◌∙◌, add-zero, le_refl, arith, eqb-true, ne_eqb, eq-eqb}
use Rattle.paper.specs.Groups.{Rule, Group, same}
use Rattle.paper.specs.GroupsLaws.{same_equal, same_itself, same_sym}
use Rattle.paper.specs.Numbered.{number_of, first_with}
use Rattle.paper.specs.NumberedLaws.{Every}
use Rattle.paper.specs.TestLaws.{and_left, and_right, and_both}
use Rattle.walks.specs.Ends.{Node, node, same_node, ends}

pub same_node_eq : (one other : Node) → same_node one other ≡ true → one ≡ other
unfolding same_node
same_node_eq one other e =
    let groups = eqb-true one.group other.group (and_left (eqb one.group other.group) (same one.tail other.tail) e) in
    let tails = same_equal one.tail other.tail (and_right (eqb one.group other.group) (same one.tail other.tail) e) in
    ap₂ node groups tails

pub same_node_refl : (one : Node) → same_node one one ≡ true
unfolding same_node
same_node_refl one = and_both (eq-eqb one.group one.group refl) (same_itself one.tail)

-- ## Rules of another group

pub other_group : (group number : ℕ) (tail other : List ℕ) → eqb group number ≡ false
    → same_node (node group tail) (node number other) ≡ false
unfolding same_node
other_group group number tail other e = rw e

pub number_past : (group number : ℕ) (tail : List ℕ) → eqb group number ≡ false → (k : ℕ) (rules : List Rule) (more : List Node)
    → number_of (same_node (node group tail)) k (map (λ rule. node number rule.ending) rules ++ more)
    ≡ number_of (same_node (node group tail)) (k + length rules) more
unfolding number_of
number_past group number tail e k [] more = rw add-zero
number_past group number tail e k (rule ∷ rules) more =
    let next : suc k + length rules ≡ k + suc (length rules) = omega arith in
    rw (other_group group number tail rule.ending e) (number_past group number tail e (suc k) rules more ∙ rw next)

number_beyond : (group : ℕ) (tail : List ℕ) (k number : ℕ) (groups : List Group) → group < number
    → number_of (same_node (node group tail)) k (ends number groups) ≡ 0
unfolding ends number_of
number_beyond group tail k number [] h = refl
number_beyond group tail k number (one ∷ groups) h =
    number_past group number tail (ne_eqb group number (λ e. omega arith)) k one.rules (ends (suc number) groups)
    ∙ number_beyond group tail (k + length one.rules) (suc number) groups (omega arith)

-- ## Rules of the group itself

number_own : (group : ℕ) (tail : List ℕ) (k : ℕ) (rules : List Rule) (more : List Node)
    → ((j : ℕ) → number_of (same_node (node group tail)) j more ≡ 0)
    → number_of (same_node (node group tail)) k (map (λ rule. node group rule.ending) rules ++ more) ≡ first_with k rules tail
unfolding number_of first_with same_node
number_own group tail k [] more e = e k
number_own group tail k (rule ∷ rules) more e =
    rw (eq-eqb group group refl, same_sym tail rule.ending, number_own group tail (suc k) rules more e)

-- ## So in each group: the roots are counted from `root`, the rules from `number`

-- among these ends the first at a node of the group is its first rule with that ending
abbrev pub First : List Node → ℕ → ℕ → List Rule → Type 0
First all root number rules = (tail : List ℕ) → number_of (same_node (node root tail)) 1 all ≡ first_with number rules tail

unfoldable pub FirstFrom : List Node → ℕ → ℕ → List Group → Type 0
FirstFrom all root number [] = Unit {0}
FirstFrom all root number (group ∷ groups) =
    First all root number group.rules × FirstFrom all (suc root) (number + length group.rules) groups

-- what stands before these groups has no rule of theirs
first_from : (all : List Node) (root number : ℕ) (groups : List Group)
    → ((group : ℕ) → root ≤ group → (tail : List ℕ)
    → number_of (same_node (node group tail)) 1 all ≡ number_of (same_node (node group tail)) number (ends root groups))
    → FirstFrom all root number groups
unfolding FirstFrom ends
first_from all root number [] rest = tt
first_from all root number (group ∷ groups) rest = (
  λ tail. rest root (le_refl root) tail
      ∙ number_own root tail number group.rules (ends (suc root) groups)
      (λ j. number_beyond root tail j (suc root) groups (le_refl (suc root))),
  first_from all (suc root) (number + length group.rules) groups
      (λ one h tail. rest one (omega arith) tail
      ∙ number_past one root tail (ne_eqb one root (λ e. omega arith)) number group.rules (ends (suc root) groups)),
)

pub first_ends : (groups : List Group) → FirstFrom (ends 0 groups) 0 1 groups
first_ends groups = first_from (ends 0 groups) 0 1 groups (λ group h tail. refl)

-- ## The groups of the ends

in_group : (bound group : ℕ) (rules : List Rule) (more : List Node) → group < bound → Every (λ one. one.group < bound) more
    → Every (λ one. one.group < bound) (map (λ rule. node group rule.ending) rules ++ more)
in_group bound group [] more h rest = rest
in_group bound group (rule ∷ rules) more h rest = (h, in_group bound group rules more h rest)

pub ends_in : (bound number : ℕ) (groups : List Group) → number + length groups ≤ bound
    → Every (λ one. one.group < bound) (ends number groups)
unfolding ends
ends_in bound number [] h = tt
ends_in bound number (group ∷ groups) h =
    in_group bound number group.rules (ends (suc number) groups) (omega arith) (ends_in bound (suc number) groups (omega arith))
