-- Document 01, "The table", as W-206 amends it: the nodes level by level, and the four numbers of each.
use Rattle.std.specs.Prelude.{ℕ, zero, suc, ◌+◌, cond, List, [], ◌∷◌, ◌++◌, map, eqb, length}
use Rattle.paper.specs.Letters.{letters}
use Rattle.paper.specs.Groups.{Rule, Group, same}
use Rattle.paper.specs.Nodes.{tails, tails_of, member}
use Rattle.paper.specs.Numbered.{number_of, first_with}

-- A node is known by its group, whose rules are counted from `number`, and by the tail that the letters from it up to the root
-- spell: of the tail ed the letter is e, and the parent is the node of d.
pub record Node : Type 0 where
  pub number : ℕ
  pub rules : List Rule
  pub tail : List ℕ

abbrev pub node : ℕ → List Rule → List ℕ → Node
node number rules tail = record { number = number; rules = rules; tail = tail }

-- the letters, rising
unfoldable pub alphabet : List ℕ
unfolding letters
alphabet = letters "abcdefghijklmnopqrstuvwxyz"

-- "roots first": one for each group, in their order
unfoldable pub roots : ℕ → List Group → List Node
roots number [] = []
roots number (group ∷ groups) = node number group.rules [] ∷ roots (number + length group.rules) groups

-- of these letters those that stand before a tail in endings of its group
unfoldable pub standing : List Rule → List ℕ → List ℕ → List ℕ
standing rules tail [] = []
standing rules tail (letter ∷ more) =
    let later = standing rules tail more in
    cond (member (letter ∷ tail) (tails_of rules)) (letter ∷ later) later

-- "Children of one node stand together in rising letter order"
unfoldable pub children : Node → List Node
children one = map (λ letter. node one.number one.rules (letter ∷ one.tail)) (standing one.rules one.tail alphabet)

-- the level below some nodes: "all their children, .. in its parents' order"
unfoldable pub below : List Node → List Node
below [] = []
below (one ∷ level) = children one ++ below level

-- "level by level": so many levels, from this one on
unfoldable pub levels : ℕ → List Node → List Node
levels zero level = []
levels (suc more) level = level ++ levels more (below level)

-- all nodes of the table, in their order: an ending has at most 12 letters, so 12 levels stand below the roots
unfoldable pub nodes_of : List Group → List Node
nodes_of groups = levels 13 (roots 1 groups)

-- "roots, letter 0"; any other node's letter is the first of its tail
unfoldable pub letter_of : List ℕ → ℕ
letter_of [] = 0
letter_of (letter ∷ parent) = letter

-- "Nodes of four 16-bit numbers: letter, first child, count of children, first rule." The children of a node stand behind the roots
-- and behind the children of all nodes before it: `next` is the number of the first node that stands there, and the first child's
-- where there is one. The node "holds the first rule of the group with that S1".
unfoldable pub rows : ℕ → List Node → List ℕ
rows next [] = []
rows next (one ∷ later) =
    let count = length (children one) in
    letter_of one.tail
    ∷ cond (eqb count 0) 0 next
    ∷ count
    ∷ first_with one.number one.rules one.tail
    ∷ rows (next + count) later

unfoldable pub table_of : List Group → List ℕ
table_of groups = rows (length groups) (nodes_of groups)

-- the same, to be computed: what a definition names on its `unfolding` line opens with it
unfoldable pub computed : List Group → List ℕ
unfolding same tails_of tails member number_of first_with alphabet roots standing children below levels nodes_of letter_of rows table_of
computed groups = table_of groups
