-- The layout that document 01 had before W-206: the nodes in their order of creation, and the four numbers of each.
use Rattle.std.specs.Prelude.{ℕ, suc, Bool, false, cond, ◌&&◌, ◌||◌, List, [], ◌∷◌, ◌++◌, eqb}
use Rattle.paper.specs.Groups.{Group, same}
use Rattle.paper.specs.Numbered.{number_of}
use Rattle.walks.specs.Ends.{Node, node, same_node, ends}

unfoldable pub present : Node → List Node → Bool
present one [] = false
present one (other ∷ more) = same_node one other || present one more

-- "Nodes 0, 1, .. are the groups' roots"
unfoldable pub roots : ℕ → List Group → List Node
roots number [] = []
roots number (group ∷ groups) = node number [] ∷ roots (suc number) groups

-- "each letter of S1 from the last inward": the nodes on the way from the root, of eed those of d, ed and eed
unfoldable pub way : ℕ → List ℕ → List Node
way group [] = []
way group (letter ∷ parent) = way group parent ++ node group (letter ∷ parent) ∷ []

-- "a node is added if its parent has no child of that letter yet"
unfoldable pub added : List Node → List Node → List Node
added nodes [] = nodes
added nodes (new ∷ more) = added (cond (present new nodes) nodes (nodes ++ new ∷ [])) more

unfoldable pub grown : List Node → List Node → List Node
grown nodes [] = nodes
grown nodes (end ∷ more) = grown (added nodes (way end.group end.tail)) more

-- all nodes of the table, in their order of creation
unfoldable pub nodes_of : List Group → List Node
nodes_of groups = grown (roots 0 groups) (ends 0 groups)

-- "roots, letter 0"; any other node's letter is the first of its tail
unfoldable pub letter_of : List ℕ → ℕ
letter_of [] = 0
letter_of (letter ∷ parent) = letter

-- the tail is one letter more than the parent's
unfoldable pub one_more : List ℕ → List ℕ → Bool
one_more parent [] = false
one_more parent (letter ∷ tail) = same parent tail

unfoldable pub is_child : Node → Node → Bool
is_child parent other = eqb parent.group other.group && one_more parent.tail other.tail

-- the other has the same parent as the node of this group and tail; a root has none
unfoldable pub is_sibling : ℕ → List ℕ → Node → Bool
is_sibling group [] other = false
is_sibling group (letter ∷ parent) other = is_child (node group parent) other

-- "Nodes of four 16-bit numbers: letter, first child, next sibling, first rule." A child comes "at the end of the parent's
-- chain", so the first child is the one created first, and the next sibling is the one created next. "rules are counted
-- from 1 over the whole sheet"; the node "holds the first rule of the group with that S1".
unfoldable pub rows : List Node → List Node → ℕ → List Node → List ℕ
rows nodes rules number [] = []
rows nodes rules number (one ∷ later) =
    letter_of one.tail
    ∷ number_of (is_child one) 0 nodes
    ∷ number_of (is_sibling one.group one.tail) (suc number) later
    ∷ number_of (same_node one) 1 rules
    ∷ rows nodes rules (suc number) later

unfoldable pub table_of : List Group → List ℕ
table_of groups = let nodes = nodes_of groups in rows nodes (ends 0 groups) 0 nodes

-- the same, to be computed: what a definition names on its `unfolding` line opens with it
unfoldable pub computed : List Group → List ℕ
unfolding same same_node present roots ends way added grown nodes_of letter_of one_more is_child is_sibling number_of rows table_of
computed groups = table_of groups
