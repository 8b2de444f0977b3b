-- The nodes where the rules of some groups end.
use Rattle.std.specs.Prelude.{ℕ, suc, Bool, ◌&&◌, List, [], ◌∷◌, ◌++◌, map, eqb}
use Rattle.paper.specs.Groups.{Group, same}

-- A node is known by its group, and by the tail that the letters from it up to the root spell: of the tail ed the letter is
-- e, and the parent is the node of d.
pub record Node : Type 0 where
  pub group : ℕ
  pub tail : List ℕ

abbrev pub node : ℕ → List ℕ → Node
node group tail = record { group = group; tail = tail }

unfoldable pub same_node : Node → Node → Bool
same_node one other = eqb one.group other.group && same one.tail other.tail

-- "for each rule in sheet order": the node where its S1 ends
unfoldable pub ends : ℕ → List Group → List Node
ends number [] = []
ends number (group ∷ groups) = map (λ rule. node number rule.ending) group.rules ++ ends (suc number) groups
