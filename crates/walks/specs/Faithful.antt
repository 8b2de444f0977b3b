-- What stands between the layout and the walk: nodes that are faithful to groups.
use Rattle.std.specs.Prelude.{ℕ, suc, ◌+◌, ◌≡◌, Bool, true, false, List, [], ◌∷◌, length}
use Rattle.std.proofs.Math.Option.{Option, none, some}
use Rattle.paper.specs.Groups.{Rule, Group}
use Rattle.paper.specs.Nodes.{tails_of, member}
use Rattle.paper.specs.Numbered.{first_with}
use Rattle.walks.specs.Walk.{Nodes, reached, held}

-- there is a node
unfoldable pub exists : Option ℕ → Bool
exists none = false
exists (some at) = true

-- the tail is one of the group's endings: empty, which is the root's, or a non-empty tail of an ending
unfoldable pub leads : List Rule → List ℕ → Bool
leads rules [] = true
leads rules (letter ∷ parent) = member (letter ∷ parent) (tails_of rules)

-- In this group the path of letters exists exactly for the tails of the endings, and holds the first rule whose ending is
-- that tail.
pub record FaithfulGroup (nodes : Nodes) (root number : ℕ) (rules : List Rule) : Type 0 where
  pub paths : (tail : List ℕ) → exists (reached nodes root tail) ≡ leads rules tail
  pub holding : (tail : List ℕ) → held nodes (reached nodes root tail) ≡ first_with number rules tail

-- so in each group: the roots are counted from `root`, the rules from `number`
unfoldable pub FaithfulFrom : Nodes → ℕ → ℕ → List Group → Type 0
FaithfulFrom nodes root number [] = Unit {0}
FaithfulFrom nodes root number (group ∷ groups) =
    FaithfulGroup nodes root number group.rules × FaithfulFrom nodes (suc root) (number + length group.rules) groups

unfoldable pub Faithful : Nodes → List Group → Type 0
Faithful nodes groups = FaithfulFrom nodes 0 1 groups
