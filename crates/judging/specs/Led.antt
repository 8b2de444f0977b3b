-- What is seen of a table that is a forest when every rule's ending is followed through it in sheet order.
use Rattle.std.specs.Prelude.{ℕ, ◌≤◌, ◌<◌, ◌≡◌, Bool, true, false, List, eqb}
use Rattle.std.proofs.Math.Option.{Option, none, some}
use Rattle.paper.specs.Numbered.{number_of}
use Rattle.paper.specs.NumberedLaws.{Every}
use Rattle.paths.specs.Children.{child_count, first_rule, nodes_in}
use Rattle.walks.specs.Walk.{reached}
use Rattle.walks.specs.Faithful.{exists}
use Rattle.walks.specs.Ends.{Node}

-- there is a node, and it is this
unfoldable pub is_at : ℕ → Option ℕ → Bool
is_at at none = false
is_at at (some other) = eqb at other

-- a rule ends at this node of the table
unfoldable pub ends_at : List ℕ → ℕ → Node → Bool
ends_at table at one = is_at at (reached (nodes_in table) one.group one.tail)

-- every ending has its path; each node holds the first rule that ends there, 0 where none does; and some rule ends at each node that
-- has no children and is no root
pub record Led (table : List ℕ) (roots nodes : ℕ) (all : List Node) : Type 0 where
  pub paths : Every (λ one. exists (reached (nodes_in table) one.group one.tail) ≡ true) all
  pub rules : (i : ℕ) → i < nodes → first_rule table i ≡ number_of (ends_at table i) 1 all
  pub leaves : (i : ℕ) → i < nodes → roots ≤ i → child_count table i ≡ 0 → first_rule table i ≡ 0 → ⊥
