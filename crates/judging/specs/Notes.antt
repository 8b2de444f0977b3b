-- The first rule that ends at each node, noted while the rules are gone through.
use Rattle.std.specs.Prelude.{ℕ, ◌≤◌, ◌<◌, ◌≡◌, Bool, true, false, cond, List, eqb, length, get_or, set}
use Rattle.std.proofs.Math.Option.{Option, none, some}
use Rattle.paper.specs.Numbered.{number_of}
use Rattle.paper.specs.NumberedLaws.{Every}
use Rattle.paths.specs.Children.{child_count, first_rule, nodes_in}
use Rattle.walks.specs.Walk.{reached}
use Rattle.walks.specs.Faithful.{exists}
use Rattle.walks.specs.Ends.{Node}
use Rattle.forests.specs.Forest.{Forest}
use Rattle.judging.specs.Led.{ends_at}

-- the rule noted at the node that was reached, if none is noted there
unfoldable pub noted : Option ℕ → ℕ → List ℕ → List ℕ
noted none rule notes = notes
noted (some at) rule notes = cond (eqb (get_or notes at 0) 0) (set notes at rule) notes

-- nothing is noted
abbrev pub Blank : List ℕ → Type 0
Blank notes = (i : ℕ) → i < length notes → get_or notes i 0 ≡ 0

-- the table is a forest with so many roots, whose nodes have their places among so many
pub record Fits (table : List ℕ) (roots size : ℕ) : Type 0 where
  pub nodes : ℕ
  pub forest : Forest table roots nodes
  pub few : nodes ≤ size

-- and this is one of the roots
pub record Rooted (table : List ℕ) (root size : ℕ) : Type 0 where
  pub roots : ℕ
  pub fits : Fits table roots size
  pub root_in : root < roots

-- each ending leads somewhere, and the first rule that ends at a node is noted there
abbrev pub Paths : List ℕ → List Node → Type 0
Paths table all = Every (λ one. exists (reached (nodes_in table) one.group one.tail) ≡ true) all

abbrev pub Noted : List ℕ → List Node → List ℕ → Type 0
Noted table all notes = (i : ℕ) → i < length notes → get_or notes i 0 ≡ number_of (ends_at table i) 1 all

abbrev pub NotedAs : List ℕ → List Node → Bool → List ℕ → Type 0
NotedAs table all true notes = Paths table all × Noted table all notes
NotedAs table all false notes = Paths table all → ⊥

-- each of the first nodes holds the rule that is noted for it, and one is noted for each that has no children and is no root
pub record Held (table : List ℕ) (roots nodes : ℕ) (notes : List ℕ) : Type 0 where
  pub rules : (i : ℕ) → i < nodes → get_or notes i 0 ≡ first_rule table i
  pub leaves : (i : ℕ) → i < nodes → roots ≤ i → child_count table i ≡ 0 → first_rule table i ≡ 0 → ⊥
