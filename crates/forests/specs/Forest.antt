-- What is seen of a table by itself: that its nodes are a forest laid out by levels, with rising letters among children.
use Rattle.std.specs.Prelude.{ℕ, zero, suc, ◌+◌, ◌*◌, ◌<◌, ◌≤◌, ◌≡◌, cond, List, eqb, length}
use Rattle.paths.specs.Children.{letter, first_child, child_count}

-- the roots and the children of the first i nodes, together: the number of the node that comes after them
unfoldable pub total : List ℕ → ℕ → ℕ → ℕ
total table roots zero = roots
total table roots (suc i) = total table roots i + child_count table i

-- "in rising letter order": so many nodes from a node on
abbrev pub Rising : List ℕ → ℕ → ℕ → Type 0
Rising table first count = (k : ℕ) → suc k < count → letter table (first + k) < letter table (first + suc k)

-- A node in its place: a root has letter 0; its children stand together behind the roots and the children of the nodes before it, and
-- it stands before them; its letters rise.
pub record Row (table : List ℕ) (roots i : ℕ) : Type 0 where
  pub root_letter : i < roots → letter table i ≡ 0
  pub first_is : first_child table i ≡ cond (eqb (child_count table i) 0) 0 (total table roots i)
  pub rising : Rising table (total table roots i) (child_count table i)
  pub ahead : i < total table roots i

-- so many nodes, each in its place, and no child beyond them
pub record Forest (table : List ℕ) (roots nodes : ℕ) : Type 0 where
  pub row : (i : ℕ) → i < nodes → Row table roots i
  pub whole : total table roots nodes ≡ nodes
  pub inside : 4 * nodes ≤ length table
