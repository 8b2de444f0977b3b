-- What is answered of a table's shape, and what the single functions that look at it say.
use Rattle.std.specs.Prelude.{ℕ, suc, ◌*◌, ◌<◌, ◌≤◌, ◌≡◌, refl, Bool, true, false, List, Option, Some, None}
use Rattle.std.proofs.Common.{ap}
use Rattle.paths.specs.Children.{letter}
use Rattle.forests.specs.Forest.{Forest as Forested}
use Rattle.forests.specs.TotalLaws.{one_count}

-- an answer to a question: yes where it is so, no where it is not
abbrev pub Told : Type 0 → Bool → Type 0
Told so true = so
Told so false = so → ⊥

-- the largest count of nodes that a table of so many numbers may have
pub record Most (numbers most : ℕ) : Type 0 where
  pub few : most ≤ 1552
  pub inside : 4 * most ≤ numbers
  pub largest : (nodes : ℕ) → nodes ≤ 1552 → 4 * nodes ≤ numbers → nodes ≤ most

-- the roots have letter 0
abbrev pub Bare : List ℕ → ℕ → Type 0
Bare table roots = (k : ℕ) → k < roots → letter table k ≡ 0

-- "in rising letter order": the nodes from one on, up to an end
abbrev pub Rises : List ℕ → ℕ → ℕ → Type 0
Rises table first end = (k : ℕ) → first ≤ k → suc k < end → letter table k < letter table (suc k)

-- with so many roots no forest is there, of no more nodes than a table may have
abbrev pub NoForest : List ℕ → ℕ → Type 0
NoForest table roots = (nodes : ℕ) → nodes ≤ 1552 → Forested table roots nodes → ⊥

-- a forest of so many nodes; or none
abbrev pub ShapedAs : List ℕ → ℕ → Option ℕ → Type 0
ShapedAs table roots (Some nodes) = Forested table roots nodes × (nodes ≤ 1552)
ShapedAs table roots None = NoForest table roots

-- one table, one answer
pub shaped_one : (table : List ℕ) (roots : ℕ) (one other : Option ℕ) → ShapedAs table roots one → ShapedAs table roots other → one ≡ other
shaped_one table roots (Some nodes) (Some many) is also = ap Some (one_count is.0 also.0)
shaped_one table roots (Some nodes) None is also = absurd (also nodes is.1 is.0)
shaped_one table roots None (Some nodes) is also = absurd (is nodes also.1 also.0)
shaped_one table roots None None is also = refl
