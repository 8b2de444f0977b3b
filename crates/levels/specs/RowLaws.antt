-- The four numbers of a node in its place among others.
use Rattle.std.specs.Prelude.{ℕ, suc, ◌+◌, ◌*◌, ◌≡◌, refl, cond, List, [], ◌∷◌, ◌++◌, eqb, length, drop}
use Rattle.std.proofs.Common.{sym, ◌∙◌, add-zero, arith, length-append, get_or-drop}
use Rattle.std.proofs.Math.Path.{ap}
use Rattle.std.proofs.Math.ListN.{get_or}
use Rattle.paper.specs.Numbered.{first_with}
use Rattle.paths.specs.Children.{letter, first_child, child_count, first_rule}
use Rattle.levels.specs.Layout.{Node, children, below, letter_of, rows}

-- of a list, this is the one that stands at i
pub record Placed {A : Type 0} (list : List A) (i : ℕ) (one : A) : Type 0 where
  pub front : List A
  pub later : List A
  pub split : front ++ one ∷ later ≡ list
  pub place : i ≡ length front

-- ## All rows

pub rows_length : (next : ℕ) (nodes : List Node) → length (rows next nodes) ≡ 4 * length nodes
unfolding rows
rows_length next [] = refl
rows_length next (one ∷ later) = let rest = rows_length (next + length (children one)) later in omega arith

-- the rows from a node on
pub rows_drop : (next : ℕ) (front later : List Node)
    → drop (4 * length front) (rows next (front ++ later)) ≡ rows (next + length (below front)) later
unfolding rows below
rows_drop next [] later = rw add-zero
rows_drop next (one ∷ front) later =
    let four : 4 * suc (length front) ≡ suc (suc (suc (suc (4 * length front)))) = omega arith in
    let past : next + length (below (one ∷ front)) ≡ next + length (children one) + length (below front)
    = omega (arith, length-append (children one) (below front)) in
    rw (four, past) (rows_drop (next + length (children one)) front later)

-- ## The four numbers of one node

module _ (next : ℕ) {nodes : List Node} {i : ℕ} {one : Node} (placed : Placed nodes i one) where
  column : (k : ℕ) → get_or (rows next nodes) (4 * i + k) 0
      ≡ get_or (rows (next + length (below placed.front)) (one ∷ placed.later)) k 0
  column k =
      rw (placed.place, ← placed.split)
      (sym (get_or-drop (4 * length placed.front) (rows next (placed.front ++ one ∷ placed.later)) k 0)
      ∙ rw rows_drop)

  pub letter_at : letter (rows next nodes) i ≡ letter_of one.tail
  unfolding rows
  letter_at = ap (λ (k : ℕ). get_or (rows next nodes) k 0) (sym (add-zero (4 * i))) ∙ column 0

  pub first_child_at : first_child (rows next nodes) i
      ≡ cond (eqb (length (children one)) 0) 0 (next + length (below placed.front))
  unfolding rows
  first_child_at = column 1

  pub child_count_at : child_count (rows next nodes) i ≡ length (children one)
  unfolding rows
  child_count_at = column 2

  pub first_rule_at : first_rule (rows next nodes) i ≡ first_with one.number one.rules one.tail
  unfolding rows
  first_rule_at = column 3
