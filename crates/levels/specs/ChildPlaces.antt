-- Where the children of a node stand in its table, and which of them a letter finds: for any nodes that are some first ones and then
-- the children of all, in their parents' order.
use Rattle.std.specs.Prelude.{ℕ, ◌+◌, ◌≡◌, refl, true, cond, eqb, length}
use Rattle.std.proofs.Math.Path.{sym, ap}
use Rattle.std.proofs.Common.{◌∙◌, add_assoc}
use mathlib.Core.List.{List, [], ◌∷◌, ◌++◌}
use Rattle.std.proofs.Math.Dec.{eqb-suc-zero}
use Rattle.std.proofs.lemmas.List.{length-map}
use Rattle.paper.specs.Numbered.{number_of}
use Rattle.paths.specs.Children.{sought, child}
use Rattle.levels.specs.Layout.{Node, node, alphabet, standing, children, below, letter_of, rows}
use Rattle.levels.specs.LevelLaws.{below-append}
use Rattle.levels.specs.PlacedLaws.{placed_at, placed_before, placed_behind, placed_map}
use Rattle.levels.specs.RisingLaws.{rising, alphabet_rising, standing_rising, Reads, sought_number}
use Rattle.levels.specs.RowLaws.{Placed, letter_at, first_child_at, child_count_at}

-- a node without children has 0 for the first of them, where no letter is found either
sought_from : (table : List ℕ) (one : ℕ) (list : List ℕ) (at : ℕ) → rising 0 list ≡ true → Reads table at list
    → sought (length list) table one (cond (eqb (length list) 0) 0 at) ≡ number_of (eqb one) at list
unfolding sought number_of
sought_from table one [] at e reads = refl
sought_from table one (next ∷ more) at e reads = rw eqb-suc-zero (sought_number table one 0 (next ∷ more) at e reads)

-- the letters of a node's children
abbrev pub child_letters : Node → List ℕ
child_letters one = standing one.rules one.tail alphabet

pub letters_rise : (one : Node) → rising 0 (child_letters one) ≡ true
letters_rise one = standing_rising one.rules one.tail 0 alphabet alphabet_rising

pub children-length : (one : Node) → length (children one) ≡ length (child_letters one)
unfolding children
children-length one = length-map (child_letters one) (λ letter. node one.number one.rules (letter ∷ one.tail))

-- where they stand: behind the first nodes and the children of the nodes before it
abbrev pub children_at : List Node → List Node → ℕ
children_at first front = length first + length (below front)

module _ (first : List Node) {nodes : List Node} (again : nodes ≡ first ++ below nodes) {i : ℕ} {one : Node}
    (placed : Placed nodes i one) where
  pub child_placed : {k letter : ℕ} → Placed (child_letters one) k letter
      → Placed nodes (children_at first placed.front + k) (node one.number one.rules (letter ∷ one.tail))
  unfolding below children
  child_placed {k} {letter} there =
      let front = placed.front in
      let later = placed.later in
      let kin = placed_map (λ letter. node one.number one.rules (letter ∷ one.tail)) there in
      let it = placed_behind first (placed_behind (below front) (placed_before (below later) kin)) in
      let whole : first ++ (below front ++ (children one ++ below later)) ≡ nodes =
      ap (λ (rest : List Node). first ++ rest) (sym (below-append front (one ∷ later)) ∙ ap below placed.split) ∙ sym again in
      rw (add_assoc, ← whole) it

  pub children_read : Reads (rows (length first) nodes) (children_at first placed.front) (child_letters one)
  unfolding letter_of
  children_read k h = letter_at (length first) (child_placed (placed_at (child_letters one) k 0 h))

  -- the child of a letter is the one that has it
  pub child_number : (letter : ℕ) → child (rows (length first) nodes) i letter
      ≡ number_of (eqb letter) (children_at first placed.front) (child_letters one)
  unfolding child
  child_number letter =
      rw (child_count_at (length first) placed, first_child_at (length first) placed, children-length one)
      (sought_from (rows (length first) nodes) letter (child_letters one) (children_at first placed.front) (letters_rise one)
      children_read)
