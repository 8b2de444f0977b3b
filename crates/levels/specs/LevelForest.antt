-- The table that bounded groups are laid out in is a forest by levels: what its own numbers say of it.
use Prim.Native.Nat.{ℕ, zero, suc, ◌+◌, ◌-◌, ◌<◌, ◌≤◌}
use Rattle.std.specs.Prelude.{◌≡◌, refl, true, ltb, take, drop}
use Rattle.std.proofs.Math.Path.{sym, ap}
use Rattle.std.proofs.Common.{◌∙◌, add-zero, arith, take-append-drop, take-suc, ltb-true, ltb-false}
use mathlib.Core.List.{List, [], ◌∷◌, ◌++◌, append_assoc}
use Rattle.std.proofs.Math.ListN.{length, get_or, length-append}
use Rattle.std.proofs.Math.Seq.{take-length, drop-append_seam, drop-append-add}
use Rattle.paper.specs.Groups.{Group}
use Rattle.paper.specs.NumberedLaws.{Every, every_append}
use Rattle.paper.specs.TestLaws.{by_test}
use Rattle.sheets.specs.SheetBytes.{bounded}
use Rattle.paths.specs.Children.{letter}
use Rattle.forests.specs.Forest.{total, Rising, Row, Forest}
use Rattle.levels.specs.Layout.{Node, node, roots, children, below, letter_of, nodes_of, rows, table_of}
use Rattle.levels.specs.LevelLaws.{below-append, every-below, nodes_again, roots_length}
use Rattle.levels.specs.RowLaws.{Placed, rows_length, letter_at, first_child_at, child_count_at}
use Rattle.levels.specs.PlacedLaws.{placed_at, placed_before, placed_below, placed_front, every_placed}
use Rattle.levels.specs.RisingLaws.{rising_next}
use Rattle.levels.specs.ChildPlaces.{child_letters, children_at, letters_rise, children-length, children_read}

-- ## No node stands among the children of those from it on

-- the tail has at least so many letters
abbrev Long : ℕ → Node → Type 0
Long least one = least ≤ length one.tail

-- A child's tail is longer than its parent's. So if nodes stood among their own children, their tails would be longer than any number.
ever_longer : (level : List Node) (n : ℕ) → level ≡ drop n (below level) → (least : ℕ) → Every (Long least) level
ever_longer level n again zero = every_level level
  where
    every_level : (level : List Node) → Every (Long 0) level
    every_level [] = tt
    every_level (one ∷ level) = (omega arith, every_level level)
ever_longer level n again (suc least) =
    let longer = every-below (Long least) (Long (suc least)) (λ one letter stands long. omega arith) level
    (ever_longer level n again least) in
    rw again (every_append (Long (suc least)) (take n (below level)) (drop n (below level))
    (rw (take-append-drop n (below level)) longer)).1

no_loop : (one : Node) (later : List Node) (n : ℕ) → one ∷ later ≡ drop n (below (one ∷ later)) → ⊥
no_loop one later n again = let long = (ever_longer (one ∷ later) n again (suc (length one.tail))).0 in omega arith

-- ## The rows of nodes that are some first ones, with no letter, and then the children of all

-- what `get_or` gives beyond a list; it is never asked for that
no_node : Node
no_node = node 0 [] []

module _ (first nodes : List Node) (again : nodes ≡ first ++ below nodes) (bare : Every (λ one. one.tail ≡ []) first) where
  abbrev table : List ℕ
  table = rows (length first) nodes

  -- the children counted so far are those of the nodes so far
  total_below : (i : ℕ) → i ≤ length nodes → total table (length first) i ≡ children_at first (take i nodes)
  unfolding total below
  total_below zero h = sym (add-zero (length first))
  total_below (suc i) h =
      let rest = total_below i (omega arith) in
      let one = get_or nodes i no_node in
      let counted = child_count_at (length first) (placed_at nodes i no_node h) in
      let more = ap (λ (list : List Node). length (below list)) (take-suc nodes i no_node h) in
      let parted = ap length (below-append (take i nodes) (one ∷ [])) in
      omega (arith, rest, counted, more, parted, length-append (below (take i nodes)) (children one ++ []), length-append (children one) [])

  first_letter : (i : ℕ) → i < length first → letter table i ≡ 0
  unfolding letter_of
  first_letter i h =
      let root = placed_at first i no_node h in
      let placed = rw (← again) at (placed_before (below nodes) root) in
      letter_at (length first) placed ∙ rw (every_placed (λ one. one.tail ≡ []) bare root)

  module _ {i : ℕ} {one : Node} (placed : Placed nodes i one) where
    start : total table (length first) i ≡ children_at first placed.front
    start = total_below i (omega (arith, placed_below placed)) ∙ rw (placed_front placed)

    -- behind the first nodes and the children of those before a node stand the children of those from it on
    nodes_from : nodes ≡ first ++ below placed.front ++ below (one ∷ placed.later)
    nodes_from =
        again
        ∙ ap (λ (list : List Node). first ++ below list) (sym placed.split)
        ∙ ap (λ (list : List Node). first ++ list) (below-append placed.front (one ∷ placed.later))
        ∙ sym (append_assoc first (below placed.front) (below (one ∷ placed.later)))

    before_children : i < children_at first placed.front
    before_children =
        let level = one ∷ placed.later in
        let before = first ++ below placed.front in
        let long = length-append first (below placed.front) in
        by_test (ltb i (children_at first placed.front)) (λ p. ltb-true _ _ p)
        (λ p.
        let low = ltb-false i (children_at first placed.front) p in
        let n = i - length before in
        let passed : length placed.front ≡ length before + n = omega arith in
        let loop : level ≡ drop n (below level) =
        sym (drop-append_seam placed.front level)
        ∙ ap (drop (length placed.front)) (placed.split ∙ nodes_from)
        ∙ rw passed (drop-append-add before (below level) n) in
        absurd (no_loop one placed.later n loop))

    children_rising : Rising table (children_at first placed.front) (length (child_letters one))
    children_rising k more =
        let read = children_read first again placed in
        rw (read k (omega arith), read (suc k) more) (rising_next 0 (child_letters one) (letters_rise one) k more)

    row_of : Row table (length first) i
    row_of =
        let counted = child_count_at (length first) placed in
        record {
          root_letter = first_letter i;
          first_is = rw (counted, start) (first_child_at (length first) placed);
          rising = rw (counted, start, children-length one) children_rising;
          ahead = rw start before_children;
        }

  forest : Forest (rows (length first) nodes) (length first) (length nodes)
  forest = record {
    row = λ i h. row_of (placed_at nodes i no_node h);
    whole = total_below (length nodes) (omega arith) ∙ rw take-length (sym (ap length again ∙ length-append first (below nodes)));
    inside = omega (arith, rows_length (length first) nodes);
  }

-- ## The table of bounded groups

bare_roots : (number : ℕ) (groups : List Group) → Every (λ one. one.tail ≡ []) (roots number groups)
unfolding roots
bare_roots number [] = tt
bare_roots number (group ∷ groups) = (refl, bare_roots (number + length group.rules) groups)

pub layout_forest : (groups : List Group) → bounded groups ≡ true → Forest (table_of groups) (length groups) (length (nodes_of groups))
unfolding table_of
layout_forest groups all =
    rw (← roots_length 1 groups) (forest (roots 1 groups) (nodes_of groups) (nodes_again groups all) (bare_roots 1 groups))
