-- What the four numbers of a node lead to: a chain holds the children of its parent, in their order of creation, and looking
-- for a letter in it is looking for the node with that letter.
use Rattle.std.specs.Prelude.{ℕ, zero, suc, ◌+◌, ◌*◌, ◌≤◌, ◌<◌, ◌≡◌, refl, List, [], ◌∷◌, ◌++◌, drop}
use Rattle.std.proofs.Common.{sym, ◌∙◌, append_assoc, arith, add-zero, zero-add, length-append, get_or-drop, ne_eqb}
use Rattle.std.proofs.Math.Path.{ap}
use Rattle.std.proofs.Math.ListN.{length, get_or}
use Rattle.siblings.specs.Layout.{letter_of, is_child, is_sibling, rows}
use Rattle.walks.specs.Ends.{Node, node, same_node}
use Rattle.paper.specs.Numbered.{number_of}
use Rattle.siblings.specs.Chains.{letter, first_child, next_sibling, first_rule, in_chain, child}
use Rattle.paper.specs.TestLaws.{by_test}
use Rattle.paper.specs.NumberedLaws.{number_cong}
use Rattle.siblings.specs.KinLaws.{child_letter, no_child, child_siblings, root_no_child}

pub rows_length : (nodes rules : List Node) (number : ℕ) (some : List Node) → length (rows nodes rules number some) ≡ 4 * length some
unfolding rows
rows_length nodes rules number [] = refl
rows_length nodes rules number (one ∷ later) = let rest = rows_length nodes rules (suc number) later in omega arith

-- the rows from a node on
pub rows_drop : (nodes rules : List Node) (number : ℕ) (before later : List Node)
    → drop (4 * length before) (rows nodes rules number (before ++ later)) ≡ rows nodes rules (number + length before) later
unfolding rows
rows_drop nodes rules number [] later = rw add-zero
rows_drop nodes rules number (one ∷ before) later =
    let four : 4 * suc (length before) ≡ suc (suc (suc (suc (4 * length before)))) = omega arith in
    let next : number + suc (length before) ≡ suc number + length before = omega arith in
    rw (four, next) (rows_drop nodes rules (suc number) before later)

-- ## The four numbers of the node that stands after `before`

module _ (nodes rules before : List Node) (one : Node) (later : List Node) (split : before ++ one ∷ later ≡ nodes) where
  column : (i : ℕ) → get_or (rows nodes rules 0 nodes) (4 * length before + i) 0 ≡ get_or (rows nodes rules (length before) (one ∷ later)) i 0
  column i =
      let whole = rows_drop nodes rules 0 before (one ∷ later) in
      let there : drop (4 * length before) (rows nodes rules 0 nodes) ≡ rows nodes rules (length before) (one ∷ later) =
      ap (λ (list : List Node). drop (4 * length before) (rows nodes rules 0 list)) (sym split) ∙ rw zero-add at whole in
      sym (get_or-drop (4 * length before) (rows nodes rules 0 nodes) i 0) ∙ rw there

  pub letter_at : letter (rows nodes rules 0 nodes) (length before) ≡ letter_of one.tail
  unfolding rows
  letter_at = ap (λ (i : ℕ). get_or (rows nodes rules 0 nodes) i 0) (sym (add-zero (4 * length before))) ∙ column 0

  pub first_child_at : first_child (rows nodes rules 0 nodes) (length before) ≡ number_of (is_child one) 0 nodes
  unfolding rows
  first_child_at = column 1

  pub next_sibling_at : next_sibling (rows nodes rules 0 nodes) (length before)
      ≡ number_of (is_sibling one.group one.tail) (suc (length before)) later
  unfolding rows
  next_sibling_at = column 2

  pub first_rule_at : first_rule (rows nodes rules 0 nodes) (length before) ≡ number_of (same_node one) 1 rules
  unfolding rows
  first_rule_at = column 3

-- Looking for a letter in the chain of a parent, from its first child among `later` on
pub chain_finds : (nodes rules : List Node) (parent : Node) (wanted : ℕ) (steps : ℕ) (before later : List Node) → before ++ later ≡ nodes
    → 0 < length before → length later ≤ steps
    → in_chain steps (rows nodes rules 0 nodes) wanted (number_of (is_child parent) (length before) later)
    ≡ number_of (same_node (node parent.group (wanted ∷ parent.tail))) (length before) later
unfolding in_chain number_of
chain_finds nodes rules parent wanted zero before [] split h l = refl
chain_finds nodes rules parent wanted (suc steps) before [] split h l = refl
chain_finds nodes rules parent wanted zero before (one ∷ later) split h l = absurd (omega arith)
chain_finds nodes rules parent wanted (suc steps) before (one ∷ later) split h l =
    let passed : length (before ++ one ∷ []) ≡ suc (length before) = omega (arith, length-append before (one ∷ [])) in
    let moved = append_assoc before (one ∷ []) later ∙ split in
    let next = suc (length before) in
    let beyond : 0 < length (before ++ one ∷ []) = omega arith in
    let tail = one.tail in
    by_test (is_child parent one)
    (λ p.
    let rest = rw passed at (chain_finds nodes rules parent wanted steps (before ++ one ∷ []) later moved beyond (omega arith)) in
    let not_root = ne_eqb (length before) 0 (λ z. omega arith) in
    let siblings = number_cong (is_sibling one.group tail) (is_child parent) (child_siblings parent one.group tail p) next later in
    rw (
      p,
      not_root,
      letter_at nodes rules before one later split,
      next_sibling_at nodes rules before one later split,
      siblings,
      rest,
      child_letter wanted parent one.group tail p,
    ))
    (λ p.
    let rest = rw passed at (chain_finds nodes rules parent wanted (suc steps) (before ++ one ∷ []) later moved beyond (omega arith)) in
    rw (p, no_child wanted parent one p) rest)

-- the child of a letter, in a table whose first node is a root
pub child_finds : (root : ℕ) (others rules before : List Node) (parent : Node) (later : List Node) (wanted : ℕ)
    → before ++ parent ∷ later ≡ node root [] ∷ others
    → child (rows (node root [] ∷ others) rules 0 (node root [] ∷ others)) (length before) wanted
    ≡ number_of (same_node (node parent.group (wanted ∷ parent.tail))) 0 (node root [] ∷ others)
unfolding child number_of
child_finds root others rules before parent later wanted split =
    let nodes = node root [] ∷ others in
    let none_there = root_no_child parent root in
    let enough : length others ≤ length (rows nodes rules 0 nodes) = omega (arith, rows_length nodes rules 0 nodes) in
    let found = chain_finds nodes rules parent wanted (length (rows nodes rules 0 nodes)) (node root [] ∷ []) others refl
    (omega arith) enough in
    rw (first_child_at nodes rules before parent later split, none_there, no_child wanted parent (node root []) none_there) found
