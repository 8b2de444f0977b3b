-- The table that bounded groups are laid out in is faithful to them: by its children a path exists exactly for the tails of a group's
-- endings, and it leads to the node of that tail.
use Rattle.std.specs.Prelude.{ℕ, suc, ◌+◌, ◌<◌, ◌≡◌, refl, true, false, length}
use Rattle.std.proofs.Common.{sym, ◌∙◌, arith, length-append}
use Rattle.std.proofs.lemmas.Bool.{false≢true}
use mathlib.Core.List.{List, [], ◌∷◌, ◌++◌, append_assoc}
use Rattle.std.proofs.Math.Option.{none, some}
use borrow.Author.Tests.{ne_eqb}
use Rattle.paper.specs.Groups.{Rule, Group}
use Rattle.paper.specs.Nodes.{tails_of, member}
use Rattle.paper.specs.Numbered.{first_with}
use Rattle.paper.specs.TestLaws.{and_left, and_right, by_test}
use Rattle.sheets.specs.SheetBytes.{all_allowed, groups_allowed, bounded}
use Rattle.sheets.specs.ReadBack.{within}
use Rattle.walks.specs.Walk.{onward, reached, held}
use Rattle.walks.specs.Faithful.{exists, leads, FaithfulGroup, FaithfulFrom, Faithful}
use Rattle.walks.specs.TailLaws.{leads-parent, leads-nowhere}
use Rattle.paths.specs.Children.{nodes_in}
use Rattle.levels.specs.Layout.{Node, node, alphabet, roots, standing, below, nodes_of, rows, table_of}
use Rattle.levels.specs.LevelLaws.{nodes_again, roots_length}
use Rattle.levels.specs.RowLaws.{Placed, first_rule_at}
use Rattle.levels.specs.RisingLaws.{number_there, number_missing, letters_stand}
use Rattle.levels.specs.ChildPlaces.{children_at, child_placed, child_number}

-- ## One group

module _ (first nodes : List Node) (again : nodes ≡ first ++ below nodes) (behind : 0 < length first)
    (root number : ℕ) (rules : List Rule) (all : all_allowed rules ≡ true) (here : Placed nodes root (node number rules [])) where
  abbrev table : List ℕ
  table = rows (length first) nodes

  -- the letters lead to the node of a tail
  record Found (tail : List ℕ) : Type 0 where
    at : ℕ
    reaches : reached (nodes_in table) root tail ≡ some at
    placed : Placed nodes at (node number rules tail)

  leads_on : (letter : ℕ) (parent : List ℕ) → Found parent → member (letter ∷ parent) (tails_of rules) ≡ true → Found (letter ∷ parent)
  unfolding reached onward
  leads_on letter parent found stands =
      let start = children_at first found.placed.front in
      let there = number_there letter (standing rules parent alphabet) (letters_stand rules all letter parent ∙ stands) in
      let number = child_number first again found.placed letter ∙ there.number start in
      record {
        at = start + there.place;
        reaches = rw (found.reaches, onward, number, ne_eqb (start + there.place) 0 (λ none. omega arith));
        placed = child_placed first again found.placed there.placed;
      }

  leads_off : (letter : ℕ) (parent : List ℕ) → Found parent → member (letter ∷ parent) (tails_of rules) ≡ false
      → reached (nodes_in table) root (letter ∷ parent) ≡ none
  unfolding reached onward
  leads_off letter parent found stands =
      let start = children_at first found.placed.front in
      let absent = number_missing letter (standing rules parent alphabet) start (letters_stand rules all letter parent ∙ stands) in
      rw (found.reaches, onward, child_number first again found.placed letter, absent)

  found : (tail : List ℕ) → leads rules tail ≡ true → Found tail
  unfolding reached leads
  found [] e = record { at = root; reaches = refl; placed = here }
  found (letter ∷ parent) e = leads_on letter parent (found parent (leads-parent rules letter parent e)) e

  missing : (tail : List ℕ) → leads rules tail ≡ false → reached (nodes_in table) root tail ≡ none
  unfolding reached onward leads
  missing [] e = absurd (false≢true (sym e))
  missing (letter ∷ parent) e =
      by_test (leads rules parent)
      (λ p. leads_off letter parent (found parent p) e)
      (λ p. rw (missing parent p))

  paths_lead : (tail : List ℕ) → exists (reached (nodes_in table) root tail) ≡ leads rules tail
  unfolding exists
  paths_lead tail = by_test (leads rules tail) (λ p. rw ((found tail p).reaches, p)) (λ p. rw (missing tail p, p))

  paths_hold : (tail : List ℕ) → held (nodes_in table) (reached (nodes_in table) root tail) ≡ first_with number rules tail
  unfolding held
  paths_hold tail =
      by_test (leads rules tail)
      (λ p. let there = found tail p in rw there.reaches (first_rule_at (length first) there.placed))
      (λ p. rw (missing tail p) (sym (leads-nowhere rules number tail p)))

  group_faithful : FaithfulGroup (nodes_in (rows (length first) nodes)) root number rules
  group_faithful = record { paths = paths_lead; holding = paths_hold }

-- ## All groups

faithful_from : (first nodes : List Node) (again : nodes ≡ first ++ below nodes) (behind : 0 < length first)
    (rest front : List Node) (number : ℕ) (groups : List Group) → groups_allowed groups ≡ true
    → front ++ (roots number groups ++ rest) ≡ nodes
    → FaithfulFrom (nodes_in (rows (length first) nodes)) (length front) number groups
unfolding FaithfulFrom groups_allowed roots
faithful_from first nodes again behind rest front number [] all split = tt
faithful_from first nodes again behind rest front number (group ∷ groups) all split =
    let rules = group.rules in
    let root = node number rules [] in
    let next = number + length rules in
    let later = roots next groups ++ rest in
    let here : Placed nodes (length front) root = record { front = front; later = later; split = split; place = refl } in
    let passed : length (front ++ root ∷ []) ≡ suc (length front) = omega (arith, length-append front (root ∷ [])) in
    let others = faithful_from first nodes again behind rest (front ++ root ∷ []) next groups
    (and_right (all_allowed rules) (groups_allowed groups) all)
    (append_assoc front (root ∷ []) later ∙ split) in (
      group_faithful first nodes again behind (length front) number rules (and_left (all_allowed rules) (groups_allowed groups) all) here,
      rw passed at others,
    )

some_groups : (groups : List Group) → bounded groups ≡ true → 0 < length groups → FaithfulFrom (nodes_in (table_of groups)) 0 1 groups
unfolding table_of
some_groups groups all more =
    let first = roots 1 groups in
    let again = nodes_again groups all in
    rw (← roots_length 1 groups)
    (faithful_from first (nodes_of groups) again (omega (arith, roots_length 1 groups)) (below (nodes_of groups)) [] 1 groups
    (within groups all).each (sym again))

pub layout_faithful : (groups : List Group) → bounded groups ≡ true → Faithful (nodes_in (table_of groups)) groups
unfolding Faithful FaithfulFrom
layout_faithful [] all = tt
layout_faithful (group ∷ groups) all = some_groups (group ∷ groups) all (omega arith)
