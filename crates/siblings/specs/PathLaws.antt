-- Paths through the rows of a list of nodes: if a group's nodes are exactly the tails of its endings, a path exists exactly
-- for these, and the table is faithful to the group.
use Rattle.std.specs.Prelude.{ℕ, ◌≡◌, true, false, cond, eqb}
use Rattle.std.proofs.Common.{sym, ◌∙◌, zero-add, lit<}
use Rattle.std.proofs.Math.Path.{ap}
use Rattle.std.proofs.Math.Bool.{not, and-false}
use Rattle.std.proofs.lemmas.Bool.{false≢true}
use mathlib.Core.List.{List, [], ◌∷◌}
use Rattle.std.proofs.Math.Option.{none, some}
use Rattle.paper.specs.Groups.{Rule, same}
use Rattle.siblings.specs.Layout.{present, rows}
use Rattle.walks.specs.Ends.{Node, node, same_node}
use Rattle.paper.specs.Numbered.{number_of}
use Rattle.siblings.specs.Chains.{first_rule, child, nodes_in}
use Rattle.walks.specs.Walk.{onward, reached, held}
use Rattle.walks.specs.Faithful.{exists, leads, FaithfulGroup}
use Rattle.paper.specs.Numbered.{first_with}
use Rattle.paper.specs.TestLaws.{by_test}
use Rattle.walks.specs.TailLaws.{leads-parent, leads-nowhere}
use Rattle.siblings.specs.PresentLaws.{number_missing, stands}
use Rattle.siblings.specs.ChainLaws.{child_finds, first_rule_at}

-- a tail with a letter is not a root's
pub not_root : (group letter root : ℕ) (parent : List ℕ) → same_node (node group (letter ∷ parent)) (node root []) ≡ false
unfolding same_node same
not_root group letter root parent = and-false (eqb group root)

-- so its number, counted from 0, is 0 exactly where the node is missing
pub letter_missing : (group letter root : ℕ) (parent : List ℕ) (others : List Node)
    → eqb (number_of (same_node (node group (letter ∷ parent))) 0 (node root [] ∷ others)) 0
    ≡ not (present (node group (letter ∷ parent)) (node root [] ∷ others))
unfolding number_of present
letter_missing group letter root parent others =
    rw (not_root group letter root parent) (number_missing (node group (letter ∷ parent)) 1 others (lit< tt))

module _ (root : ℕ) (others ends : List Node) (group number : ℕ) (rules : List Rule)
    (here : number_of (same_node (node group [])) 0 (node root [] ∷ others) ≡ group)
    (tails-present : (tail : List ℕ) → present (node group tail) (node root [] ∷ others) ≡ leads rules tail)
    (ends-first : (tail : List ℕ) → number_of (same_node (node group tail)) 1 ends ≡ first_with number rules tail) where
  -- the node of a tail, by its number
  abbrev found : List ℕ → ℕ
  found tail = number_of (same_node (node group tail)) 0 (node root [] ∷ others)

  abbrev table : List ℕ
  table = rows (node root [] ∷ others) ends 0 (node root [] ∷ others)

  child_found : (letter : ℕ) (parent : List ℕ) → leads rules parent ≡ true → child table (found parent) letter ≡ found (letter ∷ parent)
  child_found letter parent e =
      let there = stands (node group parent) 0 (node root [] ∷ others) (tails-present parent ∙ e) in
      rw (there.number, zero-add) (child_finds root others ends there.before (node group parent) there.later letter there.split)

  rule_found : (tail : List ℕ) → leads rules tail ≡ true → first_rule table (found tail) ≡ first_with number rules tail
  rule_found tail e =
      let there = stands (node group tail) 0 (node root [] ∷ others) (tails-present tail ∙ e) in
      rw (there.number, zero-add) (first_rule_at (node root [] ∷ others) ends there.before (node group tail)
      there.later there.split ∙ ends-first tail)

  onward-found : (letter : ℕ) (parent : List ℕ)
      → onward (nodes_in table) letter (cond (leads rules parent) (some (found parent)) none)
      ≡ cond (leads rules (letter ∷ parent)) (some (found (letter ∷ parent))) none
  unfolding onward
  onward-found letter parent =
      let missing = letter_missing group letter root parent others ∙ ap not (tails-present (letter ∷ parent)) in
      by_test (leads rules parent)
      (λ p. rw (p, child_found letter parent p, missing)
      (by_test (leads rules (letter ∷ parent)) (λ q. rw q) (λ q. rw q)))
      (λ p. by_test (leads rules (letter ∷ parent))
      (λ q. absurd (false≢true (sym p ∙ leads-parent rules letter parent q)))
      (λ q. rw (p, q)))

  -- a path leads to the node of its tail, where there is one
  reached-found : (tail : List ℕ) → reached (nodes_in table) group tail ≡ cond (leads rules tail) (some (found tail)) none
  unfolding reached leads
  reached-found [] = ap some (sym here)
  reached-found (letter ∷ parent) = ap (onward (nodes_in table) letter) (reached-found parent) ∙ onward-found letter parent

  paths_lead : (tail : List ℕ) → exists (reached (nodes_in table) group tail) ≡ leads rules tail
  unfolding exists
  paths_lead tail = rw (reached-found tail) (by_test (leads rules tail) (λ p. rw p) (λ p. rw p))

  paths_hold : (tail : List ℕ) → held (nodes_in table) (reached (nodes_in table) group tail) ≡ first_with number rules tail
  unfolding held
  paths_hold tail =
      rw (reached-found tail)
      (by_test (leads rules tail) (λ p. rw p (rule_found tail p)) (λ p. rw p (sym (leads-nowhere rules number tail p))))

  pub group_faithful : FaithfulGroup (nodes_in (rows (node root [] ∷ others) ends 0 (node root [] ∷ others))) group number rules
  group_faithful = record { paths = paths_lead; holding = paths_hold }
