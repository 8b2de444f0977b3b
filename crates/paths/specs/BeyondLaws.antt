-- From a root that the table does not have no path leads on, and it holds no rule.
use Rattle.std.specs.Prelude.{ℕ, ◌≤◌, ◌≡◌, length}
use Rattle.std.proofs.Common.{arith}
use mathlib.Core.List.{List, [], ◌∷◌}
use Rattle.std.proofs.Math.Option.{none}
use Rattle.std.proofs.Math.ListN.{get_or-eq_default}
use Rattle.paths.specs.Children.{nodes_in}
use Rattle.paths.specs.ChildLaws.{child_beyond}
use Rattle.walks.specs.Walk.{deepest, onward, reached, held}

module _ (table : List ℕ) (root : ℕ) (beyond : length table ≤ root) where
  no_rule_lem : (nodes_in table).rule root ≡ 0
  no_rule_lem = get_or-eq_default table 0 (omega arith)

  pub deepest-beyond : (letters : List ℕ) → deepest (nodes_in table) root letters ≡ 0
  unfolding deepest
  deepest-beyond [] = no_rule_lem
  deepest-beyond (one ∷ inner) = rw (child_beyond table root one beyond) no_rule_lem

  nowhere : (letter : ℕ) (parent : List ℕ) → reached (nodes_in table) root (letter ∷ parent) ≡ none
  unfolding reached onward
  nowhere letter [] = rw (onward, child_beyond table root letter beyond)
  nowhere letter (next ∷ rest) = rw (nowhere next rest)

  pub held_beyond : (ending : List ℕ) → held (nodes_in table) (reached (nodes_in table) root ending) ≡ 0
  unfolding reached held
  held_beyond [] = no_rule_lem
  held_beyond (letter ∷ parent) = rw (nowhere letter parent)
