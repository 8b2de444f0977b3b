-- The four numbers of a node before W-206, and the child of a node for a letter, found along a chain of siblings. Only single letters are
-- compared.
use Rattle.std.specs.Prelude.{ℕ, zero, suc, ◌+◌, ◌*◌, cond, List, eqb, length, get_or}
use Rattle.walks.specs.Walk.{Nodes}

-- "Nodes of four 16-bit numbers: letter, first child, next sibling, first rule."
abbrev pub letter : List ℕ → ℕ → ℕ
letter table at = get_or table (4 * at) 0

abbrev pub first_child : List ℕ → ℕ → ℕ
first_child table at = get_or table (4 * at + 1) 0

abbrev pub next_sibling : List ℕ → ℕ → ℕ
next_sibling table at = get_or table (4 * at + 2) 0

abbrev pub first_rule : List ℕ → ℕ → ℕ
first_rule table at = get_or table (4 * at + 3) 0

-- the node of this letter in the chain that starts at a node, 0 for none. A chain of which no number comes twice has fewer
-- nodes than the table has numbers, so that many steps reach its end.
unfoldable pub in_chain : ℕ → List ℕ → ℕ → ℕ → ℕ
in_chain zero table one at = 0
in_chain (suc steps) table one at =
    let later = in_chain steps table one (next_sibling table at) in
    cond (eqb at 0) 0 (cond (eqb one (letter table at)) at later)

-- "a child of that letter", 0 for none
unfoldable pub child : List ℕ → ℕ → ℕ → ℕ
child table at one = in_chain (length table) table one (first_child table at)

-- the nodes that a table's numbers lay out
abbrev pub nodes_in : List ℕ → Nodes
nodes_in table = record { child = child table; rule = first_rule table }
