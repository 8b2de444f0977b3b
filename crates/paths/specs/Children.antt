-- Document 01, "The table", as W-206 amends it: the four numbers of a node, and the child of a node for a letter. Only single letters
-- are compared.
use Rattle.std.specs.Prelude.{ℕ, zero, suc, ◌+◌, ◌*◌, cond, List, eqb, ltb, get_or, Option as Answer, Some, None}
use Rattle.std.proofs.Math.Option.{Option, none, some}
use Rattle.walks.specs.Walk.{Nodes}

-- "Nodes of four 16-bit numbers: letter, first child, count of children, first rule."
abbrev pub letter : List ℕ → ℕ → ℕ
letter table at = get_or table (4 * at) 0

abbrev pub first_child : List ℕ → ℕ → ℕ
first_child table at = get_or table (4 * at + 1) 0

abbrev pub child_count : List ℕ → ℕ → ℕ
child_count table at = get_or table (4 * at + 2) 0

abbrev pub first_rule : List ℕ → ℕ → ℕ
first_rule table at = get_or table (4 * at + 3) 0

-- the node of this letter among so many that stand together from a node on, 0 for none. They stand "in rising letter order", so behind
-- a greater letter there is none.
unfoldable pub sought : ℕ → List ℕ → ℕ → ℕ → ℕ
sought zero table one at = 0
sought (suc count) table one at =
    let later = sought count table one (suc at) in
    cond (ltb (letter table at) one) later (cond (eqb one (letter table at)) at 0)

-- "a child of that letter", 0 for none
unfoldable pub child : List ℕ → ℕ → ℕ → ℕ
child table at one = sought (child_count table at) table one (first_child table at)

-- the node that such a number names
abbrev pub named : ℕ → Answer ℕ
named at = cond (eqb at 0) None (Some at)

-- a node, or none, as it is handed back
abbrev pub handed : Option ℕ → Answer ℕ
handed none = None
handed (some at) = Some at

-- the nodes that a table's numbers lay out
abbrev pub nodes_in : List ℕ → Nodes
nodes_in table = record { child = child table; rule = first_rule table }
