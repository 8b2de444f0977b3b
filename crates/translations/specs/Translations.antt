-- Document 01, "Numbers returned": what a translation answers, and what it leaves in the lent table.
use Rattle.std.specs.Prelude.{ℕ, ◌*◌, cond, List, ◌++◌, ltb, length, drop}
use Rattle.paper.specs.Groups.{Group}
use Rattle.paper.specs.Nodes.{node_count}
use Rattle.paper.specs.Words.{Outcome, refused}
use Rattle.sheets.specs.Sheets.{Sheet, refused as faulty, accepted, read_sheet}
use Rattle.levels.specs.Layout.{table_of}

-- "Numbers beyond the nodes of a lent table are unchanged."
unfoldable pub laid_out : List Group → List ℕ → List ℕ
laid_out groups table = table_of groups ++ drop (4 * node_count groups) table

-- "3, 6 for translating": "3 .. the sheet has a faulty record .. place"; "6 .. the lent table is shorter than 4 times the node count
-- .. 0"; "0 .. done .. node count"
unfoldable pub translation_of : Sheet → List ℕ → Outcome
translation_of (faulty place) table = refused 3 place table
translation_of (accepted groups) table =
    cond (ltb (length table) (4 * node_count groups)) (refused 6 0 table)
    (record { number = 0; value = node_count groups; place = laid_out groups table })

-- what a translation gives: the number, the value, and the lent numbers afterwards
unfoldable pub translation : List ℕ → List ℕ → Outcome
translation sheet table = translation_of (read_sheet sheet) table
