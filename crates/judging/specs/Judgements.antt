-- Document 01, "Numbers returned": what is said of a sheet and a lent table, before a word is looked at.
use Rattle.std.specs.Prelude.{ℕ, ◌*◌, Bool, cond, Result, Ok, Err, List, take}
use Rattle.answers.specs.declared.RunRefusal.{RunRefusal}
use Rattle.answers.specs.declared.RunRefusal.TheVariants.{Sheet as Unread, Table}
use Rattle.paper.specs.Groups.{Group, same}
use Rattle.paper.specs.Nodes.{node_count}
use Rattle.sheets.specs.Sheets.{Sheet, refused, accepted, read_sheet}
use Rattle.levels.specs.Layout.{table_of}

-- "7: the table's first 4 × node count numbers are missing or not those the sheet makes"
unfoldable pub right_table : List Group → List ℕ → Bool
right_table groups table = same (take (4 * node_count groups) table) (table_of groups)

-- "3, 7": the place of the first faulty record; that the table is another; or how many nodes it has
unfoldable pub judgement_of : Sheet → List ℕ → Result ℕ RunRefusal
judgement_of (refused place) table = Err (Unread (record { place = place }))
judgement_of (accepted groups) table = cond (right_table groups table) (Ok (node_count groups)) (Err Table)

unfoldable pub judgement : List ℕ → List ℕ → Result ℕ RunRefusal
judgement sheet table = judgement_of (read_sheet sheet) table
