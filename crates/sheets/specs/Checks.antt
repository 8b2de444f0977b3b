-- What a check of a sheet gives: document 01's number and value, and how many groups the sheet has.
use Rattle.std.specs.Prelude.{ℕ, List, length}
use Rattle.paper.specs.Nodes.{node_count}
use Rattle.answers.specs.Answers.{Check, counting, faulty_at}
use Rattle.sheets.specs.Sheets.{Sheet, refused, accepted, read_sheet}

abbrev pub check_of : Sheet → Check
check_of (refused place) = faulty_at place
check_of (accepted groups) = counting (node_count groups) (length groups)

unfoldable pub checked : List ℕ → Check
checked sheet = check_of (read_sheet sheet)
