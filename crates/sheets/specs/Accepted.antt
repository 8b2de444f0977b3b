-- An accepted sheet, and the groups that a sheet holds.
use Rattle.std.specs.Prelude.{ℕ, ◌≡◌, List, []}
use Rattle.paper.specs.Groups.{Group}
use Rattle.sheets.specs.Sheets.{Sheet, refused, accepted, read_sheet}

-- the groups of a sheet; none where it is refused
unfoldable pub groups_in : Sheet → List Group
groups_in (refused place) = []
groups_in (accepted groups) = groups

unfoldable pub groups_of : List ℕ → List Group
groups_of sheet = groups_in (read_sheet sheet)

abbrev pub Accepted : List ℕ → Type 0
Accepted sheet = read_sheet sheet ≡ accepted (groups_of sheet)
