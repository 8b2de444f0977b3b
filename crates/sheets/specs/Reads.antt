-- What is told of a sheet that is read: how many groups it holds, or the place of its first faulty record.
use Rattle.std.specs.Prelude.{ℕ, ◌≡◌, Result, Ok, Err, List, length}
use Rattle.answers.specs.declared.FaultySheet.{FaultySheet}
use Rattle.sheets.specs.Sheets.{refused, read_sheet}
use Rattle.sheets.specs.Accepted.{groups_of, Accepted}

abbrev pub ReadAs : List ℕ → Result ℕ FaultySheet → Type 0
ReadAs sheet (Ok groups) = Accepted sheet × (groups ≡ length (groups_of sheet))
ReadAs sheet (Err fault) = read_sheet sheet ≡ refused fault.place
