-- What the walk of all groups hands back says of the reading.
use Rattle.std.specs.Prelude.{ℕ, ◌≤◌, ◌≡◌, Option, Some, None, List, length, take}
use Rattle.paper.specs.Groups.{Reading, done, outgrown}

-- so many letters are left, and they stand first in the word's place; or some group's result did not fit the place
abbrev pub WalkedAs : Reading → Option ℕ → List ℕ → Type 0
WalkedAs reading (Some size) after = (done (take size after) ≡ reading) × (size ≤ length after)
WalkedAs reading None after = outgrown ≡ reading
