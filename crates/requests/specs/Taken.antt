-- What stood in an input where a part of a request was looked for, by the bytes that were left before and after.
use Rattle.std.specs.Prelude.{◌≡◌, ℕ, ◌*◌, ◌%◌, ◌<◌, ◌⊎◌, Option, Some, None}
use Rattle.std.specs.Prelude.{List, [], ◌∷◌, ◌++◌, length}
use Rattle.std.specs.Io.KnownBytes.{Consumes, IsAtEnd}
use Rattle.requests.specs.Parts.{number_of}

-- a first byte, or nothing
abbrev pub TakesStart : Option ℕ → Option (List ℕ) → Option (List ℕ) → Type 0
TakesStart (Some kind) old new = Consumes old new (kind ∷ [])
TakesStart None old new = IsAtEnd old

-- a number in four bytes
abbrev pub TakesNumber : ℕ → Option (List ℕ) → Option (List ℕ) → Type 0
TakesNumber n old new = (four : List ℕ) × (length four ≡ 4) × (number_of four ≡ n) × Consumes old new four

-- a number and as many bytes
abbrev pub TakesArgument : List ℕ → Option (List ℕ) → Option (List ℕ) → Type 0
TakesArgument bytes old new =
    (four : List ℕ) × (length four ≡ 4) × (number_of four ≡ length bytes) × Consumes old new (four ++ bytes)

-- a number over a bound
abbrev pub TakesLonger : ℕ → Option (List ℕ) → Option (List ℕ) → Type 0
TakesLonger bound old new = (n : ℕ) × (bound < n) × TakesNumber n old new

-- an argument that is no table of so many numbers at most: a number is cut, or there are more
abbrev pub TakesNoTable : ℕ → Option (List ℕ) → Option (List ℕ) → Type 0
TakesNoTable most old new =
    (bytes : List ℕ) × TakesArgument bytes old new × ((length bytes % 2 ≡ 1) ⊎ (2 * most < length bytes))
