-- How many bytes came on standard input: 0 if it could not be read.
use Rattle.std.specs.Prelude.{ℕ, Result, Ok, Err}

abbrev pub came : {E : Type 0} → Result ℕ E → ℕ
came (Ok count) = count
came (Err _) = 0
