-- Numbers and tables in bytes, the lower byte first.
use Rattle.std.specs.Prelude.{ℕ, ◌+◌, ◌*◌, ◌/◌, ◌%◌, List, [], ◌∷◌}

-- the number that bytes make
abbrev pub number_of : List ℕ → ℕ
number_of [] = 0
number_of (byte ∷ bytes) = byte + 256 * number_of bytes

-- a number in four bytes
abbrev pub coded : ℕ → List ℕ
coded n = n % 256 ∷ n / 256 % 256 ∷ n / 65536 % 256 ∷ n / 16777216 % 256 ∷ []

-- numbers below 65,536, each in two bytes
abbrev pub coded_table : List ℕ → List ℕ
coded_table [] = []
coded_table (n ∷ numbers) = n % 256 ∷ n / 256 % 256 ∷ coded_table numbers
