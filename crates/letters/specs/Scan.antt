-- What the forward scan of `letters` keeps, said of the letters passed.
use Rattle.std.specs.Prelude.{ℕ, ◌≡◌, List, [], ◌∷◌}
use Rattle.paper.specs.Letters.{letters}
use Rattle.paper.specs.States.{state as state_of, state_at}
use Rattle.paper.specs.Noted.{ends_in_consonant}
use Rattle.letters.specs.declared.Passed.{Passed}

-- "kept as a table of two rows of 26": odd for a vowel
unfoldable pub class_table : List (List ℕ)
class_table = letters "10201020102020102020102020" ∷ letters "10201020102020102020102010" ∷ []

-- the scan's numbers are those of the letters passed
pub record Scanned (part : List ℕ) (s : Passed) : Type 0 where
  pub state : s.state ≡ state_of part
  pub before : s.before ≡ state_at 1 part
  pub earlier : s.earlier ≡ state_at 2 part
  pub consonant : s.consonant ≡ ends_in_consonant part
