-- The reader of one line, on the list of bytes that begins with it: what the code of `line` answers, so that its contract cites it. What a
-- call answers does not: `ReadingLaws` shows that it finds a line exactly where one is printed.
use Rattle.std.specs.Prelude.{ℕ, ◌+◌, Bool, false, cond, Option, Some, None, ◌&&◌, List, [], ◌∷◌, eqb, leb, take, drop}
use Rattle.paper.specs.Words.{first_other}
use Rattle.printed.specs.PrintedLaws.{Got, nothing, got}
use Rattle.vocabularies.specs.Vocabularies.{Pair, pair}
use Rattle.vocabularies.specs.declared.Lengths.{Lengths}

-- the bytes begin with this one
unfoldable pub begins_with : ℕ → List ℕ → Bool
begins_with byte [] = false
begins_with byte (first ∷ more) = eqb first byte

-- so many small letters, at most 64, and this byte behind them
unfoldable pub letters_before : ℕ → List ℕ → Option ℕ
letters_before close rest =
    let count = first_other rest in
    cond (leb count 64 && begins_with close (drop count rest)) (Some count) None

abbrev pub lengths : ℕ → ℕ → Lengths
lengths word stem = record { word = word; stem = stem }

abbrev pub by_stem : ℕ → Option ℕ → Option Lengths
by_stem word (Some stem) = Some (lengths word stem)
by_stem word None = None

abbrev pub by_word : List ℕ → Option ℕ → Option Lengths
by_word rest (Some word) = cond (eqb word 0) None (by_stem word (letters_before 10 (drop (word + 1) rest)))
by_word rest None = None

unfoldable pub found_in : List ℕ → Option Lengths
found_in rest = by_word rest (letters_before 32 rest)

-- the pair whose line stands first in these bytes
abbrev pub pair_in : List ℕ → ℕ → ℕ → Pair
pair_in rest word stem = pair (take word rest) (take stem (drop (word + 1) rest))

-- how many bytes a line takes, with its space and its line feed
abbrev pub size : ℕ → ℕ → ℕ
size word stem = word + 1 + stem + 1

abbrev pub told : List ℕ → Option Lengths → Got Pair
told rest (Some line) = got (pair_in rest line.word line.stem) (drop (size line.word line.stem) rest)
told rest None = nothing

unfoldable pub read_line : List ℕ → Got Pair
read_line rest = told rest (found_in rest)
