-- Document 02, W-207: the lines of a supplier's vocabulary as data, the text of each by printing it, and what a call answers. Nothing here
-- reads a list.
use Rattle.std.specs.Prelude.{ℕ, Bool, false, not, ◌&&◌, List, ◌++◌, leb, length}
use Rattle.paper.specs.Letters.{letters}
use Rattle.paper.specs.Groups.{Reading, done, outgrown, same}
use Rattle.paper.specs.Numbered.{number_of}
use Rattle.paper.specs.Shipped.{shipped}
use Rattle.paper.specs.Words.{stem, wrong_length, all_small}
use Rattle.answers.specs.Answers.{Said}
use Rattle.printed.specs.Printed.{Whole, FirstFault}

-- ## The lines
-- "a word .. its stem"
pub record Pair : Type 0 where
  pub word : List ℕ
  pub stem : List ℕ

abbrev pub pair : List ℕ → List ℕ → Pair
pair word stem = record { word = word; stem = stem }

-- "each a word, one space, its stem and a line feed", which `text_of` adds
unfoldable pub print : Pair → List ℕ
print one = one.word ++ (letters " " ++ one.stem)

-- "A word has 1 to 64 small letters, a stem 0 to 64 of them."
unfoldable pub form : Pair → Bool
form one =
    not (wrong_length one.word) && all_small one.word && leb (length one.stem) 64 && all_small one.stem

-- whatever stands before it
unfoldable pub taken : List Pair → Pair → Bool
taken before one = form one

-- ## The stems
-- what going through the rules gives is this stem
abbrev pub gives : Reading → List ℕ → Bool
gives (done word) given = same word given
gives outgrown given = false

-- "whose stem is not that of demand 2"
unfoldable pub wrong : Pair → Bool
wrong one = not (gives (stem shipped one.word) one.stem)

-- ## A call
-- a number, and the value returned besides it
abbrev pub said : ℕ → ℕ → Said
said number value = record { number = number; value = value }

-- what a call on a list answers
pub data Checks (list : List ℕ) : Said → Type 0 where
  -- "11, the first line not of this form, with its number, judged for the whole list before any stem"
  misformed : (line : ℕ) → FirstFault print taken list line → Checks list (said 11 line)
  -- "the number, from 1, of the first line whose stem is not that of demand 2. Number 0 returns that line, or 0 exactly when every line is
  -- right"
  well-formed : (pairs : List Pair) → Whole print taken list pairs → Checks list (said 0 (number_of wrong 1 pairs))
