-- W-203 of document 02, "deciding by the second last letter before comparing endings": an index of a group names a block of its rules for
-- each letter that stands second last in an ending, and a word is compared with the endings of its own block alone.
use Rattle.std.specs.Prelude.{ℕ, suc, ◌+◌, ◌-◌, ◌/◌, ◌%◌, ◌^◌, max, Bool, true, cond, ◌&&◌, ◌||◌, List, [], ◌∷◌, eqb, ltb, leb, length, take, drop}
use Prim.Native.Char.{code}
use Prim.Native.String.{String}
use Rattle.paper.specs.Letters.{letter_at}
use Rattle.paper.specs.Groups.{Rule}

-- ## Sets of letters

-- a set of letters as a number: a bit for each
unfoldable pub member : ℕ → ℕ → Bool
member set letter = eqb (set / 2 ^ (letter % 32) % 2) 1

-- the set of these letters, no two alike
unfoldable pub set_of : String → ℕ
set_of String.[] = 0
set_of (String.◌∷◌ letter rest) = 2 ^ (code letter % 32) + set_of rest

-- the set of all
abbrev pub every_letter : ℕ
every_letter = 4294967295

-- ## Blocks and indexes

-- rules of a group, from a number up to another, and the letters that their endings have last and third last
pub record Block : Type 0 where
  pub from : ℕ
  pub to : ℕ
  pub lasts : ℕ
  pub thirds : ℕ

-- the letters of a word are in a block's sets
abbrev pub passes : ℕ → ℕ → List ℕ → Bool
passes lasts thirds word = member lasts (letter_at 0 word) && member thirds (letter_at 2 word)

pub record Entry : Type 0 where
  pub letter : ℕ
  pub block : Block

-- an index is a list of letters with their blocks; the block of a letter that is not in it has no rule, and no letter
unfoldable pub block_at : List Entry → ℕ → Block
block_at [] letter = record { from = 0; to = 0; lasts = 0; thirds = 0 }
block_at (entry ∷ index) letter = cond (eqb letter entry.letter) entry.block (block_at index letter)

-- the block of a word
abbrev pub block_of : List Entry → List ℕ → Block
block_of index word = block_at index (letter_at 1 word)

-- what an index names for a letter. A block that no letter passes may have any rules.
unfoldable pub names : List Entry → ℕ → ℕ → ℕ → ℕ → ℕ → Bool
names index letter from to lasts thirds =
    let block = block_at index letter in
    eqb lasts block.lasts
    && (eqb lasts 0 || (eqb from block.from && (eqb to block.to && eqb thirds block.thirds)))

-- the rules whose endings are compared with a word's
unfoldable pub compared : List Entry → List ℕ → List Rule → List Rule
compared index word rules =
    let block = block_of index word in
    cond (passes block.lasts block.thirds word) (take (block.to - block.from) (drop block.from rules)) []

-- how many rules the largest block has
unfoldable pub widest : List Entry → ℕ
widest [] = 0
widest (entry ∷ index) = max (entry.block.to - entry.block.from) (widest index)

-- ## No rule is left out

-- the rule of this number stands in the block, and the block's sets have its last and its third last letter
unfoldable pub in_block : Block → ℕ → Rule → Bool
in_block block number rule =
    (leb block.from number && ltb number block.to)
    && (member block.lasts (letter_at 0 rule.ending)
    && (eqb block.thirds every_letter || (ltb 2 (length rule.ending) && member block.thirds (letter_at 2 rule.ending))))

-- the rule has a second last letter, and stands in the block of that letter
unfoldable pub keeps_one : List Entry → ℕ → Rule → Bool
keeps_one index number rule = ltb 1 (length rule.ending) && in_block (block_at index (letter_at 1 rule.ending)) number rule

unfoldable pub keeps_from : List Entry → ℕ → List Rule → Bool
keeps_from index number [] = true
keeps_from index number (rule ∷ rules) = keeps_one index number rule && keeps_from index (suc number) rules

-- every block is a part of so many rules
unfoldable pub bounded : ℕ → List Entry → Bool
bounded n [] = true
bounded n (entry ∷ index) = (leb entry.block.from entry.block.to && leb entry.block.to n) && bounded n index

-- the test of an index
unfoldable pub keeps : List Rule → List Entry → Bool
keeps rules index = bounded (length rules) index && keeps_from index 0 rules
