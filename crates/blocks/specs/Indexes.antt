-- The indexes of steps 2 to 4, and that they leave no rule of the shipped list out: one computed test for each.
use Rattle.std.specs.Prelude.{ℕ, ◌≤◌, ◌≡◌, refl, Bool, true, List, [], ◌∷◌, length}
use Prim.Native.Char.{Char, code}
use Prim.Native.String.{String}
use Rattle.paper.specs.Letters.{letters, inward, letter_at}
use Rattle.paper.specs.Groups.{Rule}
use Rattle.paper.specs.Shipped.{rule, group_2, group_3, group_4}
use Rattle.blocks.specs.Blocks.{member, set_of, every_letter, Entry, block_at, compared, widest}
use Rattle.blocks.specs.Blocks.{in_block, keeps_one, keeps_from, bounded, keeps}
use Rattle.blocks.specs.BlocksLaws.{compared_few}
use Rattle.blocks.specs.declared.Index.{Index}
use Rattle.blocks.specs.declared.Index.TheVariants.{Step2, Step3, Step4}

-- a letter, the rules that have it second last from a number up to another, and their letters last and third last
unfoldable pub at : Char → ℕ → ℕ → String → String → Entry
at letter from to lasts thirds =
    record { letter = code letter; block = record { from = from; to = to; lasts = set_of lasts; thirds = set_of thirds } }

-- the same where an ending has two letters, so that any may stand third last in the word
unfoldable pub at_any : Char → ℕ → ℕ → String → Entry
at_any letter from to lasts =
    record { letter = code letter; block = record { from = from; to = to; lasts = set_of lasts; thirds = every_letter } }

-- ational and tional; enci and anci; izer; abli to ousli; ization to ator; alism to ousness; aliti to biliti
unfoldable pub index_2 : List Entry
unfolding set_of at
index_2 =
    at "a" 0 2 "l" "n"
    ∷ at "c" 2 4 "i" "n"
    ∷ at "e" 4 5 "r" "z"
    ∷ at "l" 5 10 "i" "belst"
    ∷ at "o" 10 13 "nr" "it"
    ∷ at "s" 13 17 "ms" "ei"
    ∷ at "t" 17 20 "i" "i"
    ∷ []

-- ical; ness; icate to iciti; ful; ative; alize
unfoldable pub index_3 : List Entry
unfolding set_of at
index_3 =
    at "a" 4 5 "l" "c"
    ∷ at "s" 6 7 "s" "e"
    ∷ at "t" 0 4 "ei" "ai"
    ∷ at "u" 5 6 "l" "f"
    ∷ at "v" 1 2 "e" "i"
    ∷ at "z" 2 3 "e" "i"
    ∷ []

-- al; ance and ence; er; ic; able and ible; ant to ent; ion and ou; ism; ate and iti; ous; ive; ize
unfoldable pub index_4 : List Entry
unfolding set_of at at_any
index_4 =
    at_any "a" 0 1 "l"
    ∷ at "c" 1 3 "e" "n"
    ∷ at_any "e" 3 4 "r"
    ∷ at_any "i" 4 5 "c"
    ∷ at "l" 5 7 "e" "b"
    ∷ at "n" 7 11 "t" "ae"
    ∷ at_any "o" 11 13 "nu"
    ∷ at "s" 13 14 "m" "i"
    ∷ at "t" 14 16 "ei" "ai"
    ∷ at "u" 16 17 "s" "o"
    ∷ at "v" 17 18 "e" "i"
    ∷ at "z" 18 19 "e" "i"
    ∷ []

-- ## No rule is left out

-- where this is opened, the test of a group computes
unfoldable pub tested : List Rule → List Entry → Bool
unfolding keeps keeps_from keeps_one bounded in_block block_at member letter_at inward letters rule
tested rules index = keeps rules index

pub keeps_2 : keeps group_2 index_2 ≡ true
unfolding tested group_2 index_2
keeps_2 = refl

pub keeps_3 : keeps group_3 index_3 ≡ true
unfolding tested group_3 index_3
keeps_3 = refl

pub keeps_4 : keeps group_4 index_4 ≡ true
unfolding tested group_4 index_4
keeps_4 = refl

-- ## The code's names of the three

abbrev pub index_of : Index → List Entry
index_of Step2 = index_2
index_of Step3 = index_3
index_of Step4 = index_4

-- the group that the index is of
abbrev pub group_of : Index → List Rule
group_of Step2 = group_2
group_of Step3 = group_3
group_of Step4 = group_4

-- ## Step 2, as W-203 asks

-- of its 20 endings at most 5 are compared
pub step_2_few : (word : List ℕ) → length (compared index_2 word group_2) ≤ 5
unfolding widest index_2
step_2_few word = compared_few index_2 word group_2
