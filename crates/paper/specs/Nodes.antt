-- How many nodes the table of some groups has: document 01, "The table".
use Rattle.std.specs.Prelude.{ℕ, suc, ◌+◌, Bool, false, cond, ◌||◌, List, [], ◌∷◌, ◌++◌}
use Rattle.paper.specs.Groups.{Rule, Group, same}

-- the non-empty tails of an ending, the longest first: of eed they are eed, ed and d
unfoldable pub tails : List ℕ → List (List ℕ)
tails [] = []
tails (letter ∷ letters) = (letter ∷ letters) ∷ tails letters

-- the tails of the endings of these rules
unfoldable pub tails_of : List Rule → List (List ℕ)
tails_of [] = []
tails_of (rule ∷ rules) = tails rule.ending ++ tails_of rules

unfoldable pub member : List ℕ → List (List ℕ) → Bool
member tail [] = false
member tail (one ∷ more) = same tail one || member tail more

-- how many of these are distinct, beside those already seen
unfoldable pub distinct : List (List ℕ) → List (List ℕ) → ℕ
distinct seen [] = 0
distinct seen (tail ∷ more) =
    let known = distinct seen more in
    let new = suc (distinct (tail ∷ seen) more) in
    cond (member tail seen) known new

-- "the roots plus, for each group, the distinct non-empty tails of its endings"
unfoldable pub node_count : List Group → ℕ
node_count [] = 0
node_count (group ∷ groups) = suc (distinct [] (tails_of group.rules) + node_count groups)
