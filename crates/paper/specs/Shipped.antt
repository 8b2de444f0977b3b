-- Document 01, "The shipped rules: nine groups, 62 rules", as 01 writes them.
use Rattle.std.specs.Prelude.{ℕ, true, false, List, [], ◌∷◌, ◌++◌, map}
use Prim.Native.String.{String}
use Rattle.paper.specs.Letters.{letters}
use Rattle.paper.specs.Groups.{Rule, replace, single_letter, always, if_opened, Group}

-- condition, ending, replacement
unfoldable pub rule : ℕ → String → String → Rule
rule condition s1 s2 = record { condition = condition; ending = letters s1; action = replace (letters s2); opens = false }

-- the same, of a rule that opens the next group
unfoldable pub opening : ℕ → String → String → Rule
opening condition s1 s2 = record { condition = condition; ending = letters s1; action = replace (letters s2); opens = true }

-- condition; the ending is empty, and a single letter is left of two
unfoldable pub single : ℕ → Rule
single condition = record { condition = condition; ending = []; action = single_letter; opens = false }

unfoldable pub group_1a : List Rule
group_1a = rule 0 "sses" "ss" ∷ rule 0 "ies" "i" ∷ rule 0 "ss" "ss" ∷ rule 0 "s" "" ∷ []

unfoldable pub group_1b : List Rule
group_1b = rule 1 "eed" "ee" ∷ opening 3 "ed" "" ∷ opening 3 "ing" "" ∷ []

-- "run only if opened"
unfoldable pub follow_up : List Rule
follow_up = rule 0 "at" "ate" ∷ rule 0 "bl" "ble" ∷ rule 0 "iz" "ize" ∷ single 5 ∷ rule 6 "" "e" ∷ []

unfoldable pub group_1c : List Rule
group_1c = rule 3 "y" "i" ∷ []

unfoldable pub group_2 : List Rule
group_2 =
    rule 1 "ational" "ate"
    ∷ rule 1 "tional" "tion"
    ∷ rule 1 "enci" "ence"
    ∷ rule 1 "anci" "ance"
    ∷ rule 1 "izer" "ize"
    ∷ rule 1 "abli" "able"
    ∷ rule 1 "alli" "al"
    ∷ rule 1 "entli" "ent"
    ∷ rule 1 "eli" "e"
    ∷ rule 1 "ousli" "ous"
    ∷ rule 1 "ization" "ize"
    ∷ rule 1 "ation" "ate"
    ∷ rule 1 "ator" "ate"
    ∷ rule 1 "alism" "al"
    ∷ rule 1 "iveness" "ive"
    ∷ rule 1 "fulness" "ful"
    ∷ rule 1 "ousness" "ous"
    ∷ rule 1 "aliti" "al"
    ∷ rule 1 "iviti" "ive"
    ∷ rule 1 "biliti" "ble"
    ∷ []

unfoldable pub group_3 : List Rule
group_3 =
    rule 1 "icate" "ic"
    ∷ rule 1 "ative" ""
    ∷ rule 1 "alize" "al"
    ∷ rule 1 "iciti" "ic"
    ∷ rule 1 "ical" "ic"
    ∷ rule 1 "ful" ""
    ∷ rule 1 "ness" ""
    ∷ []

-- "4 ion→, standing after ent"
unfoldable pub group_4 : List Rule
group_4 =
    map (λ s1. rule 2 s1 "")
    ("al" ∷ "ance" ∷ "ence" ∷ "er" ∷ "ic" ∷ "able" ∷ "ible" ∷ "ant" ∷ "ement" ∷ "ment" ∷ "ent" ∷ [])
    ++ rule 4 "ion" ""
    ∷ map (λ s1. rule 2 s1 "") ("ou" ∷ "ism" ∷ "ate" ∷ "iti" ∷ "ous" ∷ "ive" ∷ "ize" ∷ [])

unfoldable pub group_5a : List Rule
group_5a = rule 2 "e" "" ∷ rule 7 "e" "" ∷ []

unfoldable pub group_5b : List Rule
group_5b = single 8 ∷ []

abbrev group : List Rule → Group
group rules = record { gate = always; rules = rules }

-- (what a definition names on its `unfolding` line opens with it, so that whoever opens this one can compute with the list)
unfoldable pub shipped : List Group
unfolding letters rule opening single group_1a group_1b follow_up group_1c group_2 group_3 group_4 group_5a group_5b
shipped =
    group group_1a
    ∷ group group_1b
    ∷ record { gate = if_opened; rules = follow_up }
    ∷ group group_1c
    ∷ group group_2
    ∷ group group_3
    ∷ group group_4
    ∷ group group_5a
    ∷ group group_5b
    ∷ []
