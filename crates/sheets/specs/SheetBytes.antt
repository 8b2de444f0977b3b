-- Document 01, "The sheet", from the other side: the bytes of a list of groups, and which lists are within 01's bounds. Nothing
-- here reads a sheet.
use Rattle.std.specs.Prelude.{ℕ, ◌+◌, Bool, true, ◌&&◌, List, [], ◌∷◌, ◌++◌, eqb, leb, length}
use Rattle.paper.specs.Groups.{Rule, Group, number_of_gate}
use Rattle.records.specs.Framing.{record_of}
use Rattle.records.specs.RecordBytes.{gate_body, rule_body, allowed}

unfoldable pub rules_bytes : List Rule → List ℕ
rules_bytes [] = []
rules_bytes (rule ∷ rules) = record_of 2 (rule_body rule) ++ rules_bytes rules

unfoldable pub groups_bytes : List Group → List ℕ
groups_bytes [] = []
groups_bytes (group ∷ groups) = record_of 1 (gate_body group.gate) ++ (rules_bytes group.rules ++ groups_bytes groups)

-- the bytes of a list of groups: each group's record and its rules', and "Kind 3, end: empty body, nothing after it"
unfoldable pub sheet_of : List Group → List ℕ
sheet_of groups = groups_bytes groups ++ record_of 3 []

unfoldable pub all_allowed : List Rule → Bool
all_allowed [] = true
all_allowed (rule ∷ rules) = allowed rule && all_allowed rules

unfoldable pub groups_allowed : List Group → Bool
groups_allowed [] = true
groups_allowed (group ∷ groups) = all_allowed group.rules && groups_allowed groups

unfoldable pub rule_count : List Group → ℕ
rule_count [] = 0
rule_count (group ∷ groups) = length group.rules + rule_count groups

-- the first group is always run
abbrev pub first_always : List Group → Bool
first_always [] = true
first_always (group ∷ groups) = eqb (number_of_gate group.gate) 0

-- at most 16 groups, the first always run, at most 128 rules in all, each within its bounds
unfoldable pub bounded : List Group → Bool
bounded groups =
    leb (length groups) 16 && first_always groups && leb (rule_count groups) 128 && groups_allowed groups
