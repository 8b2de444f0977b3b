-- A group's rules as a table: a row of 16 numbers for each, and a rule read back from its row.
use Rattle.std.specs.Prelude.{ℕ, ◌+◌, ◌-◌, ◌*◌, ◌%◌, ◌≤◌, min, cond, List, [], ◌∷◌, ◌++◌, eqb, length, take, drop, get_or}
use Rattle.paper.specs.Letters.{letters}
use Rattle.paper.specs.TestLaws.{one_if}
use Rattle.paper.specs.Groups.{Action, replace, single_letter, written, number_of_action, Rule}

-- ## From the rules to the table

abbrev filler : ℕ → List ℕ
filler n = take n (letters ".-.-.-.")

-- condition, action, opens, the ending's length, the replacement's; the ending at the end of seven places, the replacement in four
unfoldable pub row_of : Rule → List ℕ
row_of rule =
    let s1 = rule.ending in
    let s2 = written rule.action in
    rule.condition
    ∷ number_of_action rule.action
    ∷ one_if rule.opens
    ∷ length s1
    ∷ length s2
    ∷ ((filler (7 - length s1) ++ s1) ++ (s2 ++ filler (4 - length s2)))

unfoldable pub rows_of : List Rule → List ℕ
rows_of [] = []
rows_of (rule ∷ rules) = row_of rule ++ rows_of rules

-- ## From a table to its rules

-- how many letters the ending of a rule has, at most 7, and how many its replacement, at most 4
unfoldable pub size_at : List ℕ → ℕ → ℕ
size_at table k = get_or table (16 * k + 3) 0 % 8

unfoldable pub added_at : List ℕ → ℕ → ℕ
added_at table k = min (get_or table (16 * k + 4) 0) 4

unfoldable pub written_at : List ℕ → ℕ → List ℕ
written_at table k = take (added_at table k) (drop (16 * k + 12) table)

unfoldable pub action_at : List ℕ → ℕ → Action
action_at table k = cond (eqb (get_or table (16 * k + 1) 0) 1) single_letter (replace (written_at table k))

-- the rule of a number, from 0
unfoldable pub rule_at : List ℕ → ℕ → Rule
rule_at table k =
    record {
      condition = get_or table (16 * k) 0;
      ending = take (size_at table k) (drop (16 * k + 12 - size_at table k) table);
      action = action_at table k;
      opens = eqb (get_or table (16 * k + 2) 0) 1;
    }

-- so many rows stand in the table
abbrev pub Rows : List ℕ → ℕ → Type 0
Rows table n = 16 * n ≤ length table
