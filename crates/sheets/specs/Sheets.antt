-- Document 01, "The sheet": reading a whole sheet. What came before a record counts by how many groups and how many rules there
-- were. "The place of the refusal is the offset where the first faulty record starts."
use Rattle.std.specs.Prelude.{ℕ, zero, suc, ◌+◌, Bool, false, cond, ◌&&◌, ◌||◌, List, [], ◌∷◌, eqb, leb, length, drop}
use Rattle.paper.specs.Groups.{Rule, Gate, Group}
use Rattle.records.specs.Framing.{kind, body, record_length, after}
use Rattle.records.specs.Records.{gate_number, gate, rule, by_kind, faulty_alone}

-- "a group .. which is the sheet's first group and has gate 1, or which is the 17th"
unfoldable pub misplaced_group : ℕ → List ℕ → Bool
misplaced_group groups body = (eqb groups 0 && eqb (gate_number body) 1) || leb 16 groups

-- "a rule before any group, .. or the 129th"
unfoldable pub misplaced_rule : ℕ → ℕ → Bool
misplaced_rule groups rules = eqb groups 0 || leb 128 rules

-- a record is faulty by the groups and rules that came before it
unfoldable pub misplaced : ℕ → ℕ → List ℕ → Bool
misplaced groups rules rest = by_kind (kind rest) (misplaced_group groups (body rest)) (misplaced_rule groups rules) false false

-- "A record is faulty if .."
unfoldable pub faulty : ℕ → ℕ → List ℕ → Bool
faulty groups rules rest = faulty_alone rest || misplaced groups rules rest

-- what the bytes from some place on hold: a first faulty record, at its place; or rules up to the next group, and groups
pub data Rest : Type 0 where
  faulty_at_lem : ℕ → Rest
  holding : List Rule → List Group → Rest

-- a rule stands before the rest
abbrev pub rule_then : Rule → Rest → Rest
rule_then one (faulty_at_lem place) = faulty_at_lem place
rule_then one (holding rules groups) = holding (one ∷ rules) groups

-- a group of this gate stands before the rest, and takes the rules up to the next group
abbrev pub group_then : Gate → Rest → Rest
group_then one (faulty_at_lem place) = faulty_at_lem place
group_then one (holding rules groups) = holding [] (record { gate = one; rules = rules } ∷ groups)

-- the rest of a sheet from a place on, after so many groups and rules. The first number is at least the length of the rest:
-- each record takes some of it. An empty rest is a faulty record: fewer than 4 bytes remain for its head.
unfoldable pub read_rest : ℕ → ℕ → ℕ → ℕ → List ℕ → Rest
read_rest zero groups rules place rest = faulty_at_lem place
read_rest (suc more) groups rules place rest =
    let next = place + record_length rest in
    let after_group = group_then (gate (body rest)) (read_rest more (suc groups) rules next (after rest)) in
    let after_rule = rule_then (rule (body rest)) (read_rest more groups (suc rules) next (after rest)) in
    cond (faulty groups rules rest) (faulty_at_lem place) (by_kind (kind rest) after_group after_rule (holding [] []) (faulty_at_lem place))

abbrev pub rest_at : List ℕ → ℕ → ℕ → ℕ → Rest
rest_at sheet at groups rules = read_rest (length (drop at sheet)) groups rules at (drop at sheet)

-- a sheet, read: the place of its first faulty record, or the groups that it holds
pub data Sheet : Type 0 where
  refused : ℕ → Sheet
  accepted : List Group → Sheet

-- a rule before any group is faulty, so no rule stands before the first group
abbrev pub whole : Rest → Sheet
whole (faulty_at_lem place) = refused place
whole (holding rules groups) = accepted groups

unfoldable pub read_sheet : List ℕ → Sheet
read_sheet sheet = whole (rest_at sheet 0 0 0)
