-- Document 01, "The sheet", from the other side: the bodies of groups and rules, and which rules are within 01's bounds. Nothing
-- here reads a record.
use Rattle.std.specs.Prelude.{ℕ, Bool, cond, ◌&&◌, List, ◌∷◌, ◌++◌, eqb, leb, length}
use Rattle.paper.specs.Conditions.{for_single, highest}
use Rattle.paper.specs.Groups.{Action, replace, single_letter, written, number_of_action, Rule, Gate, number_of_gate}
use Rattle.paper.specs.Words.{all_small}
use Rattle.records.specs.Framing.{two}

unfoldable pub gate_body : Gate → List ℕ
gate_body gate = two (number_of_gate gate)

-- "bytes for condition, action, opens, length n of S1; then n letters of S1; the rest is S2"
unfoldable pub rule_body : Rule → List ℕ
rule_body rule =
    rule.condition
    ∷ number_of_action rule.action
    ∷ cond rule.opens 1 0
    ∷ length rule.ending
    ∷ (rule.ending ++ written rule.action)

-- at most 12 letters, each from a to z
unfoldable pub at_most12 : List ℕ → Bool
at_most12 bytes = leb (length bytes) 12 && all_small bytes

-- a single letter has condition 5 or 8 and the empty S1
unfoldable pub allowed_action : Rule → Action → Bool
allowed_action rule (replace s2) = at_most12 s2
allowed_action rule single_letter = for_single rule.condition && eqb (length rule.ending) 0

-- a rule within 01's bounds
unfoldable pub allowed : Rule → Bool
allowed rule = leb rule.condition highest && at_most12 rule.ending && allowed_action rule rule.action
