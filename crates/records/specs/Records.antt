-- Document 01, "The sheet": the kinds of records, and when a record is faulty by itself. What came before it in its sheet counts
-- in `Sheets` of the crate `sheets`.
use Rattle.std.specs.Prelude.{ℕ, ◌+◌, Bool, true, not, cond, ◌&&◌, ◌||◌, List, eqb, ltb, length, get_or, take, drop}
use Rattle.paper.specs.Conditions.{for_single, highest}
use Rattle.paper.specs.Groups.{action_of, Rule, Gate, gate_of}
use Rattle.paper.specs.Words.{all_small}
use Rattle.records.specs.Framing.{number, body_length, kind, body, after, cut}

-- ## Groups
-- "Kind 1, group: a two-byte gate. 0: always run. 1: run only if .."
unfoldable pub gate_number : List ℕ → ℕ
gate_number body = number 0 body

unfoldable pub gate : List ℕ → Gate
gate body = gate_of (gate_number body)

-- "a group whose body is not 2 bytes, whose gate is above 1"
unfoldable pub faulty_group : List ℕ → Bool
faulty_group body = not (eqb (length body) 2) || ltb 1 (gate_number body)

-- ## Rules
-- "Kind 2, rule: bytes for condition, action (0 replace, 1 single letter), opens (0 or 1), length n of S1; then n letters of
-- S1; the rest is S2."
abbrev pub condition : List ℕ → ℕ
condition body = get_or body 0 0

abbrev pub action_number : List ℕ → ℕ
action_number body = get_or body 1 0

abbrev pub opens_number : List ℕ → ℕ
opens_number body = get_or body 2 0

abbrev pub ending_length : List ℕ → ℕ
ending_length body = get_or body 3 0

unfoldable pub ending : List ℕ → List ℕ
ending body = take (ending_length body) (drop 4 body)

unfoldable pub replacement : List ℕ → List ℕ
replacement body = drop (4 + ending_length body) body

unfoldable pub rule : List ℕ → Rule
rule body =
    record {
      condition = condition body;
      ending = ending body;
      action = action_of (action_number body) (replacement body);
      opens = eqb (opens_number body) 1;
    }

-- where S1 and S2 start, of a body that starts at a place
unfoldable pub ending_place : ℕ → ℕ
ending_place place = place + 4

unfoldable pub replacement_place : ℕ → List ℕ → ℕ
replacement_place place body = place + (4 + ending_length body)

-- "a byte of S1 or S2 outside a to z"
unfoldable pub outside : List ℕ → Bool
outside bytes = not (all_small bytes)

-- "a rule .. with a body under 4 bytes, condition above 8, action or opens above 1, n above 12, 4+n above the body length"
unfoldable pub faulty_numbers : List ℕ → Bool
faulty_numbers body =
    ltb (length body) 4
    || ltb highest (condition body)
    || ltb 1 (action_number body)
    || ltb 1 (opens_number body)
    || ltb 12 (ending_length body)
    || ltb (length body) (4 + ending_length body)

-- "S2 above 12 letters, a byte of S1 or S2 outside a to z"
unfoldable pub faulty_letters : List ℕ → Bool
faulty_letters body = ltb 12 (length (replacement body)) || outside (ending body) || outside (replacement body)

-- "action 1 without condition 5 or 8, or with a non-empty S1 or S2"
unfoldable pub faulty_action : List ℕ → Bool
faulty_action body =
    eqb (action_number body) 1
    && (not (for_single (condition body))
    || not (eqb (length (ending body)) 0)
    || not (eqb (length (replacement body)) 0))

unfoldable pub faulty_rule : List ℕ → Bool
faulty_rule body = faulty_numbers body || faulty_letters body || faulty_action body

-- ## The end
-- "an end with a body or with bytes after it"
unfoldable pub faulty_end : List ℕ → Bool
faulty_end rest = not (eqb (body_length rest) 0) || not (eqb (length (after rest)) 0)

-- ## Any record
-- the answer for a kind, or the last one for "another kind"
unfoldable pub by_kind {ℓ} : {A : Type ℓ} → ℕ → A → A → A → A → A
by_kind kind of_group of_rule of_end other = cond (eqb kind 1) of_group (cond (eqb kind 2) of_rule (cond (eqb kind 3) of_end other))

-- the record is faulty whatever came before it
unfoldable pub faulty_alone : List ℕ → Bool
faulty_alone rest = cut rest || by_kind (kind rest) (faulty_group (body rest)) (faulty_rule (body rest)) (faulty_end rest) true
