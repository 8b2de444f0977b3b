-- Document 01's samples of sheets, each group of them as one statement over a list.
use Rattle.std.specs.Prelude.{ℕ, ◌≡◌, refl, List, [], ◌∷◌, map, replicate}
use Rattle.paper.specs.Letters as paper
use Rattle.paper.specs.Groups.{Rule, Group, always, same}
use Rattle.paper.specs.Shipped as rules
use Rattle.paper.specs.Words.{all_small}
use Rattle.records.specs.Framing.{number, body_length, kind, body, record_length, after, cut, two, record_of}
use Rattle.records.specs.Records.{gate_number, gate, ending, replacement, rule, outside, faulty_group, faulty_numbers, faulty_letters}
use Rattle.records.specs.Records.{faulty_action, faulty_rule, faulty_end, by_kind, faulty_alone}
use Rattle.records.specs.RecordBytes.{gate_body, rule_body}
use Rattle.sheets.specs.Sheets.{misplaced_group, misplaced_rule, misplaced, faulty, read_rest, read_sheet}
use Rattle.sheets.specs.SheetBytes.{rules_bytes, groups_bytes, sheet_of}
use Rattle.paper.specs.Nodes.{tails, tails_of, member, distinct, node_count}
use Rattle.answers.specs.Answers.{Check, counting, faulty_at}
use Rattle.sheets.specs.Checks.{checked}

-- "Sheet G(gate 0), s→, end is .., 19 bytes"
unfoldable pub nineteen : List ℕ
nineteen =
    2 ∷ 0 ∷ 1 ∷ 0 ∷ 0 ∷ 0 ∷ 5 ∷ 0 ∷ 2 ∷ 0 ∷ 0 ∷ 0 ∷ 0 ∷ 1 ∷ 115 ∷ 0 ∷ 0 ∷ 3 ∷ 0 ∷ []

unfoldable pub group : List Rule → Group
group list = record { gate = always; rules = list }

pub nineteen_is : nineteen ≡ sheet_of (group (rules.rule 0 "s" "" ∷ []) ∷ [])
unfolding nineteen group paper.letters rules.rule two record_of gate_body rule_body rules_bytes groups_bytes sheet_of
nineteen_is = refl

-- a sheet and what a check answers: "The 19-byte sheet needs a table of 8 numbers"; "An empty sheet is refused at 0. A sheet
-- of one end record is accepted"; bytes after the end; a cut record; a first group that waits to be opened
unfoldable pub samples : List (List ℕ × Check)
samples =
    (nineteen, counting 2 1)
    ∷ ([], faulty_at 0)
    ∷ (0 ∷ 0 ∷ 3 ∷ 0 ∷ [], counting 0 0)
    ∷ (0 ∷ 0 ∷ 3 ∷ 0 ∷ 0 ∷ [], faulty_at 0)
    ∷ (2 ∷ 0 ∷ 1 ∷ 0 ∷ 0 ∷ 0 ∷ 5 ∷ 0 ∷ 2 ∷ 0 ∷ 0 ∷ 0 ∷ 0 ∷ 1 ∷ [], faulty_at 6)
    ∷ (2 ∷ 0 ∷ 1 ∷ 0 ∷ 1 ∷ 0 ∷ 0 ∷ 0 ∷ 3 ∷ 0 ∷ [], faulty_at 0)
    ∷ []

-- lists of groups, and what a check of their bytes answers: "An S1 of 12 letters, a 16th group and a 128th rule are
-- accepted; 13 letters, a 17th and a 129th are refused at their record."
unfoldable pub bounds : List (List Group × Check)
bounds =
    (group (rules.rule 0 "abcdefghijkl" "" ∷ []) ∷ [], counting 13 1)
    ∷ (group (rules.rule 0 "abcdefghijklm" "" ∷ []) ∷ [], faulty_at 6)
    ∷ (replicate 16 (group []), counting 16 16)
    ∷ (replicate 17 (group []), faulty_at 96)
    ∷ (group (replicate 128 (rules.rule 0 "s" "")) ∷ [], counting 2 1)
    ∷ (group (replicate 129 (rules.rule 0 "s" "")) ∷ [], faulty_at 1158)
    ∷ []

pub samples_hold : map (λ s. checked s.0) samples ≡ map (λ s. s.1) samples
unfolding samples nineteen number body_length kind body record_length after gate_number gate ending replacement rule all_small outside cut
    faulty_group
    misplaced_group faulty_numbers faulty_letters faulty_action faulty_rule misplaced_rule faulty_end by_kind faulty_alone misplaced faulty
    read_rest read_sheet same tails tails_of member distinct node_count checked
samples_hold = refl

pub bounds_hold : map (λ s. checked (sheet_of s.0)) bounds ≡ map (λ s. s.1) bounds
unfolding bounds group paper.letters rules.rule two record_of gate_body rule_body rules_bytes groups_bytes sheet_of number body_length
    kind body record_length after gate_number gate ending replacement rule all_small outside cut faulty_group misplaced_group faulty_numbers
    faulty_letters
    faulty_action faulty_rule misplaced_rule faulty_end by_kind faulty_alone misplaced faulty read_rest read_sheet same tails tails_of
    member distinct node_count checked
bounds_hold = refl
