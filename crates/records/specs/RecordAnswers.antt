-- What the code's enum `Record` means: the record at a place of a sheet, judged by itself, with the places of its letters and
-- of the next record. None is told of a faulty one.
use Rattle.std.specs.Prelude.{ℕ, ◌+◌, cond, ◌||◌, Option, Some, None, List, ltb, length, drop}
use Rattle.records.specs.Framing.{kind, body, cut, body_place}
use Rattle.records.specs.Records.{gate_number, condition, action_number, opens_number, ending_length}
use Rattle.records.specs.Records.{ending_place, replacement_place, faulty_group, faulty_rule, faulty_end, by_kind}
use Rattle.records.specs.declared.Record.{Record}
use Rattle.records.specs.declared.Record.TheVariants.{Group, Rule, End}
use Rattle.records.specs.declared.RuleRecord.{RuleRecord}

-- a group and a rule, whose body starts at this place
unfoldable pub group_record : ℕ → List ℕ → Option Record
group_record place body = cond (faulty_group body) None (Some (Group (gate_number body) (place + length body)))

abbrev pub numbers_told : ℕ → List ℕ → RuleRecord
numbers_told place body =
    record {
      condition = condition body;
      action = action_number body;
      opens = opens_number body;
      start = ending_place place;
      middle = replacement_place place body;
      next = place + length body;
    }

unfoldable pub rule_record : ℕ → List ℕ → Option Record
rule_record place body = cond (faulty_rule body) None (Some (Rule (numbers_told place body)))

-- what the numbers of a rule tell, whatever its letters are; none where the body ends before its numbers, or before S1 does
unfoldable pub rule_told : ℕ → List ℕ → Option RuleRecord
rule_told place body =
    cond (ltb (length body) 4 || ltb (length body) (4 + ending_length body)) None (Some (numbers_told place body))

unfoldable pub end_record : List ℕ → Option Record
end_record rest = cond (faulty_end rest) None (Some End)

-- the record at a place, by its frame: what is told of a group's and of a rule's body, and of an end
abbrev pub by_frame : (ℕ → List ℕ → Option Record) → (ℕ → List ℕ → Option Record) → (List ℕ → Option Record) → List ℕ → ℕ
    → Option Record
by_frame of_group of_rule of_end sheet at =
    let rest = drop at sheet in
    let place = body_place at in
    cond (cut rest) None (by_kind (kind rest) (of_group place (body rest)) (of_rule place (body rest)) (of_end rest) None)

unfoldable pub record_at : List ℕ → ℕ → Option Record
record_at sheet at = by_frame group_record rule_record end_record sheet at
