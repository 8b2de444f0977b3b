-- What the frame and the numbers of a record tell, whatever its letters are.
use Rattle.std.specs.Prelude.{ℕ, ◌+◌, cond, ◌||◌, Option, Some, None, List, ltb, length}
use Rattle.records.specs.Records.{gate_number, ending_length}
use Rattle.records.specs.RecordAnswers.{by_frame, numbers_told}
use Rattle.records.specs.declared.Record.{Record}
use Rattle.records.specs.declared.Record.TheVariants.{Group, Rule, End}

-- a group and a rule, whose body starts at this place; none only where the body ends before its numbers, or before S1 does
unfoldable pub passed_group : ℕ → List ℕ → Option Record
passed_group place body = cond (ltb (length body) 2) None (Some (Group (gate_number body) (place + length body)))

unfoldable pub passed_rule : ℕ → List ℕ → Option Record
passed_rule place body =
    cond (ltb (length body) 4 || ltb (length body) (4 + ending_length body)) None (Some (Rule (numbers_told place body)))

unfoldable pub passed_at : List ℕ → ℕ → Option Record
passed_at sheet at = by_frame passed_group passed_rule (λ rest. Some End) sheet at
