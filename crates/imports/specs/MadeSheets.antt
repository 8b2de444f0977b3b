-- 01 accepts the sheet made: it is the records of the lines and the end, and reads as the groups that the lines name.
use Rattle.std.specs.Prelude.{ℕ, zero, suc, ◌+◌, ◌≤◌, ◌≡◌, true, ◌||◌, length}
use Rattle.std.proofs.Common.{sym, ◌∙◌, arith, length-append}
use Rattle.std.proofs.Math.Path.{ap}
use mathlib.Core.List.{List, [], ◌∷◌, ◌++◌, append_assoc}
use Rattle.std.proofs.lemmas.Bool.{not-true}
use Rattle.paper.specs.Groups.{Rule, Gate}
use Rattle.paper.specs.TestLaws.{and_parts, neither_left, neither_right}
use Rattle.records.specs.Framing.{record_of}
use Rattle.records.specs.FramingLaws.{some_bytes}
use Rattle.records.specs.Records.{faulty_rule}
use Rattle.records.specs.RecordBytes.{gate_body, rule_body}
use Rattle.sheets.specs.Sheets.{misplaced_group, misplaced_rule, holding, rule_then, group_then, read_rest, Sheet, accepted, whole, read_sheet}
use Rattle.sheets.specs.SheetSteps.{end_step}
use Rattle.sheets.specs.ReadBack.{end_here, read_rule, read_group}
use Rattle.sheets.specs.Checks.{check_of, checked}
use Rattle.sheets.specs.WriteBack.{write_back}
use Rattle.printed.specs.Printed.{all_taken}
use Rattle.lines.specs.Lines.{Line, group, rule}
use Rattle.imports.specs.Makes.{rules_of, groups_of, sheet_made, record_bytes, group_lines, rule_lines, taken}
use Rattle.imports.specs.TakenLaws.{of_form, group_taken, rule_taken, groups_more, groups_stay, rules_more, rules_stay, lines_bytes}

-- ## The records of lines that are taken are read
some_record : (line : Line) → 1 ≤ length (record_bytes line)
unfolding record_bytes
some_record (group gate) = some_bytes 1 (gate_body gate)
some_record (rule one) = some_bytes 2 (rule_body one)

-- what the records of these lines and the end read as, after other lines
abbrev Reads : List Line → Type 0
Reads lines =
    (before : List Line) (more place : ℕ)
    → all_taken taken before lines ≡ true
    → length (lines_bytes lines ++ record_of 3 []) ≤ more
    → read_rest more (group_lines before) (rule_lines before) place (lines_bytes lines ++ record_of 3 [])
    ≡ holding (rules_of lines) (groups_of lines)

module _ (lines : List Line) (read : Reads lines) (before : List Line) (more place : ℕ) where
  abbrev rest : List ℕ
  rest = lines_bytes lines ++ record_of 3 []

  group_first : (gate : Gate) → taken before (group gate) ≡ true → all_taken taken (before ++ (group gate ∷ [])) lines ≡ true
      → length rest ≤ more
      → read_rest (suc more) (group_lines before) (rule_lines before) place (record_of 1 (gate_body gate) ++ rest)
      ≡ holding [] (record { gate = gate; rules = rules_of lines } ∷ groups_of lines)
  group_first gate this later enough =
      let placed = not-true (misplaced_group (group_lines before) (gate_body gate)) (sym (group_taken before gate) ∙ this) in
      let next = place + length (record_of 1 (gate_body gate)) in
      read_group more (group_lines before) (rule_lines before) place rest gate placed
      ∙ ap (group_then gate) (rw (groups_more, rules_stay) at (read (before ++ (group gate ∷ [])) more next later enough))

  rule_first : (one : Rule) → taken before (rule one) ≡ true → all_taken taken (before ++ (rule one ∷ [])) lines ≡ true
      → length rest ≤ more
      → read_rest (suc more) (group_lines before) (rule_lines before) place (record_of 2 (rule_body one) ++ rest)
      ≡ holding (one ∷ rules_of lines) (groups_of lines)
  rule_first one this later enough =
      let fault = faulty_rule (rule_body one) in
      let away = misplaced_rule (group_lines before) (rule_lines before) in
      let neither = not-true (fault || away) (sym (rule_taken before one (of_form before (rule one) this)) ∙ this) in
      let next = place + length (record_of 2 (rule_body one)) in
      read_rule more (group_lines before) (rule_lines before) place rest one (neither_left fault away neither)
      (neither_right fault away neither)
      ∙ ap (rule_then one) (rw (groups_stay, rules_more) at (read (before ++ (rule one ∷ [])) more next later enough))

-- a record and what follows it take more bytes than what follows it
shorter : (line : Line) (lines : List Line)
    → length (lines_bytes lines ++ record_of 3 []) + 1 ≤ length ((record_bytes line ++ lines_bytes lines) ++ record_of 3 [])
shorter line lines =
    omega (
      arith,
      some_record line,
      ap length (append_assoc (record_bytes line) (lines_bytes lines) (record_of 3 [])),
      length-append (record_bytes line) (lines_bytes lines ++ record_of 3 []),
    )

lines_read : (lines : List Line) → Reads lines
unfolding all_taken lines_bytes record_bytes rules_of groups_of
lines_read [] before zero place all enough = absurd (omega (arith, some_bytes 3 []))
lines_read [] before (suc more) place all enough = end_step more (group_lines before) (rule_lines before) place end_here
lines_read (line ∷ lines) before zero place all enough = absurd (omega (arith, shorter line lines))
lines_read (group gate ∷ lines) before (suc more) place all enough =
    let both = and_parts (taken before (group gate)) (all_taken taken (before ++ (group gate ∷ [])) lines) all in
    rw (append_assoc (record_of 1 (gate_body gate)) (lines_bytes lines) (record_of 3 []))
    (group_first lines (lines_read lines) before more place gate both.0 both.1 (omega (arith, shorter (group gate) lines)))
lines_read (rule one ∷ lines) before (suc more) place all enough =
    let both = and_parts (taken before (rule one)) (all_taken taken (before ++ (rule one ∷ [])) lines) all in
    rw (append_assoc (record_of 2 (rule_body one)) (lines_bytes lines) (record_of 3 []))
    (rule_first lines (lines_read lines) before more place one both.0 both.1 (omega (arith, shorter (rule one) lines)))

-- ## What follows
module _ (lines : List Line) (all : all_taken taken [] lines ≡ true) where
  records_accepted : read_sheet (lines_bytes lines ++ record_of 3 []) ≡ accepted (groups_of lines)
  unfolding read_sheet group_lines rule_lines
  records_accepted =
      ap whole (lines_read lines [] (length (lines_bytes lines ++ record_of 3 [])) 0 all (omega arith))

  -- the sheet made is the records of the lines, and the end
  pub made_records : lines_bytes lines ++ record_of 3 [] ≡ sheet_made lines
  unfolding sheet_made
  made_records = (write_back (lines_bytes lines ++ record_of 3 []) (groups_of lines) records_accepted).0

  -- 01 accepts it, as the groups that the lines name
  pub made_accepted : read_sheet (sheet_made lines) ≡ accepted (groups_of lines)
  made_accepted = ap read_sheet (sym made_records) ∙ records_accepted

  pub made_checks : (checked (sheet_made lines)).number ≡ 0
  unfolding checked
  made_checks = ap (λ (found : Sheet). (check_of found).number) made_accepted
