-- Lines and their records: when a line is taken, and the bytes of one line more.
use Rattle.std.specs.Prelude.{ℕ, suc, ◌+◌, ◌≤◌, ◌≡◌, refl, Bool, ◌&&◌, ◌||◌, ltb, length}
use Rattle.std.proofs.Common.{sym, ◌∙◌, arith, ltb-true}
use Rattle.std.proofs.Math.Path.{ap}
use Rattle.std.proofs.Math.Bool.{true, false, not}
use mathlib.Core.List.{List, [], ◌∷◌, ◌++◌, append_assoc, append-nil}
use Rattle.paper.specs.Conditions.{highest}
use Rattle.paper.specs.Groups.{Rule, Gate, written}
use Rattle.paper.specs.TestLaws.{and_parts}
use Rattle.paper.specs.Words.{all_small}
use Rattle.records.specs.Framing.{record_of}
use Rattle.records.specs.FramingLaws.{whole_read, kind_read, body_read}
use Rattle.records.specs.Records.{faulty_rule, faulty_alone}
use Rattle.records.specs.RecordBytes.{gate_body, rule_body}
use Rattle.records.specs.RecordLaws.{at_rule}
use Rattle.records.specs.WrittenRules.{written_fault, unfit_action}
use Rattle.sheets.specs.Sheets.{misplaced_group, misplaced_rule, misplaced, faulty}
use Rattle.sheets.specs.SheetSteps.{group_fault}
use Rattle.sheets.specs.ReadBack.{group_here}
use Rattle.lines.specs.Lines.{Line, group, rule, spellings, form}
use Rattle.imports.specs.Makes.{record_bytes, group_lines, rule_lines, taken}

-- ## When a record is faulty
module _ (groups rules : ℕ) (more : List ℕ) where
  rule_faults : (one : Rule)
      → faulty groups rules (record_of 2 (rule_body one) ++ more) ≡ faulty_rule (rule_body one) || misplaced_rule groups rules
  unfolding faulty faulty_alone misplaced
  rule_faults one =
      let body = rule_body one in
      let is = kind_read 2 body more in
      rw (whole_read 2 body more, at_rule _ _ _ _ true is, at_rule _ _ _ _ false is, body_read 2 body more)

  group_faults : (gate : Gate) → faulty groups rules (record_of 1 (gate_body gate) ++ more) ≡ misplaced_group groups (gate_body gate)
  group_faults gate = group_fault groups rules (group_here gate more) ∙ rw (body_read 1 (gate_body gate) more)

-- ## When a line is taken
pub of_form : (before : List Line) (line : Line) → taken before line ≡ true → form line ≡ true
unfolding taken
of_form before line is = (and_parts (form line) _ is).0

module _ (before : List Line) where
  pub group_taken : (gate : Gate) → taken before (group gate) ≡ not (misplaced_group (group_lines before) (gate_body gate))
  unfolding taken form record_bytes
  group_taken gate =
      ap (λ (b : Bool). not b)
      (ap (faulty (group_lines before) (rule_lines before)) (sym (append-nil (record_of 1 (gate_body gate))))
      ∙ group_faults (group_lines before) (rule_lines before) [] gate)

  pub rule_taken : (one : Rule) → form (rule one) ≡ true
      → taken before (rule one) ≡ not (faulty_rule (rule_body one) || misplaced_rule (group_lines before) (rule_lines before))
  unfolding taken record_bytes
  rule_taken one is =
      rw is
      (ap (λ (b : Bool). not b)
      (ap (faulty (group_lines before) (rule_lines before)) (sym (append-nil (record_of 2 (rule_body one))))
      ∙ rule_faults (group_lines before) (rule_lines before) [] one))

-- what is known of a rule whose line is of the form
pub record Formed (one : Rule) : Type 0 where
  pub low_condition : one.condition ≤ highest
  pub small_ending : all_small one.ending ≡ true
  pub small_replacement : all_small (written one.action) ≡ true

pub formed : (one : Rule) → form (rule one) ≡ true → Formed one
unfolding form spellings
formed one is =
    let nine = ltb one.condition (length spellings) in
    let three = and_parts (nine && all_small one.ending) (all_small (written one.action)) is in
    let two = and_parts nine (all_small one.ending) three.0 in
    let low = ltb-true one.condition (length spellings) two.0 in
    record { low_condition = omega arith; small_ending = two.1; small_replacement = three.1 }

pub formed_fault : (one : Rule) → form (rule one) ≡ true
    → faulty_rule (rule_body one) ≡ ltb 12 (length one.ending) || ltb 12 (length (written one.action)) || unfit_action one
formed_fault one is =
    let known = formed one is in
    written_fault one known.low_condition known.small_ending known.small_replacement

-- ## One line more
pub groups_more : (before : List Line) (gate : Gate) → group_lines (before ++ (group gate ∷ [])) ≡ suc (group_lines before)
unfolding group_lines
groups_more [] gate = refl
groups_more (group other ∷ before) gate = ap suc (groups_more before gate)
groups_more (rule other ∷ before) gate = groups_more before gate

pub groups_stay : (before : List Line) (one : Rule) → group_lines (before ++ (rule one ∷ [])) ≡ group_lines before
unfolding group_lines
groups_stay [] one = refl
groups_stay (group other ∷ before) one = ap suc (groups_stay before one)
groups_stay (rule other ∷ before) one = groups_stay before one

pub rules_more : (before : List Line) (one : Rule) → rule_lines (before ++ (rule one ∷ [])) ≡ suc (rule_lines before)
unfolding rule_lines
rules_more [] one = refl
rules_more (group other ∷ before) one = rules_more before one
rules_more (rule other ∷ before) one = ap suc (rules_more before one)

pub rules_stay : (before : List Line) (gate : Gate) → rule_lines (before ++ (group gate ∷ [])) ≡ rule_lines before
unfolding rule_lines
rules_stay [] gate = refl
rules_stay (group other ∷ before) gate = rules_stay before gate
rules_stay (rule other ∷ before) gate = ap suc (rules_stay before gate)

-- each line names a group or a rule
pub lines_counted : (lines : List Line) → length lines ≡ group_lines lines + rule_lines lines
unfolding group_lines rule_lines
lines_counted [] = refl
lines_counted (group gate ∷ lines) = let later = lines_counted lines in omega arith
lines_counted (rule one ∷ lines) = let later = lines_counted lines in omega arith

-- the records of lines
unfoldable pub lines_bytes : List Line → List ℕ
lines_bytes [] = []
lines_bytes (line ∷ lines) = record_bytes line ++ lines_bytes lines

pub bytes_more : (before : List Line) (line : Line) → lines_bytes (before ++ (line ∷ [])) ≡ lines_bytes before ++ record_bytes line
unfolding lines_bytes
bytes_more [] line = append-nil (record_bytes line)
bytes_more (first ∷ before) line =
    rw (bytes_more before line) (sym (append_assoc (record_bytes first) (lines_bytes before) (record_bytes line)))
