-- The way through the lines of a text: what is known at each line, and what the pass leaves.
use Rattle.std.specs.Prelude.{ℕ, zero, suc, ◌+◌, ◌*◌, ◌≤◌, ◌<◌, ◌≡◌, refl, true, false, not, ◌&&◌, ◌||◌, Some, None, Result, Ok, Err, List, [], ◌∷◌, ◌++◌, eqb, leb, drop}
use Rattle.std.proofs.Math.Path.{ap}
use Rattle.std.proofs.Common.{◌∙◌, add-one, arith, length-append, length-drop, drop_of_length-le, drop-drop}
use Rattle.std.proofs.Math.Bool.{or-true}
use Rattle.std.proofs.Math.ListN.{length}
use Rattle.paper.specs.Groups.{Rule, gate_of}
use Rattle.paper.specs.ListLaws.{empty}
use Rattle.records.specs.Framing.{record_of}
use Rattle.records.specs.Records.{faulty_rule}
use Rattle.records.specs.RecordBytes.{gate_body, rule_body}
use Rattle.records.specs.GateLaws.{gate_number_lem}
use Rattle.sheets.specs.Sheets.{misplaced_group, misplaced_rule}
use Rattle.sheets.specs.SheetSteps.{few_groups, few_rules}
use Rattle.places.specs.Written.{Wrote, Appends, nothing_yet}
use Rattle.printed.specs.Printed.{TakenTo}
use Rattle.printed.specs.PrintedLaws.{got, Passed, no_line_yet, at_nothing, at_fault, one_more, at_end}
use Rattle.printed.specs.LineNumbers.{first_here, not_both, same_lines}
use Rattle.lines.specs.Lines.{Line, group, rule, print}
use Rattle.lines.specs.Reading.{found_in, rule_of, told, read_line}
use Rattle.lines.specs.PartLaws.{inside}
use Rattle.lines.specs.ReadingLaws.{RuleHere, found_here}
use Rattle.lines.specs.PrintedLines.{reads}
use Rattle.lines.specs.declared.LineRead.TheVariants.{Group, Rule as RuleFound}
use Rattle.lines.specs.declared.RuleLine.{RuleLine}
use Rattle.imports.specs.Makes as Makes
use Rattle.imports.specs.Makes.{sheet_made, record_bytes, group_lines, rule_lines, taken, WholeText, FirstAtFault, MakesTo}
use Rattle.imports.specs.MadeSheets.{made_records}
use Rattle.imports.specs.RuleRecords.{short_parts, rule_size, group_bytes}
use Rattle.imports.specs.TakenLaws.{of_form, group_taken, rule_taken, groups_more, groups_stay, rules_more, rules_stay, lines_counted}
use Rattle.imports.specs.TakenLaws.{lines_bytes, bytes_more}
use Rattle.imports.specs.declared.FaultyLine.{FaultyLine}

-- ## What a pass leaves
pub record SheetPassed (text lent : List ℕ) (size : ℕ) (after : List ℕ) : Type 0 where
  pub lines : List Line
  pub whole : WholeText text lines
  pub size_is : size ≡ length (sheet_made lines)
  pub wrote : Wrote lent (sheet_made lines) after

abbrev pub PassedTo : List ℕ → List ℕ → Result ℕ FaultyLine → List ℕ → Type 0
PassedTo text lent (Ok size) after = SheetPassed text lent size after
PassedTo text lent (Err fault) after = FirstAtFault text fault.number

-- ## What is known where a line begins
-- so many groups and rules are named by the lines before it, and their records, of so many bytes, were put
pub record State (text lent : List ℕ) (at groups rules size : ℕ) (sheet : List ℕ) : Type 0 where
  pub before : List Line
  pub passed : Passed print taken text before (drop at text)
  pub groups_are : groups ≡ group_lines before
  pub rules_are : rules ≡ rule_lines before
  pub size_is : size ≡ length (lines_bytes before)
  pub wrote : Wrote lent (lines_bytes before) sheet
  pub at_most_16 : groups ≤ 16
  pub at_most_128 : rules ≤ 128
  pub low_size : size ≤ 6 * groups + 32 * rules

pub starts : (text lent : List ℕ) → State text lent 0 0 0 0 lent
unfolding group_lines rule_lines lines_bytes
starts text lent =
    record {
      before = [];
      passed = no_line_yet print taken text;
      groups_are = refl;
      rules_are = refl;
      size_is = refl;
      wrote = nothing_yet lent;
      at_most_16 = omega arith;
      at_most_128 = omega arith;
      low_size = omega arith;
    }

-- a group is misplaced, by the number of its gate
misplaced_is : (groups gate : ℕ) → gate ≤ 1
    → misplaced_group groups (gate_body (gate_of gate)) ≡ (eqb groups 0 && eqb gate 1) || leb 16 groups
unfolding misplaced_group
misplaced_is groups zero low = rw (gate_number_lem (gate_of 0)) refl
misplaced_is groups (suc zero) low = rw (gate_number_lem (gate_of 1)) refl
misplaced_is groups (suc (suc gate)) low = absurd (omega arith)

module _ {text lent : List ℕ} {at groups rules size : ℕ} {sheet : List ℕ} (state : State text lent at groups rules size sheet) where
  abbrev rest : List ℕ
  rest = drop at text

  -- ## The first line at fault
  at_this : TakenTo print taken text state.before rest → at < length text → FirstAtFault text (groups + rules + 1)
  at_this to inside-text =
      let number : length state.before ≡ groups + rules =
      lines_counted state.before ∙ rw (← state.groups_are, ← state.rules_are) refl in
      rw (add-one, ← number) (first_here to (omega (arith, length-drop at text)))

  pub wrong_line : at < length text → found_in rest ≡ None → FirstAtFault text (groups + rules + 1)
  unfolding read_line
  wrong_line inside-text is = at_this (at_nothing reads of_form state.passed (ap (told rest) is)) inside-text

  -- ## One line more
  module _ (line : Line) (taken-bytes groups_then rules_then : ℕ) {later : List ℕ}
      (is_read : read_line rest ≡ got line (drop taken-bytes rest)) (is-taken : taken state.before line ≡ true)
      (put : Appends size (record_bytes line) sheet later) where
    next : groups_then ≡ group_lines (state.before ++ (line ∷ [])) → rules_then ≡ rule_lines (state.before ++ (line ∷ []))
        → groups_then ≤ 16 → rules_then ≤ 128 → size + length (record_bytes line) ≤ 6 * groups_then + 32 * rules_then
        → State text lent (at + taken-bytes) groups_then rules_then (size + length (record_bytes line)) later
    next groups-is rules-is few fewer low =
        let bytes = bytes_more state.before line in
        record {
          before = state.before ++ (line ∷ []);
          passed = rw (drop-drop taken-bytes at text) at (one_more reads of_form state.passed is_read is-taken);
          groups_are = groups-is;
          rules_are = rules-is;
          size_is = omega (arith, ap length bytes, length-append (lines_bytes state.before) (record_bytes line), state.size_is);
          wrote = rw bytes (put.appends lent (lines_bytes state.before) state.size_is state.wrote);
          at_most_16 = few;
          at_most_128 = fewer;
          low_size = low;
        }

  -- ## A group's line
  module _ (gate taken-bytes : ℕ) (is : found_in rest ≡ Some (Group gate taken-bytes)) where
    is_read : read_line rest ≡ got (group (gate_of gate)) (drop taken-bytes rest)
    unfolding read_line
    is_read = ap (told rest) is

    judged : taken state.before (group (gate_of gate)) ≡ not ((eqb groups 0 && eqb gate 1) || leb 16 groups)
    judged =
        group_taken state.before (gate_of gate)
        ∙ (rw (← state.groups_are) (ap not (misplaced_is groups gate (found_here rest (Some (Group gate taken-bytes)) is).gate_low)))

    pub group_fault : at < length text → (eqb groups 0 && eqb gate 1) || leb 16 groups ≡ true → FirstAtFault text (groups + rules + 1)
    group_fault inside-text fault =
        at_this (at_fault reads of_form state.passed is_read (judged ∙ rw fault refl)) inside-text

    pub after_group : {later : List ℕ} → (eqb groups 0 && eqb gate 1) || leb 16 groups ≡ false
        → Appends size (record_of 1 (gate_body (gate_of gate))) sheet later
        → State text lent (at + taken-bytes) (groups + 1) rules (size + length (record_of 1 (gate_body (gate_of gate)))) later
    unfolding record_bytes
    after_group placed put =
        let low = (found_here rest (Some (Group gate taken-bytes)) is).gate_low in
        let few = few_groups groups (gate_body (gate_of gate)) (misplaced_is groups gate low ∙ placed) in
        next (group (gate_of gate)) taken-bytes (groups + 1) rules is_read (judged ∙ rw placed refl) put
        (omega (arith, groups_more state.before (gate_of gate), state.groups_are))
        (omega (arith, rules_stay state.before (gate_of gate), state.rules_are))
        (omega arith)
        state.at_most_128
        (omega (arith, ap length (group_bytes gate low), state.low_size))

    -- it takes some bytes of the text
    pub group_inside : at < length text → (at < at + taken-bytes) × (at + taken-bytes ≤ length text)
    group_inside inside-text =
        let line = (found_here rest (Some (Group gate taken-bytes)) is).line in
        let long = length-append (print (group (gate_of gate))) (10 ∷ []) in
        (omega (arith, line.size_is), omega (arith, inside line, length-drop at text))

  -- ## A rule's line
  module _ (line : RuleLine) (is : found_in rest ≡ Some (RuleFound line)) where
    abbrev one : Rule
    one = rule_of rest line

    pub rule_line : RuleHere rest line
    rule_line = found_here rest (Some (RuleFound line)) is

    rule_read : read_line rest ≡ got (rule one) (drop line.taken rest)
    unfolding read_line
    rule_read = ap (told rest) is

    rule_judged : taken state.before (rule one) ≡ not (faulty_rule (rule_body one) || misplaced_rule groups rules)
    rule_judged =
        rule_taken state.before one rule_line.of_form ∙ rw (state.groups_are, state.rules_are) refl

    pub rule_misplaced : at < length text → misplaced_rule groups rules ≡ true → FirstAtFault text (groups + rules + 1)
    rule_misplaced inside-text away =
        at_this (at_fault reads of_form state.passed rule_read (rule_judged ∙ rw (away, or-true) refl)) inside-text

    pub rule_faulty : at < length text → faulty_rule (rule_body one) ≡ true → FirstAtFault text (groups + rules + 1)
    rule_faulty inside-text fault =
        at_this (at_fault reads of_form state.passed rule_read (rule_judged ∙ rw fault refl)) inside-text

    pub after_rule : {later : List ℕ} → misplaced_rule groups rules ≡ false → faulty_rule (rule_body one) ≡ false
        → Appends size (record_of 2 (rule_body one)) sheet later
        → State text lent (at + line.taken) groups (rules + 1) (size + length (record_of 2 (rule_body one))) later
    unfolding record_bytes
    after_rule placed sound put =
        let few = few_rules groups rules placed in
        let short = short_parts rest line rule_line sound in
        next (rule one) line.taken groups (rules + 1) rule_read (rule_judged ∙ rw (sound, placed) refl) put
        (omega (arith, groups_stay state.before one, state.groups_are))
        (omega (arith, rules_more state.before one, state.rules_are))
        state.at_most_16
        (omega arith)
        (omega (arith, rule_size rest line rule_line sound, state.low_size))

    pub rule_inside : at < length text → (at < at + line.taken) × (at + line.taken ≤ length text)
    rule_inside inside-text =
        let printed = rule_line.printed in
        let long = length-append (print (rule one)) (10 ∷ []) in
        (omega (arith, printed.size_is), omega (arith, inside printed, length-drop at text))

  -- ## The end of the text
  pub all_passed : {later : List ℕ} → length text ≤ at → Appends size (record_of 3 []) sheet later
      → SheetPassed text lent (size + length (record_of 3 [])) later
  all_passed end put =
      let nothing_left = drop_of_length-le text end in
      let to = at_end reads of_form (rw nothing_left at state.passed) in
      let bytes = made_records state.before to.all_taken_lem in
      record {
        lines = state.before;
        whole = to;
        size_is = omega (arith, ap length bytes, length-append (lines_bytes state.before) (record_of 3 []), state.size_is);
        wrote = rw bytes at (put.appends lent (lines_bytes state.before) state.size_is state.wrote);
      }

-- ## What a call gives
pub fault_given : {text : List ℕ} {number : ℕ} (sheet : List ℕ) → FirstAtFault text number → MakesTo text sheet 8 number sheet
fault_given {number = number} sheet first = Makes.at_fault number first

module _ {text lent after : List ℕ} {size : ℕ} (sheet : List ℕ) (passed : SheetPassed text lent size after) where
  pub short_given : length sheet < size → MakesTo text sheet 9 0 sheet
  short_given less = Makes.too_short passed.lines passed.whole (rw passed.size_is at less)

  -- the second pass is over the same lines
  pub sheet_given : {later : List ℕ} → size ≤ length sheet → (again : Result ℕ FaultyLine) → PassedTo text sheet again later
      → MakesTo text sheet 0 size later
  sheet_given fits (Ok other) second =
      let same = same_lines reads of_form second.whole passed.whole in
      let wrote = rw same at second.wrote in
      let stands = wrote.stand (rw passed.size_is at fits) in
      rw (stands, passed.size_is) (Makes.made passed.lines passed.whole (rw passed.size_is at fits))
  sheet_given fits (Err fault) second = absurd (not_both reads of_form second passed.whole)

-- bytes that were lent and are none
pub none_lent : (none sheet : List ℕ) → length none ≡ 0 → none ++ sheet ≡ sheet
none_lent none sheet is = rw (empty none is)
