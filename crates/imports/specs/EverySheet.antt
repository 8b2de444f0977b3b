-- Every sheet of the nine conditions that 01 accepts is made by some text; the shipped rules, written as such a text, make the
-- shipped sheet.
use Rattle.std.specs.Prelude.{ℕ, ◌+◌, ◌≤◌, ◌<◌, ◌≡◌, refl, Bool, true, ◌&&◌, ltb, length}
use Rattle.std.proofs.Math.Path.{sym, ap}
use Rattle.std.proofs.Common.{◌∙◌, arith, eqb-true}
use mathlib.Core.List.{List, [], ◌∷◌, ◌++◌, map, append-nil}
use Rattle.paper.specs.Groups.{Rule, Group, number_of_gate}
use Rattle.paper.specs.Shipped.{shipped}
use Rattle.paper.specs.TestLaws.{and_parts}
use Rattle.records.specs.RecordBytes.{allowed}
use Rattle.records.specs.WrittenRules.{bounds, replacement_letters, rule_sound}
use Rattle.sheets.specs.Sheets.{accepted, read_sheet}
use Rattle.sheets.specs.SheetBytes.{sheet_of, all_allowed, groups_allowed, rule_count, first_always, bounded}
use Rattle.sheets.specs.ReadBack.{misplaced_not, rule_placed, within}
use Rattle.sheets.specs.WriteBack.{write_back}
use Rattle.sheets.specs.ShippedSheet.{size, within_bounds}
use Rattle.places.specs.Written.{written_to}
use Rattle.printed.specs.Printed.{text_of, all_taken}
use Rattle.printed.specs.PrintedLaws.{at_end}
use Rattle.lines.specs.Lines.{Line, group, rule, spellings, print, form}
use Rattle.lines.specs.PrintedLines.{reads}
use Rattle.imports.specs.Makes.{rules_of, groups_of, sheet_made, group_lines, rule_lines, taken, WholeText, Makes, made}
use Rattle.imports.specs.TakenLaws.{of_form, group_taken, rule_taken, groups_more, groups_stay, rules_more, rules_stay}

-- ## The lines of groups
unfoldable pub lines_of : List Group → List Line
lines_of [] = []
lines_of (one ∷ groups) = group one.gate ∷ (map rule one.rules ++ lines_of groups)

-- every rule has one of the nine conditions, which alone have a spelling
unfoldable pub all_spelled : List Rule → Bool
all_spelled [] = true
all_spelled (one ∷ rules) = ltb one.condition (length spellings) && all_spelled rules

unfoldable pub groups_spelled : List Group → Bool
groups_spelled [] = true
groups_spelled (one ∷ groups) = all_spelled one.rules && groups_spelled groups

-- ## They name the groups
rules_named : (rules : List Rule) (groups : List Group) → rules_of (map rule rules ++ lines_of groups) ≡ rules
unfolding rules_of lines_of
rules_named [] [] = refl
rules_named [] (one ∷ groups) = refl
rules_named (one ∷ rules) groups = ap (λ (l : List Rule). one ∷ l) (rules_named rules groups)

past_rules : (rules : List Rule) (lines : List Line) → groups_of (map rule rules ++ lines) ≡ groups_of lines
unfolding groups_of
past_rules [] lines = refl
past_rules (one ∷ rules) lines = past_rules rules lines

pub groups_named : (groups : List Group) → groups_of (lines_of groups) ≡ groups
unfolding groups_of lines_of
groups_named [] = refl
groups_named (one ∷ groups) =
    rw (rules_named one.rules groups, past_rules one.rules (lines_of groups), groups_named groups) refl

-- ## They are taken
spelled-form : (one : Rule) → ltb one.condition (length spellings) ≡ true → allowed one ≡ true → form (rule one) ≡ true
unfolding form
spelled-form one spelled all =
    let is = bounds one all in
    rw (spelled, is.ending_letters, replacement_letters one one.action is.fit_action)

-- after these lines, the lines of the groups are taken
abbrev AllTaken : List Group → Type 0
AllTaken groups =
    (before : List Line)
    → group_lines before + length groups ≤ 16
    → rule_lines before + rule_count groups ≤ 128
    → groups_allowed groups ≡ true
    → groups_spelled groups ≡ true
    → (group_lines before ≡ 0 → first_always groups ≡ true)
    → all_taken taken before (lines_of groups) ≡ true

rules_taken : (groups : List Group) → AllTaken groups → (rules : List Rule) (before : List Line) → 0 < group_lines before
    → group_lines before + length groups ≤ 16
    → rule_lines before + (length rules + rule_count groups) ≤ 128
    → all_allowed rules ≡ true → all_spelled rules ≡ true → groups_allowed groups ≡ true → groups_spelled groups ≡ true
    → all_taken taken before (map rule rules ++ lines_of groups) ≡ true
unfolding all_taken all_allowed all_spelled
rules_taken groups later [] before some few fewer all spelled each nine =
    later before few (omega arith) each nine (λ none. absurd (omega arith))
rules_taken groups later (one ∷ rules) before some few fewer all spelled each nine =
    let ok = and_parts (allowed one) (all_allowed rules) all in
    let spells = and_parts (ltb one.condition (length spellings)) (all_spelled rules) spelled in
    let here : taken before (rule one) ≡ true =
    rule_taken before one (spelled-form one spells.0 ok.0)
    ∙ rw (rule_sound one ok.0, rule_placed (group_lines before) (rule_lines before) some (omega arith)) refl in
    let next = before ++ (rule one ∷ []) in
    let g = groups_stay before one in
    let r = rules_more before one in
    rw here
    (rules_taken groups later rules next (omega arith) (omega arith) (omega arith) ok.1 spells.1 each nine)

groups_taken : (groups : List Group) → AllTaken groups
unfolding all_taken lines_of groups_allowed groups_spelled rule_count
groups_taken [] before few fewer each nine first = refl
groups_taken (one ∷ groups) before few fewer each nine first =
    let ok = and_parts (all_allowed one.rules) (groups_allowed groups) each in
    let spells = and_parts (all_spelled one.rules) (groups_spelled groups) nine in
    let here : taken before (group one.gate) ≡ true =
    group_taken before one.gate
    ∙ rw (misplaced_not (group_lines before) one.gate (omega arith) (λ none. eqb-true (number_of_gate one.gate) 0 (first none))) refl in
    let next = before ++ (group one.gate ∷ []) in
    let g = groups_more before one.gate in
    let r = rules_stay before one.gate in
    rw here
    (rules_taken groups (groups_taken groups) one.rules next (omega arith) (omega arith) (omega arith) ok.0 spells.0 ok.1
    spells.1)

-- ## What follows
-- the text of the lines of groups, and what it makes
module _ (groups : List Group) (within_bounds : bounded groups ≡ true) (spelled : groups_spelled groups ≡ true) where
  all_lines : WholeText (text_of print (lines_of groups)) (lines_of groups)
  unfolding group_lines rule_lines
  all_lines =
      let is = within groups within_bounds in
      at_end reads of_form
      (record {
        text_is = sym (append-nil (text_of print (lines_of groups)));
        all_taken_lem =
            groups_taken groups [] (omega (arith, is.at_most_16)) (omega (arith, is.at_most_128)) is.each spelled
            (λ none. is.always_first);
      })

  pub groups_made : (sheet : List ℕ) → length (sheet_of groups) ≤ length sheet
      → Makes (text_of print (lines_of groups)) sheet (written_to sheet (sheet_of groups))
  unfolding sheet_made
  groups_made sheet fits =
      let same = ap sheet_of (groups_named groups) in
      let whole : Makes (text_of print (lines_of groups)) sheet (written_to sheet (sheet_made (lines_of groups))) =
      made (lines_of groups) all_lines (rw (← same) at fits) in
      rw same at whole

-- an inspector can write any sheet that 01 accepts, if its rules have one of the nine conditions
pub every_sheet : (wanted : List ℕ) (groups : List Group) → read_sheet wanted ≡ accepted groups → groups_spelled groups ≡ true
    → (sheet : List ℕ) → length wanted ≤ length sheet
    → (text : List ℕ) × Makes text sheet (written_to sheet wanted)
every_sheet wanted groups is spelled sheet fits =
    let both = write_back wanted groups is in
    (text_of print (lines_of groups), rw both.0 (groups_made groups both.1 spelled sheet (rw both.0 at fits)))

shipped-spelled : groups_spelled shipped ≡ true
unfolding shipped groups_spelled all_spelled spellings
shipped-spelled = refl

-- the shipped rules, written so, make the shipped sheet
pub shipped_made : (sheet : List ℕ) → 861 ≤ length sheet
    → Makes (text_of print (lines_of shipped)) sheet (written_to sheet (sheet_of shipped))
shipped_made sheet fits = groups_made shipped within_bounds shipped-spelled sheet (rw size fits)
