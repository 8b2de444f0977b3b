-- Document 02, W-202: the sheet that lines name, which lines are taken, and what a call of the importer gives. Nothing here reads a text.
use Rattle.std.specs.Prelude.{ℕ, suc, ◌≤◌, ◌<◌, Bool, not, ◌&&◌, List, [], ◌∷◌, length}
use Rattle.paper.specs.Groups.{Rule, Group}
use Rattle.paper.specs.Words.{Outcome, refused}
use Rattle.records.specs.Framing.{record_of}
use Rattle.records.specs.RecordBytes.{gate_body, rule_body}
use Rattle.sheets.specs.Sheets.{faulty}
use Rattle.sheets.specs.SheetBytes.{sheet_of}
use Rattle.places.specs.Written.{written_to}
use Rattle.printed.specs.Printed.{Whole, FirstFault}
use Rattle.lines.specs.Lines.{Line, group, rule, print, form}

-- ## The sheet that lines name
-- the rules up to the next group's line
unfoldable pub rules_of : List Line → List Rule
rules_of [] = []
rules_of (group gate ∷ lines) = []
rules_of (rule one ∷ lines) = one ∷ rules_of lines

-- a group for each group's line, with the rules up to the next
unfoldable pub groups_of : List Line → List Group
groups_of [] = []
groups_of (group gate ∷ lines) = record { gate = gate; rules = rules_of lines } ∷ groups_of lines
groups_of (rule one ∷ lines) = groups_of lines

-- "the end record is added"
unfoldable pub sheet_made : List Line → List ℕ
sheet_made lines = sheet_of (groups_of lines)

-- ## Which lines are taken
-- a line's record
unfoldable pub record_bytes : Line → List ℕ
record_bytes (group gate) = record_of 1 (gate_body gate)
record_bytes (rule one) = record_of 2 (rule_body one)

-- how many groups and rules these lines name
unfoldable pub group_lines : List Line → ℕ
group_lines [] = 0
group_lines (group gate ∷ lines) = suc (group_lines lines)
group_lines (rule one ∷ lines) = group_lines lines

unfoldable pub rule_lines : List Line → ℕ
rule_lines [] = 0
rule_lines (group gate ∷ lines) = rule_lines lines
rule_lines (rule one ∷ lines) = suc (rule_lines lines)

-- "8, the first line not of this form or whose record 01 calls faulty": a line is taken, after those before it, if it is neither
unfoldable pub taken : List Line → Line → Bool
taken before line = form line && not (faulty (group_lines before) (rule_lines before) (record_bytes line))

-- the text is these lines, and each of them is taken
abbrev pub WholeText : List ℕ → List Line → Type 0
WholeText text lines = Whole print taken text lines

-- the first line at fault has this number, from 1
abbrev pub FirstAtFault : List ℕ → ℕ → Type 0
FirstAtFault text number = FirstFault print taken text number

-- ## A call
-- what a call on a text and a lent sheet gives: the number, the value, and what the sheet is afterwards
pub data Makes (text sheet : List ℕ) : Outcome → Type 0 where
  -- "8 .. with its line number from 1"
  at_fault : (line : ℕ) → FirstAtFault text line → Makes text sheet (refused 8 line sheet)
  -- "9, exactly when the lent sheet is shorter than the sheet made, after 8"
  too_short : (lines : List Line) → WholeText text lines → length sheet < length (sheet_made lines)
      → Makes text sheet (refused 9 0 sheet)
  -- "0 returns the length written, bytes beyond it stay"
  made : (lines : List Line) → WholeText text lines → length (sheet_made lines) ≤ length sheet
      → Makes text sheet (written_to sheet (sheet_made lines))

abbrev pub MakesTo : List ℕ → List ℕ → ℕ → ℕ → List ℕ → Type 0
MakesTo text sheet number value after = Makes text sheet (record { number = number; value = value; place = after })
