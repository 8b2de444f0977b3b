-- Reading a whole sheet record by record: what the rest of it, from a place on, decides.
use Rattle.std.specs.Prelude.{ℕ, ◌+◌, ◌≡◌, refl, true, false, Result, Ok, Err, List, [], ◌∷◌, length, drop}
use Rattle.std.proofs.Common.{sym, ap, ◌∙◌, arith}
use Rattle.paper.specs.Groups.{Rule, Group}
use Rattle.paper.specs.Nodes.{node_count}
use Rattle.paper.specs.TestLaws.{apart}
use Rattle.answers.specs.Answers.{counting, faulty_at}
use Rattle.records.specs.Framing.{body}
use Rattle.records.specs.Records.{gate, rule}
use Rattle.records.specs.RecordLaws.{EndHere}
use Rattle.records.specs.RecordPlaces.{GroupAt, RuleAt}
use Rattle.sheets.specs.Sheets.{misplaced_group, misplaced_rule, faulty, faulty_at_lem, holding, rule_then, group_then, rest_at}
use Rattle.sheets.specs.Sheets.{Sheet, refused, accepted, read_sheet}
use Rattle.sheets.specs.Accepted.{groups_in, groups_of, Accepted}
use Rattle.sheets.specs.Reads.{ReadAs}
use Rattle.answers.specs.declared.FaultySheet.{FaultySheet}
use Rattle.sheets.specs.Checks.{checked}
use Rattle.sheets.specs.SheetSteps.{group_fault, rule_fault}
use Rattle.sheets.specs.SheetPlaces.{start_of, rest_start, rest_fault, rest_group, rest_rule, rest_end}

-- the rest decides: a fault in it is the sheet's first, and its groups are the sheet's last
pub record Reading (sheet : List ℕ) (at groups rules : ℕ) : Type 0 where
  pub refuses : (place : ℕ) → rest_at sheet at groups rules ≡ faulty_at_lem place → read_sheet sheet ≡ refused place
  pub accepts : (list : List Rule) (more : List Group) → rest_at sheet at groups rules ≡ holding list more
      → Accepted sheet × (groups + length more ≡ length (groups_of sheet))

refused_start : (found : Sheet) (place : ℕ) → start_of found ≡ faulty_at_lem place → found ≡ refused place
refused_start (refused other) place e = cc
refused_start (accepted groups) place e = apart (cc)

accepted_start : (found : Sheet) (list : List Rule) (more : List Group) → start_of found ≡ holding list more
    → (found ≡ accepted (groups_in found)) × (0 + length more ≡ length (groups_in found))
unfolding groups_in
accepted_start (refused place) list more e = apart (cc)
accepted_start (accepted groups) list more e = let same-groups : groups ≡ more = cc in (refl, omega (arith, ap length same-groups))

pub reading-start : (sheet : List ℕ) → Reading sheet 0 0 0
unfolding groups_of
reading-start sheet =
    record {
      refuses = λ place e. refused_start (read_sheet sheet) place (sym (rest_start sheet) ∙ e);
      accepts = λ list more e. accepted_start (read_sheet sheet) list more (sym (rest_start sheet) ∙ e);
    }

module _ {sheet : List ℕ} {at groups rules : ℕ} (state : Reading sheet at groups rules) where
  abbrev rest : List ℕ
  rest = drop at sheet

  pub faulty_record : faulty groups rules rest ≡ true → read_sheet sheet ≡ refused at
  faulty_record is = state.refuses at (rest_fault sheet at groups rules is)

  -- a record that is not faulty by itself, out of its place
  pub group_refused : {number next : ℕ} → GroupAt sheet at number next → misplaced_group groups (body rest) ≡ true
      → read_sheet sheet ≡ refused at
  group_refused here is = faulty_record (group_fault groups rules here.here ∙ is)

  pub rule_refused : {c a o start middle next : ℕ} → RuleAt sheet at c a o start middle next → misplaced_rule groups rules ≡ true
      → read_sheet sheet ≡ refused at
  rule_refused here is = faulty_record (rule_fault groups rules here.here ∙ is)

  pub last_record : EndHere rest → Accepted sheet × (groups ≡ length (groups_of sheet))
  last_record here =
      let all = state.accepts [] [] (rest_end sheet at groups rules here) in
      (all.0, omega (arith, all.1))

  -- a group's record, in its place
  pub read_group : {number next : ℕ} → GroupAt sheet at number next → misplaced_group groups (body rest) ≡ false
      → Reading sheet next (groups + 1) rules
  read_group here placed =
      let step = rest_group sheet at groups rules here placed in
      record {
        refuses = λ place e. state.refuses place (step ∙ ap (group_then (gate (body rest))) e);
        accepts = λ list more e.
            let all = state.accepts [] (record { gate = gate (body rest); rules = list } ∷ more)
            (step ∙ ap (group_then (gate (body rest))) e) in
            (all.0, omega (arith, all.1));
      }

  -- a rule's record, in its place
  pub read_rule : {c a o start middle next : ℕ} → RuleAt sheet at c a o start middle next → misplaced_rule groups rules ≡ false
      → Reading sheet next groups (rules + 1)
  read_rule here placed =
      let step = rest_rule sheet at groups rules here placed in
      record {
        refuses = λ place e. state.refuses place (step ∙ ap (rule_then (rule (body rest))) e);
        accepts = λ list more e. state.accepts (rule (body rest) ∷ list) more (step ∙ ap (rule_then (rule (body rest))) e);
      }

-- ## What a check answers of what is read

pub check_refused : (sheet : List ℕ) (place : ℕ) → read_sheet sheet ≡ refused place → faulty_at place ≡ checked sheet
unfolding checked
check_refused sheet place is = rw is

pub check_accepted : (sheet : List ℕ) (nodes groups : ℕ) → Accepted sheet → nodes ≡ node_count (groups_of sheet)
    → groups ≡ length (groups_of sheet) → counting nodes groups ≡ checked sheet
unfolding checked
check_accepted sheet nodes groups is n g = rw (is, n, g)

-- ## One sheet, one answer

pub read_one : (sheet : List ℕ) (one other : Result ℕ FaultySheet) → ReadAs sheet one → ReadAs sheet other → one ≡ other
read_one sheet (Ok groups) (Ok many) is also = ap Ok (is.1 ∙ sym also.1)
read_one sheet (Ok groups) (Err fault) is also = apart (let no = sym is.0 ∙ also in cc)
read_one sheet (Err fault) (Ok groups) is also = apart (let no = sym is ∙ also.0 in cc)
read_one sheet (Err fault) (Err other) is also =
    let both = sym is ∙ also in
    let same : fault.place ≡ other.place = cc in
    ap (λ place. Err (record { place = place })) same
