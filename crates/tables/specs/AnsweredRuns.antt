-- "answered n exactly when ..": each number of document 01 for a table run.
use Rattle.std.specs.Prelude.{ℕ, ◌*◌, ◌<◌, ◌≡◌, true, ◌↔◌, ◌⊎◌, List, length, take}
use Rattle.std.proofs.Math.Path.{refl, sym}
use Rattle.std.proofs.Common.{ap, ◌∙◌, ⊎_elim, arith, length-take}
use Rattle.std.proofs.Math.Bool.{true≢false}
use Rattle.std.proofs.Math.Logic.{inr}
use Rattle.paper.specs.Groups.{Group}
use Rattle.paper.specs.GroupsLaws.{same_equal, same_itself}
use Rattle.paper.specs.Nodes.{node_count}
use Rattle.paper.specs.TestLaws.{apart, by_test}
use Rattle.paper.specs.Words.{Outcome, read_word, word_outcome}
use Rattle.paper.specs.Answered.{RightLength, FirstOther, answered, answered_place}
use Rattle.sheets.specs.Sheets.{Sheet, refused, accepted, read_sheet}
use Rattle.sheets.specs.Accepted.{groups_in, groups_of, Accepted}
use Rattle.sheets.specs.Checks.{check_of, checked}
use Rattle.sheets.specs.SheetBytes.{bounded}
use Rattle.levels.specs.CountLaws.{table-length}
use Rattle.levels.specs.Layout.{table_of}
use Rattle.judging.specs.Judgements.{right_table}
use Rattle.tables.specs.RunOutcomes.{run_of, run_outcome}
use Rattle.tables.specs.Demand3.{within_bounds, right_reads, run_reads}

-- the table's first 4 × node count numbers are those the groups make
abbrev pub Right : List Group → List ℕ → Type 0
Right groups table = take (4 * node_count groups) table ≡ table_of groups

-- they "are missing or not those the sheet makes"
abbrev pub MissingOrOther : List Group → List ℕ → Type 0
MissingOrOther groups table = (length table < 4 * node_count groups) ⊎ (Right groups table → ⊥)

-- the groups that were read are within 01's bounds
abbrev Fit : Sheet → Type 0
Fit found = (groups : List Group) → found ≡ accepted groups → bounded groups ≡ true

module _ (table word : List ℕ) where
  is_right : (groups : List Group) → Right groups table → right_table groups table ≡ true
  unfolding right_table
  is_right groups right = rw right (same_itself (table_of groups))

  says_right : (groups : List Group) → right_table groups table ≡ true → Right groups table
  unfolding right_table
  says_right groups is = same_equal (take (4 * node_count groups) table) (table_of groups) is

  not_missing : (groups : List Group) → bounded groups ≡ true → Right groups table → MissingOrOther groups table → ⊥
  not_missing groups fits right missing =
      ⊎_elim
      (λ short. omega (arith, short, table-length groups fits, ap length right, length-take (4 * node_count groups) table))
      (λ no. no right) missing

  -- the number that is returned with the right table
  read_number : (groups : List Group) → bounded groups ≡ true → right_table groups table ≡ true
      → (run_of (accepted groups) table word).number ≡ (word_outcome (read_word groups) word).number
  read_number groups fits right = ap (λ (o : Outcome). o.number) (right_reads groups fits table word right)

  three_by : (found : Sheet) → Fit found → ((run_of found table word).number ≡ 3) ↔ ((check_of found).number ≡ 3)
  unfolding run_of
  three_by (refused place) fit = (λ is. refl, λ is. refl)
  three_by (accepted groups) fit = (
    λ is. by_test (right_table groups table)
        (λ p. absurd ((answered (read_word groups) word 3).0 (sym (read_number groups (fit groups refl) p) ∙ is)))
        (λ p. let n : 7 ≡ 3 = rw p at is in absurd (omega arith)),
    λ is. absurd (omega (arith, is)),
  )

  seven_by : (found : Sheet) → Fit found
      → ((run_of found table word).number ≡ 7) ↔ ((found ≡ accepted (groups_in found)) × MissingOrOther (groups_in found) table)
  unfolding run_of groups_in
  seven_by (refused place) fit = (λ is. absurd (omega (arith, is)), λ both. apart (let no = both.0 in cc))
  seven_by (accepted groups) fit = (
    λ is. by_test (right_table groups table)
        (λ p. absurd ((answered (read_word groups) word 7).0 (sym (read_number groups (fit groups refl) p) ∙ is)))
        (λ p. (refl, inr (λ right. true≢false (sym (is_right groups right) ∙ p)))),
    λ both. by_test (right_table groups table)
        (λ p. absurd (not_missing groups (fit groups refl) (says_right groups p) both.1)) (λ p. rw p refl),
  )

  read_by : (n : ℕ) → (n ≡ 3 → ⊥) → (n ≡ 7 → ⊥) → (found : Sheet) → Fit found
      → ((run_of found table word).number ≡ n)
      ↔ ((found ≡ accepted (groups_in found)) × Right (groups_in found) table × ((word_outcome (read_word (groups_in found)) word).number ≡ n))
  unfolding run_of groups_in
  read_by n no-3 no-7 (refused place) fit = (λ is. absurd (no-3 (sym is)), λ both. apart (let no = both.0 in cc))
  read_by n no-3 no-7 (accepted groups) fit = (
    λ is. by_test (right_table groups table)
        (λ p. (refl, says_right groups p, sym (ap (λ (o : Outcome). o.number) (right_reads groups (fit groups refl) table word p)) ∙ is))
        (λ p. let seven : 7 ≡ n = rw p at is in absurd (no-7 (sym seven))),
    λ both. read_number groups (fit groups refl) (is_right groups both.1) ∙ both.2,
  )

module _ (sheet table word : List ℕ) where
  abbrev number : ℕ
  number = (run_outcome sheet table word).number

  -- "the sheet has a faulty record": where a check says so
  pub ran_3 : (number ≡ 3) ↔ ((checked sheet).number ≡ 3)
  unfolding run_outcome checked
  ran_3 = three_by table word (read_sheet sheet) (within_bounds sheet)

  pub ran_7 : (number ≡ 7) ↔ (Accepted sheet × MissingOrOther (groups_of sheet) table)
  unfolding run_outcome groups_of
  ran_7 = seven_by table word (read_sheet sheet) (within_bounds sheet)

  -- every other number, 0, 1, 2 or 4, exactly when reading the word by the sheet's groups is answered so
  pub ran_as_read : (n : ℕ) → (n ≡ 3 → ⊥) → (n ≡ 7 → ⊥)
      → (number ≡ n)
      ↔ (Accepted sheet × Right (groups_of sheet) table × ((word_outcome (read_word (groups_of sheet)) word).number ≡ n))
  unfolding run_outcome groups_of
  ran_as_read n no-3 no-7 = read_by table word n no-3 no-7 (read_sheet sheet) (within_bounds sheet)

  value_read : Accepted sheet → Right (groups_of sheet) table
      → (run_outcome sheet table word).value ≡ (word_outcome (read_word (groups_of sheet)) word).value
  value_read is right =
      ap (λ (o : Outcome). o.value) (run_reads sheet table word (groups_of sheet) is (is_right table word (groups_of sheet) right))

  -- W-204: with 2 the place of the first byte outside a to z is returned, and no other
  pub ran_place : (place : ℕ)
      → ((number ≡ 2) × ((run_outcome sheet table word).value ≡ place))
      ↔ (Accepted sheet × Right (groups_of sheet) table × (RightLength word × FirstOther word place))
  ran_place place =
      let two = ran_as_read 2 (λ is. omega (arith, is)) (λ is. omega (arith, is)) in
      let named = answered_place (read_word (groups_of sheet)) word place in (
        λ is. let read = two.0 is.0 in (read.0, read.1, named.0 (read.2, sym (value_read read.0 read.1) ∙ is.1)),
        λ all. let both = named.1 all.2 in (two.1 (all.0, all.1, both.0), value_read all.0 all.1 ∙ both.1),
      )
