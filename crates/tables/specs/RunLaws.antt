-- What the run of a table answers, by what is said of the sheet and the table.
use Rattle.std.specs.Prelude.{ℕ, ◌*◌, ◌≤◌, ◌≡◌, true, false, Ok, Err, List, take}
use Rattle.std.proofs.Math.Path.{refl, ap}
use Rattle.std.proofs.Common.{sym}
use native.Mathlib.Omega.{arith}
use Rattle.std.proofs.Math.ListN.{length, length-take}
use Rattle.answers.specs.Answers.{refused_run}
use Rattle.answers.specs.declared.FaultySheet.{FaultySheet}
use Rattle.answers.specs.declared.RunRefusal.{RunRefusal}
use Rattle.answers.specs.declared.RunRefusal.TheVariants.{Sheet as Unread, Table, Word}
use Rattle.answers.specs.declared.WordRefusal.{WordRefusal}
use Rattle.paper.specs.GroupsLaws.{same_equal}
use Rattle.paper.specs.Nodes.{node_count}
use Rattle.paper.specs.TestLaws.{apart, by_test}
use Rattle.paper.specs.Words.{word_outcome, Gives}
use Rattle.judging.specs.Judgements.{right_table, judgement_of, judgement}
use Rattle.levels.specs.Layout.{table_of}
use Rattle.levels.specs.CountLaws.{table-length}
use Rattle.paths.specs.Children.{nodes_in}
use Rattle.sheets.specs.Sheets.{Sheet, refused, accepted, read_sheet}
use Rattle.sheets.specs.Accepted.{groups_in, groups_of, Accepted}
use Rattle.sheets.specs.NodeBounds.{at_most_1552}
use Rattle.sheets.specs.WriteBack.{write_back}
use Rattle.walks.specs.Walk.{walk_word}
use Rattle.tables.specs.RunOutcomes.{run_of, run_outcome}

-- ## What it says of the sheet

refused_by : (found : Sheet) (table : List ℕ) (fault : FaultySheet) → judgement_of found table ≡ Err (Unread fault)
    → found ≡ refused fault.place
unfolding judgement_of
refused_by (refused other) table fault e =
    let same : record { place = other } ≡ fault = cc in ap refused (ap (λ (f : FaultySheet). f.place) same)
refused_by (accepted groups) table fault e =
    by_test (right_table groups table) (λ p. apart (let no = rw p at e in cc)) (λ p. apart (let no = rw p at e in cc))

never_by : (found : Sheet) (table : List ℕ) (word : WordRefusal) → judgement_of found table ≡ Err (Word word) → ⊥
unfolding judgement_of
never_by (refused other) table word e = apart (cc)
never_by (accepted groups) table word e =
    by_test (right_table groups table) (λ p. apart (let no = rw p at e in cc)) (λ p. apart (let no = rw p at e in cc))

other_by : (found : Sheet) (table : List ℕ) → judgement_of found table ≡ Err Table
    → (found ≡ accepted (groups_in found)) × (right_table (groups_in found) table ≡ false)
unfolding judgement_of groups_in
other_by (refused place) table e = apart (cc)
other_by (accepted groups) table e =
    by_test (right_table groups table) (λ p. apart (let no = rw p at e in cc)) (λ p. (refl, p))

right_by : (found : Sheet) (table : List ℕ) (nodes : ℕ) → judgement_of found table ≡ Ok nodes
    → (found ≡ accepted (groups_in found)) × (right_table (groups_in found) table ≡ true) × (nodes ≡ node_count (groups_in found))
unfolding judgement_of groups_in
right_by (refused place) table nodes e = apart (cc)
right_by (accepted groups) table nodes e =
    by_test (right_table groups table) (λ p. (refl, p, let it = rw p at e in cc)) (λ p. apart (let no = rw p at e in cc))

-- ## What the run answers

module _ (sheet table word : List ℕ) where
  -- what is said of the sheet and the table is the answer, and leaves the word as it came
  pub run_refused : (refusal : RunRefusal) → Err refusal ≡ judgement sheet table
      → Gives (run_outcome sheet table word) (refused_run refusal).number (refused_run refusal).value word
  unfolding judgement run_outcome run_of
  run_refused (Unread fault) is =
      rw (refused_by (read_sheet sheet) table fault (sym is)) (record { number_is = refl; value_is = refl; place_is = refl })
  run_refused Table is =
      let found = other_by (read_sheet sheet) table (sym is) in
      rw (found.0, found.1) (record { number_is = refl; value_is = refl; place_is = refl })
  run_refused (Word refusal) is = absurd (never_by (read_sheet sheet) table refusal (sym is))

  module _ (nodes : ℕ) (is : Ok nodes ≡ judgement sheet table) where
    right : Accepted sheet × (right_table (groups_of sheet) table ≡ true) × (nodes ≡ node_count (groups_of sheet))
    unfolding judgement groups_of
    right = right_by (read_sheet sheet) table nodes (sym is)

    pub run_accepted : Accepted sheet
    run_accepted = right.0

    -- the table has so many nodes, and it is small
    pub run_inside : (4 * nodes ≤ length table) × (4 * nodes ≤ 6208)
    unfolding right_table
    run_inside =
        let fits = (write_back sheet (groups_of sheet) right.0).1 in
        let front = same_equal (take (4 * node_count (groups_of sheet)) table) (table_of (groups_of sheet)) right.1 in (
          omega (
            arith,
            right.2,
            ap length front,
            table-length (groups_of sheet) fits,
            length-take (4 * node_count (groups_of sheet)) table,
          ),
          omega (arith, right.2, at_most_1552 (groups_of sheet) fits),
        )

    pub run_right : {number value : ℕ} {left : List ℕ}
        → Gives (word_outcome (walk_word (nodes_in (take (4 * nodes) table)) (groups_of sheet)) word) number value left
        → Gives (run_outcome sheet table word) number value left
    unfolding run_outcome run_of
    run_right gives = rw (right.0, right.1, ← right.2) gives
