-- What a translation answers, case by case.
use Rattle.std.specs.Prelude.{ℕ, ◌*◌, ◌≤◌, ◌<◌, ◌≡◌, List, ◌++◌, length, drop}
use Rattle.std.proofs.Math.Path.{refl}
use Rattle.std.proofs.Common.{sym, ap, arith}
use borrow.Author.Tests.{lt-ltb, le-ltb}
use Rattle.sheets.specs.Sheets.{Sheet, refused, accepted, read_sheet}
use Rattle.paper.specs.Nodes.{node_count}
use Rattle.paper.specs.Words.{Gives}
use Rattle.answers.specs.Answers.{Check, counting, faulty_at}
use Rattle.sheets.specs.Checks.{check_of, checked}
use Rattle.levels.specs.Layout.{table_of}
use Rattle.translations.specs.Translations.{laid_out, translation_of, translation}
use Rattle.sheets.specs.Accepted.{groups_in, groups_of, Accepted}

accepted_by : (found : Sheet) (nodes groups : ℕ) → counting nodes groups ≡ check_of found
    → (found ≡ accepted (groups_in found)) × (nodes ≡ node_count (groups_in found)) × (groups ≡ length (groups_in found))
unfolding groups_in
accepted_by (refused place) nodes groups e = absurd (omega (arith, ap (λ (c : Check). c.number) e))
accepted_by (accepted list) nodes groups e = (refl, ap (λ (c : Check). c.value) e, ap (λ (c : Check). c.groups) e)

refused_by : (found : Sheet) (place : ℕ) → faulty_at place ≡ check_of found → found ≡ refused place
refused_by (refused other) place e = ap refused (sym (ap (λ (c : Check). c.value) e))
refused_by (accepted groups) place e = absurd (omega (arith, ap (λ (c : Check). c.number) e))

pub checked_accepted : (sheet : List ℕ) (nodes groups : ℕ) → counting nodes groups ≡ checked sheet
    → Accepted sheet × (nodes ≡ node_count (groups_of sheet)) × (groups ≡ length (groups_of sheet))
unfolding checked groups_of
checked_accepted sheet nodes groups e = accepted_by (read_sheet sheet) nodes groups e

pub translation_refused : (sheet table : List ℕ) (place : ℕ) → faulty_at place ≡ checked sheet
    → Gives (translation sheet table) 3 place table
unfolding checked translation translation_of
translation_refused sheet table place e =
    rw (refused_by (read_sheet sheet) place e) (record { number_is = refl; value_is = refl; place_is = refl })

module _ (sheet table : List ℕ) (nodes groups : ℕ) (e : counting nodes groups ≡ checked sheet) where
  pub translation_short : length table < 4 * nodes → Gives (translation sheet table) 6 0 table
  unfolding translation translation_of
  translation_short h =
      let is = checked_accepted sheet nodes groups e in
      rw (is.0, ← is.1, lt-ltb (length table) (4 * nodes) h) (record { number_is = refl; value_is = refl; place_is = refl })

  pub translation_done : (front : List ℕ) → 4 * nodes ≤ length table → front ≡ table_of (groups_of sheet)
      → Gives (translation sheet table) 0 nodes (front ++ drop (4 * nodes) table)
  unfolding translation translation_of laid_out
  translation_done front h laid =
      let is = checked_accepted sheet nodes groups e in
      rw (is.0, ← is.1, le-ltb (length table) (4 * nodes) h, laid) (record { number_is = refl; value_is = refl; place_is = refl })
