-- "answered n exactly when ..": each number of document 01 for a translation.
use Rattle.std.specs.Prelude.{ℕ, ◌*◌, ◌≤◌, ◌<◌, ◌≡◌, ◌↔◌, List, ltb, length}
use Rattle.std.proofs.Math.Path.{refl}
use Rattle.std.proofs.Common.{arith}
use borrow.Author.Tests.{ltb-true, ltb-false, lt-ltb, le-ltb}
use Rattle.paper.specs.Nodes.{node_count}
use Rattle.paper.specs.TestLaws.{apart, by_test}
use Rattle.sheets.specs.Sheets.{Sheet, refused, accepted, read_sheet}
use Rattle.sheets.specs.Accepted.{groups_in, groups_of, Accepted}
use Rattle.sheets.specs.Checks.{check_of, checked}
use Rattle.translations.specs.Translations.{laid_out, translation_of, translation}

module _ (table : List ℕ) where
  abbrev Long : Sheet → Type 0
  Long found = 4 * node_count (groups_in found) ≤ length table

  abbrev TooShort : Sheet → Type 0
  TooShort found = length table < 4 * node_count (groups_in found)

  zero_by : (found : Sheet) → ((translation_of found table).number ≡ 0) ↔ ((found ≡ accepted (groups_in found)) × Long found)
  unfolding translation_of groups_in
  zero_by (refused place) = (λ is. absurd (omega (arith, is)), λ both. apart (let no = both.0 in cc))
  zero_by (accepted groups) = (
    λ is. by_test (ltb (length table) (4 * node_count groups)) (λ p. let n : 6 ≡ 0 = rw p at is in absurd (omega arith))
        (λ p. (refl, ltb-false _ _ p)),
    λ both. rw (le-ltb (length table) (4 * node_count groups) both.1) refl,
  )

  leaves_by : (found : Sheet) → Long found → found ≡ accepted (groups_in found)
      → (translation_of found table).place ≡ laid_out (groups_in found) table
  unfolding translation_of groups_in
  leaves_by (refused place) long is = apart (cc)
  leaves_by (accepted groups) long is = rw (le-ltb (length table) (4 * node_count groups) long) refl

  six_by : (found : Sheet) → ((translation_of found table).number ≡ 6) ↔ ((found ≡ accepted (groups_in found)) × TooShort found)
  unfolding translation_of groups_in
  six_by (refused place) = (λ is. absurd (omega (arith, is)), λ both. apart (let no = both.0 in cc))
  six_by (accepted groups) = (
    λ is. by_test (ltb (length table) (4 * node_count groups)) (λ p. (refl, ltb-true _ _ p))
        (λ p. let n : 0 ≡ 6 = rw p at is in absurd (omega arith)),
    λ both. rw (lt-ltb (length table) (4 * node_count groups) both.1) refl,
  )

  three_by : (found : Sheet) → ((translation_of found table).number ≡ 3) ↔ ((check_of found).number ≡ 3)
  unfolding translation_of
  three_by (refused place) = (λ is. refl, λ is. refl)
  three_by (accepted groups) = (
    λ is. by_test (ltb (length table) (4 * node_count groups)) (λ p. let n : 6 ≡ 3 = rw p at is in absurd (omega arith))
        (λ p. let n : 0 ≡ 3 = rw p at is in absurd (omega arith)),
    λ is. absurd (omega (arith, is)),
  )

module _ (sheet table : List ℕ) where
  pub translated_0 : ((translation sheet table).number ≡ 0) ↔ (Accepted sheet × (4 * node_count (groups_of sheet) ≤ length table))
  unfolding translation groups_of
  translated_0 = zero_by table (read_sheet sheet)

  -- and then the table's nodes are laid out
  pub translated_leaves : (translation sheet table).number ≡ 0 → (translation sheet table).place ≡ laid_out (groups_of sheet) table
  unfolding translation groups_of
  translated_leaves is = let both = (zero_by table (read_sheet sheet)).0 is in leaves_by table (read_sheet sheet) both.1 both.0

  -- "the sheet has a faulty record": where a check says so
  pub translated_3 : ((translation sheet table).number ≡ 3) ↔ ((checked sheet).number ≡ 3)
  unfolding translation checked
  translated_3 = three_by table (read_sheet sheet)

  -- "the lent table is shorter than 4 times the node count"
  pub translated_6 : ((translation sheet table).number ≡ 6) ↔ (Accepted sheet × (length table < 4 * node_count (groups_of sheet)))
  unfolding translation groups_of
  translated_6 = six_by table (read_sheet sheet)
