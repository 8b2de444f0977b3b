-- Accepted sheets and bounded lists of groups correspond one to one. `ReadBack` and `WriteBack` have the two ways; here is
-- what follows of them.
use Rattle.std.specs.Prelude.{ℕ, ◌≤◌, ◌≡◌, refl, true, ◌↔◌, List}
use Rattle.std.proofs.Common.{sym, ap, ◌∙◌, arith}
use Rattle.paper.specs.Groups.{Group}
use Rattle.sheets.specs.Sheets.{Sheet, refused, accepted, read_sheet}
use Rattle.sheets.specs.Checks.{check_of, checked}
use Rattle.sheets.specs.SheetBytes.{sheet_of, bounded}
use Rattle.paper.specs.Nodes.{node_count}
use Rattle.sheets.specs.NodeBounds.{at_most_1552}
use Rattle.sheets.specs.ReadBack.{read_back}
use Rattle.sheets.specs.WriteBack.{write_back}

-- a sheet is accepted as a list of groups exactly if the list is bounded and the sheet is its bytes
pub accepted_exactly : (sheet : List ℕ) (groups : List Group)
    → (read_sheet sheet ≡ accepted groups) ↔ ((sheet ≡ sheet_of groups) × (bounded groups ≡ true))
accepted_exactly sheet groups =
    (write_back sheet groups, λ both. ap read_sheet both.0 ∙ read_back groups both.1)

-- a check answers 0 exactly for the bytes of a bounded list of groups, and 3 for all others
pub zero_exactly : (sheet : List ℕ)
    → ((checked sheet).number ≡ 0) ↔ ((groups : List Group) × (sheet ≡ sheet_of groups) × (bounded groups ≡ true))
unfolding checked
zero_exactly sheet = (λ is. by (read_sheet sheet) refl is, back)
  where
    by : (found : Sheet) → read_sheet sheet ≡ found → (check_of found).number ≡ 0
        → (groups : List Group) × (sheet ≡ sheet_of groups) × (bounded groups ≡ true)
    by (refused place) read is = absurd (omega arith)
    by (accepted groups) read is = let both = write_back sheet groups read in (groups, both.0, both.1)

    back : (groups : List Group) × (sheet ≡ sheet_of groups) × (bounded groups ≡ true) → (check_of (read_sheet sheet)).number ≡ 0
    back all = rw (all.1, read_back all.0 all.2) refl

-- one list, one sheet
pub one_sheet : (a b : List ℕ) (groups : List Group) → read_sheet a ≡ accepted groups → read_sheet b ≡ accepted groups → a ≡ b
one_sheet a b groups one other = (write_back a groups one).0 ∙ sym (write_back b groups other).0

-- "at most 1,552"
pub nodes_of_accepted : (sheet : List ℕ) (groups : List Group) → read_sheet sheet ≡ accepted groups → node_count groups ≤ 1552
nodes_of_accepted sheet groups is = at_most_1552 groups (write_back sheet groups is).1
