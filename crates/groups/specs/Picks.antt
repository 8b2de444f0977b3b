-- Which row of a table the code picks for a word, and what that leaves.
use Rattle.std.specs.Prelude.{ℕ, ◌≤◌, ◌<◌, ◌≡◌, Bool, true, false, List, length, take, Some, None}
use Rattle.std.specs.declared.option.Option.{Option}
use Rattle.std.proofs.Math.Option.{none, some}
use Rattle.paper.specs.Groups.{Rule, ends_with, obeyed, result}
use Rattle.paper.specs.FirstFits.{NoneFits}
use Rattle.paper.specs.Noted.{Noted}
use Rattle.rules.specs.Rows.{rule_at}
use Rattle.groups.specs.Reads.{Narrowed, Paired, Stands, cut_at}
use Rattle.groups.specs.declared.row.Row.{Row}

-- the rule of a row that was picked, else none
abbrev pub picked : Option Row → Rattle.std.proofs.Math.Option.Option Rule
picked (Some row) = some (rule_at row.rules.now row.rule)
picked None = none

-- how many letters of n it leaves that only cuts, and all n where there is none
abbrev pub left_at : Option Row → ℕ → ℕ
left_at (Some row) n = cut_at row.rules.now row.rule n
left_at None n = n

-- whether it opens the next group
abbrev pub opened_at : Option Row → Bool
opened_at (Some row) = (rule_at row.rules.now row.rule).opens
opened_at None = false

-- the row is the first of these that ends the word
pub record FitsFirst (table : List ℕ) (from to : ℕ) (word : List ℕ) (row : Row) : Type 0 where
  pub is_of : row.rules.now ≡ table
  pub within : row.rule < to
  pub none_before : NoneFits (rule_at table) from row.rule word
  pub ends : ends_with word (rule_at table row.rule).ending ≡ true

-- the first of these rows that ends the word, or none does
abbrev pub FirstFit : List ℕ → ℕ → ℕ → List ℕ → Option Row → Type 0
FirstFit table from to word (Some row) = FitsFirst table from to word row
FirstFit table from to word None = NoneFits (rule_at table) from to word

-- ## What is promised, of whatever group it is

abbrev pub ChosenBy : List ℕ → ℕ → ℕ → List ℕ → List ℕ → Option Row → Type 0
ChosenBy table from to word states row =
    (group : List Rule) → Noted word states → Narrowed table group from to word → picked row ≡ obeyed word group

abbrev pub ChosenPaired : List ℕ → ℕ → List ℕ → List ℕ → Option Row → Type 0
ChosenPaired table to word states row =
    (group : List Rule) → Noted word states → Paired table group to word → picked row ≡ obeyed word group

-- of a row, in the word's place
abbrev pub Obeys : Option Row → List ℕ → List ℕ → ℕ → List ℕ → List ℕ → ℕ → Type 0
Obeys row place states len after new r =
    let left = result (take len place) (picked row) in
    Stands place states len → length left ≤ length place → (take r after ≡ left) × Stands after new r
