-- The first rule that ends the word decides a group, or it is the first of two with one ending.
use Prim.Native.Nat.{ℕ, suc, ◌+◌, ◌-◌, ◌≤◌, ◌<◌}
use native.Mathlib.Omega.{arith}
use native.Mathlib.Decide.{dec_lt}
use mathlib.Core.Path.{◌≡◌, sym, ap, ◌∙◌}
use mathlib.Core.Bool.{Bool, true, false, cond}
use mathlib.Core.List.{List}
use mathlib.Core.Option.{none, some}
use Rattle.std.specs.Prelude.{Some, None}
use Rattle.std.specs.declared.option.Option.{Option}
use lib.ListN.{length}
use borrow.Author.Tests.{eqb-true}
use Rattle.paper.specs.Conditions.{conditions, holds}
use Rattle.paper.specs.Groups.{Rule, ends_with, obeyed}
use Rattle.paper.specs.ReadingLaws.{every, applies}
use Rattle.paper.specs.FirstFits.{NoneFits, rule_of, decided, undecided, every_at}
use Rattle.paper.specs.SameEnding.{first_holds, second_judged}
use Rattle.rules.specs.Rows.{rule_at, Rows}
use Rattle.groups.specs.Reads.{free, Narrowed, Paired}
use Rattle.groups.specs.Picks.{picked, FitsFirst, FirstFit}
use Rattle.groups.specs.declared.row.Row.{Row}

module _ (table : List ℕ) (group : List Rule) (from to : ℕ) (word : List ℕ) (narrowed : Narrowed table group from to word) where
  -- the rows that are read stand in the table
  pub rows_stand : Rows table to
  rows_stand = omega (arith, narrowed.known, narrowed.held.rows)

  none_before : (r : ℕ) → r ≤ to → NoneFits (rule_at table) from r word → NoneFits (rule_of group) 0 r word
  none_before r within passed k low high = go (dec_lt k from)
    where
      go : Dec (k < from) → ends_with word (rule_of group k).ending ≡ false
      go (yes earlier) = narrowed.none_earlier k low earlier
      go (no inside) = rw (← narrowed.held.same k (omega (arith, narrowed.known))) (passed k (omega arith) high)

  none_found : NoneFits (rule_at table) from to word → obeyed word group ≡ none
  none_found passed = undecided word group (λ k low high. go k low high (dec_lt k to))
    where
      go : (k : ℕ) → 0 ≤ k → k < length group → Dec (k < to) → ends_with word (rule_of group k).ending ≡ false
      go k low high (yes before) = none_before to (omega arith) passed k low before
      go k low high (no behind) = narrowed.none_later k (omega arith) high

  found_decides : (row : Row) → FitsFirst table from to word row
      → obeyed word group ≡ cond (applies word (rule_at table row.rule)) (some (rule_at table row.rule)) none
  found_decides row found =
      let inside = found.within in
      let known : row.rule < length group = omega (arith, narrowed.known) in
      let same = narrowed.held.same row.rule known in
      rw same (decided word group row.rule narrowed.decided known (none_before row.rule (omega arith) found.none_before)
      (rw same at found.ends))

  -- no row ends the word
  pub chooses_none : (Rows table to → FirstFit table from to word None) → none ≡ obeyed word group
  chooses_none found = sym (none_found (found rows_stand))

  -- the first that does is asked
  pub chooses : (row : Row) → (Rows table to → FirstFit table from to word (Some row)) → {b : Bool}
      → applies word (rule_at row.rules.now row.rule) ≡ b
      → cond b (picked (Some row)) none ≡ obeyed word group
  chooses row found {b} asked =
      let first = found rows_stand in
      let here : applies word (rule_at table row.rule) ≡ b = rw first.is_of at asked in
      rw first.is_of (sym (found_decides row first ∙ rw here))

-- condition 0 holds of every part
always_holds : (word : List ℕ) (rule : Rule) → rule.condition ≡ 0 → applies word rule ≡ true
unfolding holds conditions
always_holds word rule is = rw is

-- and so the first rule that ends the word is obeyed where none has another condition
pub found-free : (table : List ℕ) (group : List Rule) (to : ℕ) (word : List ℕ) → Narrowed table group 0 to word → every free group ≡ true
    → (row : Option Row)
    → (Rows table to → FirstFit table 0 to word row)
    → picked row ≡ obeyed word group
unfolding free
found-free table group to word narrowed all None found = chooses_none table group 0 to word narrowed found
found-free table group to word narrowed all (Some row) found =
    let first = found (rows_stand table group 0 to word narrowed) in
    let known : row.rule < length group = omega (arith, first.within, narrowed.known) in
    let is : (rule_at row.rules.now row.rule).condition ≡ 0
    = rw (first.is_of, narrowed.held.same row.rule known) (eqb-true _ 0 (every_at free group row.rule all known)) in
    chooses table group 0 to word narrowed row found (always_holds word (rule_at row.rules.now row.rule) is)

module _ (table : List ℕ) (group : List Rule) (to : ℕ) (word : List ℕ) (paired : Paired table group to word) where
  two : 2 ≤ to
  two = paired.two

  same_rule : (k : ℕ) → k < to → rule_at table k ≡ rule_of group k
  same_rule k known = paired.held.same k (omega (arith, paired.all))

  misses : (r : ℕ) → r ≤ to - 2 → NoneFits (rule_at table) 0 r word → NoneFits (rule_of group) 0 r word
  misses r within passed k low high = rw (← same_rule k (omega arith)) (passed k low high)

  -- two rows or more stand in the table
  pub pair_stands : Rows table to
  pair_stands = omega (arith, paired.all, paired.held.rows)

  -- a rule before the pair ends the word
  pub earlier_found : (row : Row) → (Rows table (to - 2) → FirstFit table 0 (to - 2) word (Some row))
      → picked (Some row) ≡ obeyed word group
  earlier_found row finds =
      let found = finds (omega (arith, pair_stands)) in
      let inside = found.within in
      let same = same_rule row.rule (omega arith) in
      rw (found.is_of, same)
      (first_holds word group row.rule paired.order (omega (arith, paired.all)) (misses row.rule (omega arith) found.none_before)
      (rw same at found.ends) (always_holds word (rule_of group row.rule) (paired.always row.rule inside)))

  -- none does, and the pair is judged
  module _ (none_earlier : NoneFits (rule_at table) 0 (to - 2) word) where
    known : to - 2 < length group
    known = omega (arith, paired.all)

    pub first_of_pair : applies word (rule_at table (to - 2)) ≡ true → some (rule_at table (to - 2)) ≡ obeyed word group
    first_of_pair holds =
        let same = same_rule (to - 2) (omega arith) in
        rw same
        (first_holds word group (to - 2) paired.order known (misses (to - 2) (omega arith) none_earlier) paired.ends
        (rw same at holds))

    pub second_of_pair : applies word (rule_at table (to - 2)) ≡ false
        → cond (applies word (rule_at table (to - 2 + 1))) (some (rule_at table (to - 2 + 1))) none ≡ obeyed word group
    second_of_pair fails =
        let same = same_rule (to - 2) (omega arith) in
        let next : suc (to - 2) ≡ to - 2 + 1 = omega arith in
        let last = same_rule (to - 2 + 1) (omega arith) in
        let one : (rule_of group (suc (to - 2))).ending ≡ (rule_of group (to - 2)).ending
        = ap (λ (k : ℕ). (rule_of group k).ending) (omega arith) ∙ paired.one_ending in
        let judged = second_judged word group (to - 2) paired.order known (misses (to - 2) (omega arith) none_earlier) paired.ends
        (rw same at fails) (omega (arith, paired.all)) one in
        rw last (rw next at judged)
