-- A group that leaves a word as it is, or of which the word obeys a rule that only cuts.
use Prim.Native.Nat.{ℕ, ◌+◌, ◌-◌, ◌*◌, ◌≤◌}
use native.Mathlib.Omega.{arith}
use mathlib.Core.Path.{◌≡◌, sym, ap, ◌∙◌}
use mathlib.Core.Bool.{Bool, true}
use mathlib.Core.List.{List, ◌++◌}
use mathlib.Core.Option.{none, some}
use Rattle.std.specs.Prelude.{Some, None}
use Rattle.std.specs.declared.option.Option.{Option}
use lib.Dec.{eqb}
use lib.ListN.{length, take, drop, get_or, length-take}
use lib.Seq.{take-add, take-take, length-take-le}
use Rattle.paper.specs.TestLaws.{by_test}
use Rattle.paper.specs.Groups.{Rule, ends_with, before, obeyed, act, result, opens_next}
use Rattle.paper.specs.GroupsLaws.{same_equal, ending_short}
use Rattle.paper.specs.ReadingLaws.{every, every_in, obeyed_first}
use Rattle.rules.specs.Rows.{size_at, added_at, written_at, action_at, rule_at, Rows}
use Rattle.groups.specs.Reads.{leaves, CutOpens, cuts, cut_at}
use Rattle.groups.specs.Picks.{picked, left_at, opened_at}
use Rattle.groups.specs.declared.row.Row.{Row}
use Rattle.groups.specs.ReadsLaws.{kept_whole}
use Rattle.groups.proofs.Endings.{ending_size, written_size}

-- the part before S1 followed by the front of S1 is a front of the word
cut_front : (word s1 s2 : List ℕ) → ends_with word s1 ≡ true → s2 ≡ take (length s2) s1
    → take (length word - length s1 + length s2) word ≡ before word s1 ++ s2
unfolding ends_with before
cut_front word s1 s2 ends front =
    let part : ℕ = length word - length s1 in
    take-add part (length s2) word
    ∙ ap (λ (l : List ℕ). take part word ++ take (length s2) l) (same_equal (drop part word) s1 ends)
    ∙ ap (λ (l : List ℕ). take part word ++ l) (sym front)

-- a word that obeys a rule that only cuts
module _ (table : List ℕ) (k : ℕ) (row : Rows table (k + 1)) (word : List ℕ) (ends : ends_with word (rule_at table k).ending ≡ true)
    (only : cuts (rule_at table k) ≡ true) where
  abbrev s1 : List ℕ
  s1 = (rule_at table k).ending

  long : size_at table k ≤ length word
  long = omega (arith, ending_short word s1 ends, ending_size table k row)

  -- "'Single letter' drops the last letter of the part"
  single_cut : take (length word - size_at table k - 1) word ≡ take (length (before word s1) - 1) (before word s1)
  unfolding before
  single_cut =
      let size = ending_size table k row in
      let there = length-take-le (length word - size_at table k) word (omega arith) in
      rw (size, there) (sym (take-take (length word - size_at table k - 1) (length word - size_at table k) word (omega arith)))

  pub row_cuts : (cut_at table k (length word) ≤ length word)
      × (take (cut_at table k (length word)) word ≡ act (rule_at table k).action (before word s1))
  unfolding cut_at cuts rule_at action_at act
  row_cuts =
      by_test (eqb (get_or table (16 * k + 1) 0) 1) (λ single. rw single (omega arith, single_cut))
      (λ other.
      let size = ending_size table k row in
      let added = written_size table k row in
      let s2 = written_at table k in
      let front : s2 ≡ take (length s2) s1 = same_equal s2 (take (length s2) s1) (rw other at only) in
      let less = ap length front ∙ length-take (length s2) s1 in
      let same_length : length word - size_at table k + added_at table k ≡ length word - length s1 + length s2 = omega (arith, size, added) in
      rw other (omega (arith, size, added, less, long), ap (λ (n : ℕ). take n word) same_length ∙ cut_front word s1 s2 ends front))

-- what is left by the rule that was chosen
pub left_cuts :
    (row : Option Row) (group : List Rule) (word : List ℕ)
    → picked row ≡ obeyed word group
    → every cuts group ≡ true
    → (len : ℕ) (opened : Bool)
    → len ≡ left_at row (length word)
    → opened ≡ opened_at row
    → CutOpens group word len opened
unfolding leaves result opens_next
left_cuts (Some row) group word chosen all len opened is opens =
    let obeys : obeyed word group ≡ some (rule_at row.rules.now row.rule) = sym chosen in
    let one = (obeyed_first word group (rule_at row.rules.now row.rule) obeys).chosen_one in
    let left = row_cuts row.rules.now row.rule row.stands word one.ends (every_in cuts group all one.stands) in
    record {
      cut = rw is (record { within = left.0; left = rw obeys left.1 });
      opens = rw obeys opens;
    }
left_cuts None group word chosen all len opened is opens =
    let obeys : obeyed word group ≡ none = sym chosen in
    record {
      cut = rw is (kept_whole group word obeys);
      opens = rw obeys opens;
    }
