-- Groups whose last two rules have the same ending: the first of them that holds is obeyed. Over any rule list.
use Prim.Native.Nat.{ℕ, suc, ◌<◌}
use Rattle.std.proofs.Common.{arith, ◌∙◌, drop-cons}
use Rattle.std.specs.Prelude.{◌≡◌, false, cond}
use Rattle.std.proofs.Math.Path.{refl, sym, ap}
use Rattle.std.proofs.Math.Bool.{true}
use mathlib.Core.List.{List, []}
use Rattle.std.proofs.Math.Option.{none, some}
use Rattle.std.proofs.Math.ListN.{length, drop, drop_of_length-le}
use Rattle.paper.specs.Groups.{Rule, ends_with, before, first, obeyed}
use Rattle.paper.specs.GroupsLaws.{ends_yes}
use Rattle.paper.specs.ReadingLaws.{applies, obeys, obeys_holds}
use Rattle.paper.specs.LongerFirst.{longer_first}
use Rattle.paper.specs.FirstFits.{no_rule, NoneFits, rule_of, first_from}

-- "the empty S1 ends every word"
pub ends_empty : (word : List ℕ) → ends_with word [] ≡ true
ends_empty word = ends_yes word [] (omega arith) (λ k below. absurd (omega arith))

-- a rule with this ending, which ends the word, is judged by its condition
judged_by_lem : (word : List ℕ) (rule : Rule) (n : ℕ) → length rule.ending ≡ n → ends_with word rule.ending ≡ true
    → obeys word n rule ≡ applies word rule
unfolding before
judged_by_lem word rule n size ends = obeys_holds word n rule size ends ∙ rw size

module _ (word : List ℕ) (rules : List Rule) (r : ℕ) (order : longer_first rules ≡ true) (known : r < length rules)
    (misses : NoneFits (rule_of rules) 0 r word) (ends : ends_with word (rule_of rules r).ending ≡ true) where
  from_here : obeyed word rules
      ≡ cond (applies word (rule_of rules r)) (some (rule_of rules r))
      (first (obeys word (length (rule_of rules r).ending)) (drop (suc r) rules))
  unfolding first
  from_here =
      first_from word rules r order known misses ends
      ∙ ap (first (obeys word (length (rule_of rules r).ending))) (drop-cons rules r no_rule known)
      ∙ rw (judged_by_lem word (rule_of rules r) (length (rule_of rules r).ending) refl ends)

  pub first_holds : applies word (rule_of rules r) ≡ true → some (rule_of rules r) ≡ obeyed word rules
  first_holds holds = sym (from_here ∙ rw holds)

  -- the next rule is the last of the group
  pub second_judged :
      applies word (rule_of rules r) ≡ false
      → length rules ≡ suc (suc r)
      → (rule_of rules (suc r)).ending ≡ (rule_of rules r).ending
      → cond (applies word (rule_of rules (suc r))) (some (rule_of rules (suc r))) none ≡ obeyed word rules
  unfolding first
  second_judged fails last same =
      let n = length (rule_of rules r).ending in
      let ends-too : ends_with word (rule_of rules (suc r)).ending ≡ true = rw same ends in
      let behind : drop (suc (suc r)) rules ≡ [] = drop_of_length-le rules {i = suc (suc r)} (omega arith) in
      sym
      (from_here
      ∙ rw fails
      (ap (first (obeys word n)) (drop-cons rules (suc r) no_rule (omega arith))
      ∙ rw (judged_by_lem word (rule_of rules (suc r)) n (ap length same) ends-too, behind)))
