-- Of a record that is not faulty by itself, passing tells what judging tells.
use Rattle.std.specs.Prelude.{ℕ, ◌+◌, ◌≡◌, false, List, length, drop}
use Rattle.std.proofs.Common.{sym, ◌∙◌, true≢false, arith}
use borrow.Author.Tests.{le-ltb}
use Rattle.records.specs.Framing.{body}
use Rattle.records.specs.GateLaws.{group_length}
use Rattle.records.specs.Records.{ending_length, faulty_alone}
use Rattle.records.specs.RecordAnswers.{group_record, rule_record, end_record, record_at}
use Rattle.records.specs.RecordLaws.{GroupHere, RuleHere, EndHere, Alone, a_fault, a_group, a_rule, an_end, alone}
use Rattle.records.specs.RecordLaws.{at_group, at_rule, at_end}
use Rattle.records.specs.RuleLaws.{sound}
use Rattle.passing.specs.Passed.{passed_group, passed_rule, passed_at}

module _ (sheet : List ℕ) (at : ℕ) where
  of_group : GroupHere (drop at sheet) → record_at sheet at ≡ passed_at sheet at
  unfolding record_at group_record passed_at passed_group
  of_group here =
      let two = group_length (body (drop at sheet)) here.sound in
      rw (
        here.whole,
        at_group _ _ _ _ _ here.is_group,
        at_group _ _ _ _ _ here.is_group,
        here.sound,
        le-ltb (length (body (drop at sheet))) 2 (omega (arith, two)),
      )

  of_rule : RuleHere (drop at sheet) → record_at sheet at ≡ passed_at sheet at
  unfolding record_at rule_record passed_at passed_rule
  of_rule here =
      let known = sound (body (drop at sheet)) here.sound in
      rw (
        here.whole,
        at_rule _ _ _ _ _ here.is_rule,
        at_rule _ _ _ _ _ here.is_rule,
        here.sound,
        le-ltb (length (body (drop at sheet))) 4 known.four,
        le-ltb (length (body (drop at sheet))) (4 + ending_length (body (drop at sheet))) known.within,
      )

  of_end : EndHere (drop at sheet) → record_at sheet at ≡ passed_at sheet at
  unfolding record_at end_record passed_at
  of_end here =
      rw (here.whole, at_end _ _ _ _ _ here.is_end, at_end _ _ _ _ _ here.is_end, here.sound)

  pub passed_is : faulty_alone (drop at sheet) ≡ false → record_at sheet at ≡ passed_at sheet at
  passed_is fine = by (alone (drop at sheet))
    where
      by : Alone (drop at sheet) → record_at sheet at ≡ passed_at sheet at
      by (a_fault wrong) = absurd (true≢false (sym wrong ∙ fine))
      by (a_group here) = of_group here
      by (a_rule here) = of_rule here
      by (an_end here) = of_end here
