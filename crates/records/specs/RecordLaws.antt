-- What a record is by cases: faulty by itself, a group, a rule or the end.
use Rattle.std.specs.Prelude.{ℕ, ◌≡◌, true, false, List, eqb}
use borrow.Author.Tests.{eqb-true}
use Rattle.paper.specs.TestLaws.{by_test}
use Rattle.records.specs.Framing.{kind, body, cut}
use Rattle.records.specs.Records.{faulty_group, faulty_rule, faulty_end, by_kind, faulty_alone}

pub record GroupHere (rest : List ℕ) : Type 0 where
  pub whole : cut rest ≡ false
  pub is_group : kind rest ≡ 1
  pub sound : faulty_group (body rest) ≡ false

pub record RuleHere (rest : List ℕ) : Type 0 where
  pub whole : cut rest ≡ false
  pub is_rule : kind rest ≡ 2
  pub sound : faulty_rule (body rest) ≡ false

pub record EndHere (rest : List ℕ) : Type 0 where
  pub whole : cut rest ≡ false
  pub is_end : kind rest ≡ 3
  pub sound : faulty_end rest ≡ false

-- the record with which these bytes start, judged by itself
pub data Alone (rest : List ℕ) : Type 0 where
  a_fault : faulty_alone rest ≡ true → Alone rest
  a_group : GroupHere rest → Alone rest
  a_rule : RuleHere rest → Alone rest
  an_end : EndHere rest → Alone rest

module _ (rest : List ℕ) (whole : cut rest ≡ false) where
  group_by : eqb (kind rest) 1 ≡ true → Alone rest
  unfolding faulty_alone by_kind
  group_by is =
      by_test (faulty_group (body rest)) (λ wrong. a_fault (simp (whole, is, wrong)))
      (λ sound. a_group (record { whole = whole; is_group = eqb-true _ _ is; sound = sound }))

  rule_by : eqb (kind rest) 1 ≡ false → eqb (kind rest) 2 ≡ true → Alone rest
  unfolding faulty_alone by_kind
  rule_by not_one is =
      by_test (faulty_rule (body rest)) (λ wrong. a_fault (simp (whole, not_one, is, wrong)))
      (λ sound. a_rule (record { whole = whole; is_rule = eqb-true _ _ is; sound = sound }))

  other_by : eqb (kind rest) 1 ≡ false → eqb (kind rest) 2 ≡ false → Alone rest
  unfolding faulty_alone by_kind
  other_by not_one not-two =
      by_test (eqb (kind rest) 3)
      (λ is.
      by_test (faulty_end rest) (λ wrong. a_fault (simp (whole, not_one, not-two, is, wrong)))
      (λ sound. an_end (record { whole = whole; is_end = eqb-true _ _ is; sound = sound })))
      (λ not_three. a_fault (simp (whole, not_one, not-two, not_three)))

pub alone : (rest : List ℕ) → Alone rest
unfolding faulty_alone
alone rest =
    by_test (cut rest) (λ short. a_fault (simp short))
    (λ whole.
    by_test (eqb (kind rest) 1) (group_by rest whole)
    (λ not_one. by_test (eqb (kind rest) 2) (rule_by rest whole not_one) (other_by rest whole not_one)))

-- what the answer for the kind is, where the kind is known
module _ {ℓ} {A : Type ℓ} (k : ℕ) (g r e o : A) where
  pub at_group : k ≡ 1 → by_kind k g r e o ≡ g
  unfolding by_kind
  at_group is = rw is

  pub at_rule : k ≡ 2 → by_kind k g r e o ≡ r
  unfolding by_kind
  at_rule is = rw is

  pub at_end : k ≡ 3 → by_kind k g r e o ≡ e
  unfolding by_kind
  at_end is = rw is
