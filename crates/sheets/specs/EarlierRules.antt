-- The bytes of the rules of a group that were read before: the tails of their endings, and one rule more.
use Rattle.std.specs.Prelude.{ℕ, ◌≡◌, refl, List, [], ◌∷◌, ◌++◌, length}
use Rattle.std.proofs.Common.{ap, append_assoc}
use Rattle.paper.specs.Groups.{Rule}
use Rattle.paper.specs.Nodes.{tails_of}
use Rattle.records.specs.Framing.{record_of}
use Rattle.records.specs.FramingLaws.{body_read, after_read, whole_read}
use Rattle.records.specs.RecordBytes.{rule_body}
use Rattle.records.specs.WrittenRules.{ending_read}
use Rattle.tails.specs.Earlier.{tails_in}
use Rattle.sheets.specs.SheetBytes.{rules_bytes}

pub tails_in_lem : (rules : List Rule) (more : List ℕ) → tails_in (length rules) (rules_bytes rules ++ more) ≡ tails_of rules
unfolding tails_in tails_of rules_bytes
tails_in_lem [] more = refl
tails_in_lem (one ∷ rules) more =
    rw (
      append_assoc (record_of 2 (rule_body one)) (rules_bytes rules) more,
      whole_read 2 (rule_body one) (rules_bytes rules ++ more),
      body_read 2 (rule_body one) (rules_bytes rules ++ more),
      ending_read one,
      after_read 2 (rule_body one) (rules_bytes rules ++ more),
      tails_in_lem rules more,
    )
    refl

-- the bytes of one rule more
pub one_more : (earlier : List Rule) (one : Rule) (l : List ℕ)
    → rules_bytes earlier ++ (record_of 2 (rule_body one) ++ l) ≡ rules_bytes (earlier ++ (one ∷ [])) ++ l
unfolding rules_bytes
one_more [] one l = simp append_assoc
one_more (other ∷ earlier) one l = simp append_assoc (ap (λ (k : List ℕ). record_of 2 (rule_body other) ++ k) (one_more earlier one l))
