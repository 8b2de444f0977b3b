-- A record that is not faulty is its bytes.
use Rattle.std.specs.Prelude.{ℕ, ◌≡◌, not, List, [], ◌++◌, eqb, length}
use Rattle.std.proofs.Common.{ap, ◌∙◌, arith, eqb-true}
use Rattle.std.proofs.lemmas.Bool.{not-false}
use Rattle.paper.specs.ListLaws.{empty}
use Rattle.paper.specs.TestLaws.{neither_left, neither_right}
use Rattle.records.specs.Framing.{body_length, body, after, two, record_of}
use Rattle.records.specs.FramingLaws.{length-body, record_is}
use Rattle.records.specs.Records.{gate, rule, faulty_end}
use Rattle.records.specs.RecordBytes.{gate_body, rule_body}
use Rattle.records.specs.RecordLaws.{GroupHere, RuleHere, EndHere}
use Rattle.records.specs.GateLaws.{group_length, group_is}
use Rattle.records.specs.RuleLaws.{sound, length-replacement, rule_is}

pub group_record_lem : {rest : List ℕ} → GroupHere rest → rest ≡ record_of 1 (gate_body (gate (body rest))) ++ after rest
group_record_lem {rest} here =
    let size = group_length (body rest) here.sound in
    record_is rest 1 here.whole here.is_group (omega arith) (omega arith) (group_is (body rest) here.sound)

pub rule_record_lem : {rest : List ℕ} → RuleHere rest → rest ≡ record_of 2 (rule_body (rule (body rest))) ++ after rest
rule_record_lem {rest} here =
    let is = sound (body rest) here.sound in
    let a = is.within in
    let b = is.short_ending in
    let c = is.short_replacement in
    let d = length-replacement (body rest) in
    record_is rest 2 here.whole here.is_rule (omega arith) (omega arith) (rule_is (body rest) here.sound)

pub end_record_lem : {rest : List ℕ} → EndHere rest → rest ≡ record_of 3 []
unfolding record_of two faulty_end
end_record_lem {rest} here =
    let first = not (eqb (body_length rest) 0) in
    let second = not (eqb (length (after rest)) 0) in
    let no_body : body_length rest ≡ 0 = eqb-true _ _ (not-false (eqb (body_length rest) 0) (neither_left first second here.sound)) in
    let no_more : length (after rest) ≡ 0 =
    eqb-true _ _ (not-false (eqb (length (after rest)) 0) (neither_right first second here.sound)) in
    let size = length-body rest here.whole in
    record_is rest 3 here.whole here.is_end (omega arith) (omega arith) (empty (body rest) (omega arith))
    ∙ ap (λ (l : List ℕ). record_of 3 [] ++ l) (empty (after rest) no_more)
