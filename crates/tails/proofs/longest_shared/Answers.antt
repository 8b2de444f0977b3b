use Rattle.std.proofs.Common.{ℕ, zero, suc, ◌+◌, ◌-◌, ◌≤◌, ◌<◌, max, ◌≡◌, refl, true, false, Some, None, List, [], ◌∷◌, ◌++◌, take, drop}
use Rattle.std.proofs.Common.{sym, ap, ◌∙◌, arith}
use Rattle.paper.specs.Nodes.{tails, member}
use Rattle.paper.specs.LookBack.{shared, shared-append}
use Rattle.records.specs.Framing.{body, after, cut}
use Rattle.records.specs.FramingLaws.{FramedAt, framed, beyond}
use Rattle.records.specs.Records.{ending}
use Rattle.tails.specs.Earlier.{tails_in}
use Rattle.tails.proofs.longest_shared.Goals as goal

nothing_shared : (e : List ℕ) → shared e [] ≡ 0
unfolding shared member
nothing_shared [] = refl
nothing_shared (x ∷ e) = nothing_shared e

none_left : (e bytes : List ℕ) (left : ℕ) → left ≤ 0 → shared e (tails_in left bytes) ≡ 0
unfolding tails_in
none_left e bytes zero none = nothing_shared e
none_left e bytes (suc left) none = absurd (omega arith)

none_cut : (e bytes : List ℕ) (left : ℕ) → cut bytes ≡ true → shared e (tails_in left bytes) ≡ 0
unfolding tails_in
none_cut e bytes zero short = nothing_shared e
none_cut e bytes (suc left) short = rw short (nothing_shared e)

-- the first of the rules that are left, and the others
first_rule_lem : (left : ℕ) (bytes : List ℕ) → 0 < left → cut bytes ≡ false
    → tails_in left bytes ≡ tails (ending (body bytes)) ++ tails_in (left - 1) (after bytes)
unfolding tails_in
first_rule_lem zero bytes some whole = absurd (omega arith)
first_rule_lem (suc left) bytes some whole = let less : suc left - 1 ≡ left = omega arith in rw (whole, less)

one_less : (e : List ℕ) (left : ℕ) (sheet other : List ℕ) (place : ℕ) {k b next : ℕ} → 0 < left → FramedAt sheet place k b next
    → other ≡ ending (take (next - b) (drop b sheet))
    → shared e (tails_in left (drop place sheet)) ≡ max (shared e (tails other)) (shared e (tails_in (left - 1) (drop next sheet)))
one_less e left sheet other place some is other-is =
    ap (shared e) (first_rule_lem left (drop place sheet) some is.whole)
    ∙ (shared-append e (tails (ending (body (drop place sheet)))) (tails_in (left - 1) (after (drop place sheet)))
    ∙ rw (other-is, is.body_is, is.next_is, beyond sheet place))

pub returns-in_default : goal.returns-in_default
returns-in_default c =
    let turn = c.loop in
    let args = c.args in
    let short = framed args.sheet.now turn.place None (sym c.in_default.ensures.frame) in
    let none = none_cut args.ending.now (drop turn.place args.sheet.now) (args.count - turn.counter) short in
    let all = turn.invariant in
    omega arith

pub loop-preserved : goal.loop-preserved
loop-preserved c =
    let turn = c.loop in
    let args = c.args in
    let is = framed args.sheet.now turn.place (Some c.in-Some.frame) (sym c.in-Some.ensures.frame) in
    let step =
    one_less args.ending.now (args.count - turn.counter) args.sheet.now c.ending_in-earlier.result.now turn.place (omega arith) is
    c.ending_in-earlier.ensures in
    let so_far = turn.invariant in
    let one = c.longer-longest.ensures in
    let less : args.count - turn.counter - 1 ≡ args.count - (turn.counter + 1) = omega arith in
    let left = ap (λ (n : ℕ). shared args.ending.now (tails_in n (drop c.in-Some.frame.next args.sheet.now))) less in
    omega arith

pub returns : goal.returns
returns c =
    let args = c.args in
    let turn = c.loop in
    let none = none_left args.ending.now (drop turn.place args.sheet.now) (args.count - turn.counter) (omega arith) in
    let all = turn.invariant in
    omega arith
