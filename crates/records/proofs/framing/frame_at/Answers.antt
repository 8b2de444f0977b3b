-- `records::framing::frame_at` meets its contract: at each return the tests that led there say whether the record is cut.
use Rattle.std.proofs.Common.{◌≡◌, ℕ, ◌+◌, ◌*◌, ◌-◌, ◌≤◌, ◌<◌, List, get_or, length, drop, ltb}
use Rattle.std.proofs.Common.{Some, None, arith, ◌∙◌, length-drop}
use borrow.Author.Tests.{lt-ltb, le-ltb}
use lib.Seq.{take_all}
use Rattle.paper.specs.TestLaws.{or_right}
use Rattle.records.specs.Framing.{number, body_length, kind, record_length, cut, body_place, next_place, frame_at}
use Rattle.records.proofs.framing.frame_at.Goals as goal
use Rattle.records.proofs.framing.frame_at.Goals.{In_ok-rest}

-- the bytes that remain at the place
rest-is : (c : In_ok-rest) → c.in_ok-rest.rest.now ≡ drop c.args.at c.args.bytes.now
rest-is c =
    let bytes = c.args.bytes.now in
    let at = c.args.at in
    c.in_ok-rest.ensures.lookup.0.2 ∙ take_all (length bytes - at) (drop at bytes) (omega (arith, length-drop at bytes))

module _ (bytes : List ℕ) (at : ℕ) where
  no_head : length (drop at bytes) < 4 → None ≡ frame_at bytes at
  unfolding frame_at cut
  no_head short = simp (lt-ltb (length (drop at bytes)) 4 short)

  module _ (rest : List ℕ) (is : rest ≡ drop at bytes) {size : ℕ} (size_is : size ≡ get_or rest 0 0 + 256 * get_or rest 1 0) where
    no_body : length rest - 4 < size → None ≡ frame_at bytes at
    unfolding frame_at cut body_length number
    no_body short = rw (← is, ← size_is, or_right (ltb (length rest) 4) (ltb (length rest - 4) size) (lt-ltb (length rest - 4) size short))

    whole : {k : ℕ} → k ≡ get_or rest 2 0 + 256 * get_or rest 3 0 → 4 ≤ length rest → size ≤ length rest - 4
        → Some (record { kind = k; body = at + 4; next = at + 4 + size }) ≡ frame_at bytes at
    unfolding frame_at cut body_length kind number body_place next_place record_length
    whole {k} kind_is long fits =
        let next : at + 4 + size ≡ at + (4 + size) = omega arith in
        rw (← is, ← size_is, ← kind_is, next, le-ltb (length rest) 4 long, le-ltb (length rest - 4) size fits)

pub returns-in_err-rest : goal.returns-in_err-rest
returns-in_err-rest c =
    let h = c.in_err-rest.ensures.lookup.0 in
    let left = length-drop c.args.at c.args.bytes.now in
    record {
      frame = c.from_residual.ensures ∙ no_head c.args.bytes.now c.args.at (omega arith);
      inside = rw c.from_residual.ensures tt;
    }

pub returns-in_default : goal.returns-in_default
returns-in_default c =
    record {
      frame = no_head c.args.bytes.now c.args.at (rw (rest-is (goal.at.returns-in_default c).In_ok-rest) at c.in_default.len_below);
      inside = tt;
    }

pub returns-then-rest-size : goal.returns-then-rest-size
returns-then-rest-size c =
    record {
      frame =
          no_body c.args.bytes.now c.args.at c.in_ok-rest.rest.now (rest-is (goal.at.returns-then-rest-size c).In_ok-rest)
          c.pair-size.ensures.value c.if-rest-size.true;
      inside = tt;
    }

pub returns : goal.returns
returns c =
    let left = c.in_ok-rest.ensures.lookup.0.3 in
    record {
      frame =
          whole c.args.bytes.now c.args.at c.in_ok-rest.rest.now (rest-is (goal.at.returns c).In_ok-rest) c.pair-size.ensures.value
          c.pair-kind.ensures.value c.in-len4-up.len_at_least c.if-rest-size.false;
      inside = (omega arith, omega arith);
    }
