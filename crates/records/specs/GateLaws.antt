-- The bodies of groups, read and written: a body that is not faulty is that of the gate which it reads as, and a gate's body
-- reads as that gate.
use Rattle.std.specs.Prelude.{ℕ, zero, suc, ◌+◌, ◌*◌, ◌≤◌, ◌≡◌, refl, false, not, cond, List, [], ◌∷◌, eqb, ltb, length}
use Rattle.std.proofs.Common.{arith}
use borrow.Author.Tests.{ltb-false, eqb-true, not-false}
use Rattle.paper.specs.Groups.{Gate, always, if_opened, number_of_gate}
use Rattle.paper.specs.TestLaws.{neither_left, neither_right}
use Rattle.records.specs.Framing.{number, two}
use Rattle.records.specs.Records.{gate_number, gate, faulty_group}
use Rattle.records.specs.RecordBytes.{gate_body}

pub gate_read : (one : Gate) → gate (gate_body one) ≡ one
unfolding gate gate_number number gate_body two
gate_read always = refl
gate_read if_opened = refl

pub gate_number_lem : (one : Gate) → gate_number (gate_body one) ≡ number_of_gate one
unfolding gate_number number gate_body two
gate_number_lem always = refl
gate_number_lem if_opened = refl

pub gate_sound : (one : Gate) → faulty_group (gate_body one) ≡ false
unfolding faulty_group gate_number number gate_body two
gate_sound always = refl
gate_sound if_opened = refl

module _ (body : List ℕ) (sound : faulty_group body ≡ false) where
  pub group_length : length body ≡ 2
  unfolding faulty_group
  group_length =
      eqb-true (length body) 2
      (not-false (eqb (length body) 2) (neither_left (not (eqb (length body) 2)) (ltb 1 (gate_number body)) sound))

  pub gate_at_most : gate_number body ≤ 1
  unfolding faulty_group
  gate_at_most = ltb-false 1 (gate_number body) (neither_right (not (eqb (length body) 2)) (ltb 1 (gate_number body)) sound)

gate_of_two : (x y : ℕ) → x + 256 * y ≤ 1 → x ∷ y ∷ [] ≡ gate_body (cond (eqb (x + 256 * y) 0) always if_opened)
unfolding gate_body two
gate_of_two zero zero low = refl
gate_of_two (suc zero) zero low = refl
gate_of_two (suc (suc x)) zero low = absurd (omega arith)
gate_of_two x (suc y) low = absurd (omega arith)

written_as : (body : List ℕ) → length body ≡ 2 → gate_number body ≤ 1 → body ≡ gate_body (gate body)
unfolding gate gate_number number
written_as [] is low = absurd (omega arith)
written_as (x ∷ []) is low = absurd (omega arith)
written_as (x ∷ y ∷ []) is low = gate_of_two x y low
written_as (x ∷ y ∷ z ∷ more) is low = absurd (omega arith)

pub group_is : (body : List ℕ) → faulty_group body ≡ false → body ≡ gate_body (gate body)
group_is body sound = written_as body (group_length body sound) (gate_at_most body sound)
