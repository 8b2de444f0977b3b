-- `conditions::judged` meets its contract: each arm is the condition of its number.
use Prim.Native.Nat.{ℕ, ◌+◌, ◌≤◌}
use native.Mathlib.Omega.{arith}
use mathlib.Core.Path.{◌≡◌, sym}
use mathlib.Core.Bool.{false}
use lib.ListN.{get_or-eq_default}
use Rattle.paper.specs.Conditions.{last_is}
use Rattle.paper.specs.States.{conditions_by, holds_by}
use Rattle.conditions.proofs.judged.Goals as goal

-- a number that is at least k, and not k
beyond : {n : ℕ} (k : ℕ) → k ≤ n → (n ≡ k → ⊥) → k + 1 ≤ n
beyond k low other = omega arith

above_3 : (n : ℕ) → (((Unit {0} × (n ≡ 0 → ⊥)) × (n ≡ 1 → ⊥)) × (n ≡ 2 → ⊥)) × (n ≡ 3 → ⊥) → 4 ≤ n
above_3 n others = beyond 3 (beyond 2 (beyond 1 (beyond 0 (omega arith) others.0.0.0.1) others.0.0.1) others.0.1) others.1

pub returns-in-0 : goal.returns-in-0
unfolding holds_by conditions_by
returns-in-0 c = rw c.in-0.is

pub returns-in-1 : goal.returns-in-1
unfolding holds_by conditions_by
returns-in-1 c = rw c.in-1.is

pub returns-in-2 : goal.returns-in-2
unfolding holds_by conditions_by
returns-in-2 c = rw c.in-2.is

pub returns-in-3 : goal.returns-in-3
unfolding holds_by conditions_by
returns-in-3 c = rw c.in-3.is

pub returns-in-4 : goal.returns-in-4
unfolding holds_by conditions_by last_is
returns-in-4 c = rw (c.in-4.is, c.letter_at-last.ensures)

pub returns-in-5 : goal.returns-in-5
unfolding holds_by conditions_by last_is
returns-in-5 c = rw (c.in-5.is, c.double.ensures, c.letter_at-last.ensures)

pub returns-in-6 : goal.returns-in-6
unfolding holds_by conditions_by last_is
returns-in-6 c = rw (c.in-6.is, c.short.ensures)

pub returns-in-7 : goal.returns-in-7
unfolding holds_by conditions_by last_is
returns-in-7 c = rw (c.in-7.is, c.short-in-7.ensures)

pub returns-in-8 : goal.returns-in-8
unfolding holds_by conditions_by last_is
returns-in-8 c = rw (c.in-8.is, c.double-in-8.ensures, c.letter_at-last.ensures)

pub returns-in_default : goal.returns-in_default
unfolding holds_by conditions_by last_is
returns-in_default c = let a = c.args in
    let rest = c.in_default.in_default-own.rest in
    let low : 4 ≤ a.condition = above_3 a.condition rest.0.0.0.0.0 in
    let none_of : 9 ≤ a.condition =
    beyond 8 (beyond 7 (beyond 6 (beyond 5 (beyond 4 low rest.0.0.0.0.1) rest.0.0.0.1) rest.0.0.1) rest.0.1)
    rest.1 in
    sym (get_or-eq_default (conditions_by a.part.now a.state a.before a.earlier) false none_of)
