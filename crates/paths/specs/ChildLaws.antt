-- One child after another, as a loop takes it.
use Prim.Native.Nat.{ℕ, zero, suc, ◌+◌, ◌*◌, ◌-◌, ◌<◌, ◌≤◌}
use Rattle.std.specs.Prelude.{◌≡◌, List, length, get_or, eqb, not, Option, Some, None}
use Rattle.std.specs.Bool.{then_some}
use Rattle.std.proofs.Math.Path.{refl}
use Rattle.std.proofs.Common.{sym, ◌∙◌, true≢false, add-one}
use native.Mathlib.Omega.{arith}
use Rattle.std.proofs.Math.ListN.{get_or-eq_default}
use borrow.Author.Tests.{eqb-true, eq-eqb, ne_eqb, lt-ltb, le-ltb}
use Rattle.paper.specs.TestLaws.{by_test}
use Rattle.paths.specs.Children.{letter, sought, child, named}

module _ (count : ℕ) (table : List ℕ) (one at : ℕ) where
  pub sought_here : 0 < count → one ≡ letter table at → sought count table one at ≡ at
  unfolding sought
  sought_here h e = by count h
    where
      by : (count : ℕ) → 0 < count → sought count table one at ≡ at
      by zero h = absurd (omega arith)
      by (suc count) h = rw (le-ltb (letter table at) one (omega (arith, e)), eq-eqb one (letter table at) e)

  -- a greater letter stands here
  pub sought-past : one < letter table at → sought count table one at ≡ 0
  unfolding sought
  sought-past h = by count
    where
      by : (count : ℕ) → sought count table one at ≡ 0
      by zero = refl
      by (suc count) = rw (le-ltb (letter table at) one (omega (arith, h)), ne_eqb one (letter table at) (λ e. omega (arith, h)))

  pub sought_next : 0 < count → letter table at < one → sought count table one at ≡ sought (count - 1) table one (at + 1)
  unfolding sought
  sought_next h less = by count h
    where
      by : (count : ℕ) → 0 < count → sought count table one at ≡ sought (count - 1) table one (at + 1)
      by zero h = absurd (omega arith)
      by (suc count) h =
          let fewer : suc count - 1 ≡ count = omega arith in
          rw (lt-ltb (letter table at) one less, fewer, add-one)

  pub sought-over : count ≤ 0 → sought count table one at ≡ 0
  unfolding sought
  sought-over h = by count h
    where
      by : (count : ℕ) → count ≤ 0 → sought count table one at ≡ 0
      by zero h = refl
      by (suc count) h = absurd (omega arith)

-- a node that the table does not have has no child
pub child_beyond : (table : List ℕ) (at one : ℕ) → length table ≤ at → child table at one ≡ 0
unfolding child sought
child_beyond table at one h =
    let none : get_or table (4 * at + 2) 0 ≡ 0 = get_or-eq_default table 0 (omega arith) in
    rw none refl

-- a node is named unless its number is 0
pub named_as : (at : ℕ) → then_some (not (eqb at 0)) at ≡ named at
named_as at = by_test (eqb at 0) (λ zero. rw zero) (λ not-zero. rw not-zero)

-- what a named node, or none, tells of the number
pub named_none : {at : ℕ} {node : Option ℕ} → node ≡ named at → node ≡ None → at ≡ 0
named_none {at} {node} is none =
    by_test (eqb at 0) (λ zero. eqb-true at 0 zero)
    (λ not-zero. let some : node ≡ Some at = is ∙ rw not-zero in absurd (cc))

pub named_some : {at next : ℕ} {node : Option ℕ} → node ≡ named at → node ≡ Some next → (next ≡ at) × (next ≡ 0 → ⊥)
named_some {at} {next} {node} is some =
    by_test (eqb at 0) (λ zero. let none : node ≡ None = is ∙ rw zero in absurd (cc))
    (λ not-zero.
    let here : node ≡ Some at = is ∙ rw not-zero in
    let same : next ≡ at = cc in
    (same, λ zero. let back : at ≡ 0 = sym same ∙ zero in true≢false (sym (eq-eqb at 0 back) ∙ not-zero)))
