-- Numbers that rise: the first `count` values of a function, each below the next. Two such runs with the same members are the same.
use Rattle.std.specs.Prelude.{ℕ, zero, suc, ◌<◌, ◌≤◌, ◌≡◌, eqb, leb}
use Rattle.std.proofs.Common.{sym, arith, eqb-true, leb-true, leb-false}
use Rattle.std.proofs.lemmas.Bool.{eqb-false}
use Rattle.paper.specs.TestLaws.{by_test}

abbrev pub Climbs : (ℕ → ℕ) → ℕ → Type 0
Climbs f count = (k : ℕ) → suc k < count → f k < f (suc k)

pub climbs_over : (f : ℕ → ℕ) (count : ℕ) → Climbs f count → (j k : ℕ) → j < k → k < count → f j < f k
climbs_over f count climbs j zero h k-in = absurd (omega arith)
climbs_over f count climbs j (suc k) h k-in =
    by_test (eqb j k)
    (λ p. rw (eqb-true j k p) (climbs k k-in))
    (λ p.
    let last = climbs k k-in in
    let before = climbs_over f count climbs j k (omega (arith, eqb-false j k p)) (omega arith) in
    omega arith)

-- the first `count` values of one function are among the first `many` of another
abbrev pub Among : (ℕ → ℕ) → ℕ → (ℕ → ℕ) → ℕ → Type 0
Among f count g many = (k : ℕ) → k < count → (j : ℕ) × (j < many) × (g j ≡ f k)

-- the values before one being the same, its place in another run is its own or a later one
not_earlier : (f g : ℕ → ℕ) (count : ℕ) → Climbs f count → (k : ℕ) → k < count → ((j : ℕ) → j < k → f j ≡ g j)
    → (j : ℕ) → g j ≡ f k → k ≤ j
not_earlier f g count climbs k k-in same j e =
    by_test (leb k j) (λ p. leb-true k j p)
    (λ p.
    let less = leb-false k j p in
    absurd (omega (arith, climbs_over f count climbs j k less k-in, same j less)))

climbs_up : (f : ℕ → ℕ) (count : ℕ) → Climbs f count → (j k : ℕ) → j ≤ k → k < count → f j ≤ f k
climbs_up f count climbs j k h k-in =
    by_test (eqb j k) (λ p. rw (eqb-true j k p) (omega arith))
    (λ p. omega (arith, climbs_over f count climbs j k (omega (arith, eqb-false j k p)) k-in))

module _ (f g : ℕ → ℕ) (count many : ℕ) (climbs : Climbs f count) (rises : Climbs g many)
    (there : Among f count g many) (back : Among g many f count) where
  agree-below : (n k : ℕ) → k < n → k < count → (k < many) × (f k ≡ g k)
  agree-below zero k h k-in = absurd (omega arith)
  agree-below (suc n) k h k-in =
      let same : (j : ℕ) → j < k → f j ≡ g j = λ j less. (agree-below n j (omega arith) (omega arith)).1 in
      let in_g = there k k-in in
      let later = not_earlier f g count climbs k k-in same in_g.0 in_g.2 in
      let k-many : k < many = omega (arith, in_g.1) in
      let in_f = back k k-many in
      let no-sooner = not_earlier g f many rises k k-many (λ j less. sym (same j less)) in_f.0 in_f.2 in
      let above = climbs_up g many rises k in_g.0 later in_g.1 in
      let below = climbs_up f count climbs k in_f.0 no-sooner in_f.1 in
      (k-many, omega (arith, in_g.2, in_f.2))

  pub agree : (k : ℕ) → k < count → f k ≡ g k
  agree k h = (agree-below (suc k) k (omega arith) h).1

  no_fewer : count ≤ many
  no_fewer =
      by_test (leb count many) (λ p. leb-true count many p)
      (λ p. absurd (omega (arith, (agree-below (suc many) many (omega arith) (leb-false count many p)).0)))

-- two runs that rise and have the same members have the same count
pub same_count : (f g : ℕ → ℕ) (count many : ℕ) → Climbs f count → Climbs g many → Among f count g many → Among g many f count
    → count ≡ many
same_count f g count many climbs rises there back =
    omega (arith, no_fewer f g count many climbs rises there back, no_fewer g f many count rises climbs back there)
