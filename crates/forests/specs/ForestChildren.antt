-- The child of a letter in a forest: one of the nodes that stand together behind the roots and the children of the nodes before, and
-- by its letter each of these is found.
use Prim.Native.Nat.{ℕ, zero, suc, ◌+◌, ◌<◌}
use Rattle.std.specs.Prelude.{◌≡◌, refl, List, eqb, ltb}
use Rattle.std.proofs.Math.Path.{sym, ap}
use Rattle.std.proofs.Common.{◌∙◌}
use Rattle.std.proofs.Math.Nat.{add-zero}
use native.Mathlib.Omega.{arith}
use borrow.Author.Tests.{eqb-true, eq-eqb, lt-ltb, le-ltb}
use Rattle.paper.specs.TestLaws.{by_test}
use Rattle.paths.specs.Children.{letter, child_count, sought, child}
use Rattle.forests.specs.Forest.{total, Rising, Row, Forest}
use Rattle.forests.specs.ClimbLaws.{climbs_over}

-- so many nodes on from the first of so many, a node of this letter
pub record FoundAt (table : List ℕ) (first count one found : ℕ) : Type 0 where
  pub place : ℕ
  pub place_in : place < count
  pub found_is : found ≡ first + place
  pub letter_is : letter table (first + place) ≡ one

module _ (table : List ℕ) (one : ℕ) where
  -- whatever is found is one of them
  sought-among : (count first : ℕ) → (sought count table one first ≡ 0 → ⊥) → FoundAt table first count one (sought count table one first)
  unfolding sought
  sought-among zero first h = absurd (h refl)
  sought-among (suc count) first h =
      by_test (ltb (letter table first) one)
      (λ p. rw p (one_further (sought-among count (suc first) (rw p at h))))
      (λ p.
      by_test (eqb one (letter table first))
      (λ q.
      rw (p, q)
      (record {
        place = 0;
        place_in = omega arith;
        found_is = sym (add-zero first);
        letter_is = rw add-zero (sym (eqb-true one (letter table first) q));
      }))
      (λ q. absurd (h (rw (p, q)))))
    where
      one_further : {found : ℕ} → FoundAt table (suc first) count one found → FoundAt table first (suc count) one found
      one_further found_at =
          let next : suc first + found_at.place ≡ first + suc found_at.place = omega arith in
          record {
            place = suc found_at.place;
            place_in = omega (arith, found_at.place_in);
            found_is = found_at.found_is ∙ next;
            letter_is = ap (letter table) (sym next) ∙ found_at.letter_is;
          }

  -- each of them is found
  sought-found : (count first k : ℕ) → Rising table first count → k < count → letter table (first + k) ≡ one
      → sought count table one first ≡ first + k
  unfolding sought
  sought-found zero first k rising h e = absurd (omega arith)
  sought-found (suc count) first zero rising h e =
      let here = rw add-zero at e in
      rw (le-ltb (letter table first) one (omega arith), eq-eqb one (letter table first) (sym here), add-zero)
  sought-found (suc count) first (suc k) rising h e =
      let onward : (j : ℕ) → suc first + j ≡ first + suc j = λ j. omega arith in
      let rest : Rising table (suc first) count = λ j more. rw (onward j, onward (suc j)) (rising (suc j) (omega arith)) in
      let less = climbs_over (λ j. letter table (first + j)) (suc count) rising 0 (suc k) (omega arith) h in
      let here : letter table first < one = rw (e, add-zero) at less in
      rw (lt-ltb (letter table first) one here)
      (sought-found count (suc first) k rest (omega arith) (rw (onward k) e) ∙ onward k)

-- a node's children are sought where they stand: where there are none, nothing is looked at
child_sought : (table : List ℕ) (roots i one : ℕ) → Row table roots i
    → child table i one ≡ sought (child_count table i) table one (total table roots i)
unfolding child sought
child_sought table roots i one row =
    by_test (eqb (child_count table i) 0)
    (λ p. rw (eqb-true (child_count table i) 0 p))
    (λ p. rw (row.first_is, p))

module _ {table : List ℕ} {roots nodes : ℕ} (forest : Forest table roots nodes) (i : ℕ) (i-in : i < nodes) where
  -- the child of a letter is one of the node's children, and has that letter
  pub child_among : (one : ℕ) → (child table i one ≡ 0 → ⊥)
      → FoundAt table (total table roots i) (child_count table i) one (child table i one)
  child_among one some-child =
      let same = child_sought table roots i one (forest.row i i-in) in
      rw same (sought-among table one (child_count table i) (total table roots i) (rw same at some-child))

  -- each of the node's children is the child of its own letter
  pub child_found : (k : ℕ) → k < child_count table i → (one : ℕ) → letter table (total table roots i + k) ≡ one
      → child table i one ≡ total table roots i + k
  child_found k k-in one e =
      let row = forest.row i i-in in
      child_sought table roots i one row
      ∙ sought-found table one (child_count table i) (total table roots i) k row.rising k-in e

  -- a child comes after its parent
  pub lower : (k : ℕ) → i < total table roots i + k
  lower k = omega (arith, (forest.row i i-in).ahead)
