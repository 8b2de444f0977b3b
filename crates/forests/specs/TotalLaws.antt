-- The roots and the children of the first nodes, together: how that number rises, and what of a table it reads.
use Prim.Native.Nat.{ℕ, zero, suc, ◌+◌, ◌*◌, ◌<◌, ◌≤◌}
use Rattle.std.specs.Prelude.{◌≡◌, List, leb, length, take, get_or}
use Rattle.std.proofs.Math.Path.{refl}
use Rattle.std.proofs.Common.{sym, ◌∙◌, arith, get_or-take, length-take-le, leb-true, leb-false}
use Rattle.paper.specs.TestLaws.{by_test}
use Rattle.paths.specs.Children.{child_count}
use Rattle.forests.specs.Forest.{total, Row, Forest}

pub total_rises : (table : List ℕ) (roots i j : ℕ) → i ≤ j → total table roots i ≤ total table roots j
unfolding total
total_rises table roots i zero h = let none : i ≡ 0 = omega arith in rw none (omega arith)
total_rises table roots i (suc j) h =
    by_test (leb i j)
    (λ p. let before = total_rises table roots i j (leb-true i j p) in omega arith)
    (λ p. let last : i ≡ suc j = omega (arith, leb-false i j p) in rw last (omega arith))

-- one more node adds its children
pub total_next : (table : List ℕ) (roots i : ℕ) → total table roots (suc i) ≡ total table roots i + child_count table i
unfolding total
total_next table roots i = refl

pub behind_roots : (table : List ℕ) (roots i : ℕ) → roots ≤ total table roots i
unfolding total
behind_roots table roots i = total_rises table roots 0 i (omega arith)

module _ {table : List ℕ} {roots nodes : ℕ} (forest : Forest table roots nodes) where
  pub total_inside : (i : ℕ) → i ≤ nodes → total table roots i ≤ nodes
  total_inside i h = omega (arith, total_rises table roots i nodes h, forest.whole)

  pub roots_inside : roots ≤ nodes
  roots_inside = omega (arith, behind_roots table roots nodes, forest.whole)

  -- a child of a node is one of the nodes
  pub child_inside : (i k : ℕ) → i < nodes → k < child_count table i → total table roots i + k < nodes
  child_inside i k h k-in = omega (arith, total_inside (suc i) h, total_next table roots i)

-- where the children end, the nodes end too: each node stands before its children
pub no_more : {table : List ℕ} {roots n m : ℕ} → Forest table roots n → total table roots m ≡ m → n ≤ m
no_more {table} {roots} {n} {m} forest whole =
    by_test (leb n m) (λ p. leb-true n m p) (λ p. absurd (omega (arith, (forest.row m (leb-false n m p)).ahead, whole)))

pub one_count : {table : List ℕ} {roots n m : ℕ} → Forest table roots n → Forest table roots m → n ≡ m
one_count one other = omega (arith, no_more one other.whole, no_more other one.whole)

-- ## Only the numbers of the nodes are read

abbrev pub Alike : ℕ → List ℕ → List ℕ → Type 0
Alike n one other = (k : ℕ) → k < 4 * n → get_or one k 0 ≡ get_or other k 0

module _ (one other : List ℕ) (n : ℕ) (alike : Alike n one other) (roots : ℕ) where
  pub total_alike : (i : ℕ) → i ≤ n → total one roots i ≡ total other roots i
  unfolding total
  total_alike zero h = refl
  total_alike (suc i) h = omega (arith, total_alike i (omega arith), alike (4 * i + 2) (omega arith))

  row_alike : Forest one roots n → (i : ℕ) → i < n → Row other roots i
  row_alike forest i h =
      let row = forest.row i h in
      let same = total_alike i (omega arith) in
      let count : child_count one i ≡ child_count other i = alike (4 * i + 2) (omega arith) in
      record {
        root_letter = λ root. sym (alike (4 * i) (omega arith)) ∙ row.root_letter root;
        first_is = sym (alike (4 * i + 1) (omega arith)) ∙ row.first_is ∙ rw (count, same);
        rising = λ k more.
            let first = child_inside forest i k h (omega arith) in
            let second = child_inside forest i (suc k) h (omega arith) in
            let here = alike (4 * (total one roots i + k)) (omega arith) in
            let there = alike (4 * (total one roots i + suc k)) (omega arith) in
            rw (← same, ← here, ← there) (row.rising k (omega arith));
        ahead = omega (arith, row.ahead);
      }

  pub forest_alike : 4 * n ≤ length other → Forest one roots n → Forest other roots n
  forest_alike inside forest =
      record { row = row_alike forest; whole = sym (total_alike n (omega arith)) ∙ forest.whole; inside = inside }

module _ (table : List ℕ) (n : ℕ) where
  front_alike : Alike n table (take (4 * n) table)
  front_alike k h = sym (get_or-take (4 * n) table k 0 h)

  pub forest_front : {roots : ℕ} → Forest table roots n → Forest (take (4 * n) table) roots n
  forest_front {roots} forest =
      forest_alike table (take (4 * n) table) n front_alike roots (omega (arith, length-take-le (4 * n) table forest.inside)) forest

  pub forest_back : {roots : ℕ} → Forest (take (4 * n) table) roots n → 4 * n ≤ length table → Forest table roots n
  forest_back {roots} forest inside = forest_alike (take (4 * n) table) table n (λ k h. sym (front_alike k h)) roots inside forest
