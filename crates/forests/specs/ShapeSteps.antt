-- A table's shape, one node after another as a loop takes them: what each test that fails rules out, and what those that pass add up to.
use Rattle.std.specs.Prelude.{ℕ, suc, ◌+◌, ◌<◌, ◌≤◌, ◌≡◌, refl, cond, List, eqb, leb, length}
use Rattle.std.proofs.Common.{sym, ap, ◌∙◌, add-one, arith, eqb-true, eq-eqb, ne_eqb, leb-true, leb-false}
use Rattle.std.proofs.lemmas.Bool.{eqb-false}
use Rattle.paper.specs.TestLaws.{by_test}
use Rattle.paths.specs.Children.{first_child, child_count}
use Rattle.forests.specs.Forest.{total, Row, Forest}
use Rattle.forests.specs.TotalLaws.{total_next, total_inside, roots_inside}
use Rattle.forests.specs.Shapes.{Most, Bare, Rises, NoForest}
use Rattle.forests.specs.RisingSteps.{rises-start, rises_from, rising_from}

-- the nodes before this one are in their places, and the next child's number is at hand
pub record SoFar (table : List ℕ) (roots most node next : ℕ) : Type 0 where
  pub next_is : next ≡ total table roots node
  pub reaches : node ≤ next
  pub fits : next ≤ most
  pub rows : (j : ℕ) → j < node → Row table roots j

module _ (table : List ℕ) (roots : ℕ) where
  pub many_roots : {most : ℕ} → Most (length table) most → most < roots → NoForest table roots
  many_roots bound h nodes few forest = omega (arith, roots_inside forest, bound.largest nodes few forest.inside)

  pub lettered_root : (Bare table roots → ⊥) → NoForest table roots
  lettered_root h nodes few forest = h (λ k root. (forest.row k (omega (arith, roots_inside forest))).root_letter root)

  pub at_first : (most : ℕ) → roots ≤ most → SoFar table roots most 0 roots
  unfolding total
  at_first most fits = record { next_is = refl; reaches = omega arith; fits = fits; rows = λ j h. absurd (omega arith) }

module _ {table : List ℕ} {roots most node next : ℕ} (so_far : SoFar table roots most node next) where
  pub all_seen : Most (length table) most → next ≤ node → Forest table roots node × (node ≤ 1552)
  all_seen bound h =
      let same : next ≡ node = omega (arith, so_far.reaches) in
      let fits = so_far.fits in
      let forest : Forest table roots node
      = record { row = so_far.rows; whole = sym so_far.next_is ∙ same; inside = omega (arith, bound.inside) } in
      (forest, omega (arith, bound.few))

-- ## One more node

module _ {table : List ℕ} {roots most node next : ℕ} (so_far : SoFar table roots most node next) (h : node < next) where
  end_is : total table roots (suc node) ≡ next + child_count table node
  end_is = omega (arith, total_next table roots node, so_far.next_is)

  -- a forest would have this node too
  had : {nodes : ℕ} → Forest table roots nodes → node < nodes
  had {nodes} forest =
      by_test (leb nodes node)
      (λ p.
      by_test (eqb nodes node)
      (λ q. absurd (omega (arith, ap (total table roots) (eqb-true nodes node q), forest.whole, so_far.next_is, eqb-true nodes node q)))
      (λ q.
      let before : nodes < node = omega (arith, leb-true nodes node p, eqb-false nodes node q) in
      absurd (omega (arith, (so_far.rows nodes before).ahead, forest.whole))))
      (λ p. leb-false nodes node p)

  first_of : {nodes : ℕ} → Forest table roots nodes → first_child table node ≡ cond (eqb (child_count table node) 0) 0 next
  first_of forest = rw so_far.next_is (forest.row node (had forest)).first_is

  pub leaf-astray : child_count table node ≡ 0 → (first_child table node ≡ 0 → ⊥) → NoForest table roots
  leaf-astray none astray nodes few forest = astray (rw (eq-eqb (child_count table node) 0 none) at (first_of forest))

  pub too_far : Most (length table) most → most < next + child_count table node → NoForest table roots
  too_far bound far nodes few forest =
      omega (arith, total_inside forest (suc node) (had forest), end_is, bound.largest nodes few forest.inside)

  pub astray : (child_count table node ≡ 0 → ⊥) → (first_child table node ≡ next → ⊥) → NoForest table roots
  astray some-child elsewhere nodes few forest = elsewhere (rw (ne_eqb (child_count table node) 0 some-child) at (first_of forest))

  pub falling : (Rises table next (next + child_count table node) → ⊥) → NoForest table roots
  falling falls nodes few forest =
      falls (rises_from table next (child_count table node) (rw so_far.next_is (forest.row node (had forest)).rising))

  one_more : Bare table roots → first_child table node ≡ cond (eqb (child_count table node) 0) 0 next
      → Rises table next (next + child_count table node) → next + child_count table node ≤ most
      → SoFar table roots most (node + 1) (next + child_count table node)
  one_more bare first rises fits =
      let row : Row table roots node
      = record {
        root_letter = bare node;
        first_is = rw (← so_far.next_is) first;
        rising = rw (← so_far.next_is) (rising_from table next (child_count table node) rises);
        ahead = omega (arith, so_far.next_is);
      } in
      record {
        next_is = rw add-one (sym end_is);
        reaches = omega arith;
        fits = fits;
        rows = λ j j-in.
            by_test (eqb j node) (λ p. rw (eqb-true j node p) row)
            (λ p. so_far.rows j (omega (arith, eqb-false j node p)));
      }

  pub leaf : Bare table roots → child_count table node ≡ 0 → first_child table node ≡ 0 → SoFar table roots most (node + 1) next
  leaf bare none first =
      let same : next + child_count table node ≡ next = omega arith in
      let fits = so_far.fits in
      rw same
      at (one_more bare (rw (eq-eqb (child_count table node) 0 none) first)
      (rises-start table next (next + child_count table node) (omega arith)) (omega arith))

  pub parent : Bare table roots → (child_count table node ≡ 0 → ⊥) → next + child_count table node ≤ most → first_child table node ≡ next
      → Rises table next (next + child_count table node) → SoFar table roots most (node + 1) (next + child_count table node)
  parent bare some-child fits first rises = one_more bare (rw (ne_eqb (child_count table node) 0 some-child) first) rises fits
