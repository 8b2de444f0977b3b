-- A forest laid out by levels with rising letters is known by its paths: two such tables, with the same paths and the same rules at
-- their ends, are the same table.
use Rattle.std.specs.Prelude.{ℕ, zero, suc, ◌+◌, ◌*◌, ◌<◌, ◌≤◌, ◌≡◌, List, eqb, ltb, length, get_or}
use Rattle.std.proofs.Common.{sym, ◌∙◌, arith, ext_get_or, eqb-true, ltb-true, ltb-false}
use Rattle.std.proofs.lemmas.Bool.{eqb-false}
use Rattle.paper.specs.TestLaws.{by_test}
use Rattle.paths.specs.Children.{child_count, nodes_in}
use Rattle.walks.specs.Walk.{Nodes, reached, held}
use Rattle.forests.specs.Forest.{Forest}
use Rattle.forests.specs.TotalLaws.{total_next, no_more}
use Rattle.forests.specs.MeetingLaws.{SamePaths, levels}

-- at the ends of the same paths the same rule is held
abbrev pub SameRules : Nodes → Nodes → ℕ → Type 0
SameRules one other roots =
    (g : ℕ) → g < roots → (tail : List ℕ) → held one (reached one g tail) ≡ held other (reached other g tail)

-- ## What holds of the four numbers of each node holds of all numbers

record EachNumber (P : ℕ → Type 0) (i : ℕ) : Type 0 where
  letters : P (4 * i)
  firsts : P (4 * i + 1)
  counts : P (4 * i + 2)
  rules : P (4 * i + 3)

in_row : (P : ℕ → Type 0) (i k : ℕ) → EachNumber P i → 4 * i ≤ k → k < 4 * suc i → P k
in_row P i k row from to =
    by_test (eqb k (4 * i)) (λ p. rw (eqb-true k (4 * i) p) row.letters)
    (λ p.
    by_test (eqb k (4 * i + 1)) (λ q. rw (eqb-true k (4 * i + 1) q) row.firsts)
    (λ q.
    by_test (eqb k (4 * i + 2)) (λ r. rw (eqb-true k (4 * i + 2) r) row.counts)
    (λ r.
    let last : k ≡ 4 * i + 3
    = omega (arith, eqb-false k (4 * i) p, eqb-false k (4 * i + 1) q, eqb-false k (4 * i + 2) r) in
    rw last row.rules)))

by_rows : (P : ℕ → Type 0) (n : ℕ) → ((i : ℕ) → i < n → EachNumber P i) → (k : ℕ) → k < 4 * n → P k
by_rows P zero rows k h = absurd (omega arith)
by_rows P (suc n) rows k h =
    by_test (ltb k (4 * n))
    (λ p. by_rows P n (λ i i-in. rows i (omega arith)) k (ltb-true k (4 * n) p))
    (λ p. in_row P n k (rows n (omega arith)) (ltb-false k (4 * n) p) h)

-- ## The same table

module _ {one other : List ℕ} {roots n m : ℕ} (forest : Forest one roots n) (wood : Forest other roots m)
    (paths : SamePaths (nodes_in one) (nodes_in other) roots) where
  same_nodes : n ≡ m
  same_nodes =
      let fewer : m ≤ n = no_more wood (sym (levels forest wood paths n (omega arith)).totals ∙ forest.whole) in
      let more : n ≤ m = no_more forest ((levels forest wood paths m fewer).totals ∙ wood.whole) in
      omega arith

  same_row : SameRules (nodes_in one) (nodes_in other) roots → (i : ℕ) → i < n → EachNumber (λ k. get_or one k 0 ≡ get_or other k 0) i
  unfolding held
  same_row rules i i-in =
      let here = levels forest wood paths i (omega arith) in
      let next = levels forest wood paths (suc i) i-in in
      let met = here.meeting i (forest.row i i-in).ahead in
      let count : child_count one i ≡ child_count other i =
      omega (arith, here.totals, next.totals, total_next one roots i, total_next other roots i) in
      let i_there : i < m = omega (arith, same_nodes) in
      let rule = rules met.group met.group_in met.tail in
      record {
        letters = met.same_letter;
        firsts = (forest.row i i-in).first_is ∙ rw (count, here.totals) (sym (wood.row i i_there).first_is);
        counts = count;
        rules = rw (met.here, met.there) at rule;
      }

-- a forest is known by its paths
pub known_by_paths : {one other : List ℕ} {roots n m : ℕ} → Forest one roots n → Forest other roots m
    → length one ≡ 4 * n → length other ≡ 4 * m
    → SamePaths (nodes_in one) (nodes_in other) roots → SameRules (nodes_in one) (nodes_in other) roots → one ≡ other
known_by_paths {one} {other} {roots} {n} forest wood size measure paths rules =
    ext_get_or 0 one other (omega (arith, same_nodes forest wood paths))
    (λ k h. by_rows (λ at. get_or one at 0 ≡ get_or other at 0) n (same_row forest wood paths rules) k (omega arith))
