-- Following an ending's letters through a forest, whose nodes are all inside the table.
use Rattle.std.specs.Prelude.{ℕ, suc, ◌+◌, ◌*◌, ◌-◌, ◌<◌, ◌≤◌, ◌≡◌, List, eqb, length}
use Rattle.std.proofs.Common.{◌∙◌, arith, eqb-true, ne_eqb}
use Rattle.std.proofs.Math.Option.{some}
use Rattle.paper.specs.TestLaws.{by_test}
use Rattle.paths.specs.Children.{first_child, child_count, sought, child, nodes_in}
use Rattle.walks.specs.Walk.{reached}
use Rattle.forests.specs.Forest.{total, Forest}
use Rattle.forests.specs.ForestPaths.{reached_in}
use Rattle.forests.specs.TotalLaws.{total_next, total_inside}
use Rattle.judging.specs.Notes.{Fits, Rooted}

-- where a path has led so far
pub record At (table : List ℕ) (at size : ℕ) : Type 0 where
  pub low : at < size
  pub here : 4 * at + 4 ≤ length table
  pub children_in : 4 * (first_child table at + child_count table at) ≤ length table
  pub few : first_child table at + child_count table at ≤ size

module _ {table : List ℕ} {root size : ℕ} (rooted : Rooted table root size) (tail : List ℕ) (at : ℕ)
    (there : reached (nodes_in table) root tail ≡ some at) where
  abbrev forest : Forest table rooted.roots rooted.fits.nodes
  forest = rooted.fits.forest

  at_in : at < rooted.fits.nodes
  at_in = reached_in forest root rooted.root_in tail at there

  children_end : first_child table at + child_count table at ≤ rooted.fits.nodes
  children_end =
      let first = (forest.row at at_in).first_is in
      let inside = total_inside forest (suc at) (omega (arith, at_in)) in
      by_test (eqb (child_count table at) 0)
      (λ p.
      let no-first : first_child table at ≡ 0 = first ∙ rw p in
      let no_child = eqb-true (child_count table at) 0 p in
      omega arith)
      (λ p.
      let is-first : first_child table at ≡ total table rooted.roots at = first ∙ rw p in
      omega (arith, total_next table rooted.roots at))

  pub at_node : At table at size
  at_node =
      record {
        low = omega (arith, at_in, rooted.fits.few);
        here = omega (arith, at_in, forest.inside);
        children_in = omega (arith, children_end, forest.inside);
        few = omega (arith, children_end, rooted.fits.few);
      }

  -- a node stands before its children, so none of them is node 0
  pub first_behind : 0 < child_count table at → 0 < first_child table at
  first_behind more =
      let row = forest.row at at_in in
      let is-first : first_child table at ≡ total table rooted.roots at = row.first_is
      ∙ rw (ne_eqb (child_count table at) 0 (λ none. omega arith)) in
      omega (arith, row.ahead)

-- one of the roots
pub rooted_in : {table : List ℕ} {root roots size many : ℕ} → Fits table roots size → root < roots → many ≡ size → Rooted table root many
rooted_in fits h same =
    record {
      roots = _;
      fits = record { nodes = fits.nodes; forest = fits.forest; few = omega (arith, fits.few, same) };
      root_in = h;
    }

-- more places serve too
pub wider : {table : List ℕ} {root size more : ℕ} → Rooted table root size → size ≤ more → Rooted table root more
wider rooted h =
    let fits = rooted.fits in
    record {
      roots = rooted.roots;
      fits = record { nodes = fits.nodes; forest = fits.forest; few = omega (arith, fits.few) };
      root_in = rooted.root_in;
    }

-- what is found among the children is the child
pub child_among : (table : List ℕ) (at letter first end found : ℕ) → first ≡ first_child table at → end ≡ first + child_count table at
    → found ≡ sought (end - first) table letter first → found ≡ child table at letter
unfolding child
child_among table at letter first end found f e is =
    let long : end - first ≡ child_count table at = omega arith in
    is ∙ rw (long, f)
