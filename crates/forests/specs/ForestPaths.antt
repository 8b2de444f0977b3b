-- The paths of a forest: each node lies at the end of exactly one path from a root.
use Prim.Native.Nat.{ℕ, zero, suc, ◌+◌, ◌-◌, ◌<◌, ◌≤◌}
use Rattle.std.specs.Prelude.{◌≡◌, eqb, ltb}
use Rattle.std.proofs.Math.Path.{refl, sym, ap, ap₂}
use Rattle.std.proofs.Common.{◌∙◌, arith}
use mathlib.Core.List.{List, [], ◌∷◌}
use Rattle.std.proofs.Math.Option.{Option, none, some}
use borrow.Author.Tests.{eqb-true, eqb-false, ne_eqb, ltb-true, ltb-false}
use Rattle.paper.specs.TestLaws.{by_test, apart}
use Rattle.paths.specs.Children.{letter, child_count, nodes_in}
use Rattle.walks.specs.Walk.{Nodes, onward, reached}
use Rattle.forests.specs.Forest.{total, Forest}
use Rattle.forests.specs.TotalLaws.{total_rises, total_next, behind_roots, roots_inside, child_inside}
use Rattle.forests.specs.ForestChildren.{FoundAt, child_among, child_found, lower}

-- ## The last step of a path

-- a node that is a child: of this node, to which the letters before lead
pub record Came (nodes : Nodes) (root one : ℕ) (parent : List ℕ) (i : ℕ) : Type 0 where
  pub from : ℕ
  pub there : reached nodes root parent ≡ some from
  pub child_is : nodes.child from one ≡ i
  pub a_child : i ≡ 0 → ⊥

module _ (nodes : Nodes) (root one : ℕ) (parent : List ℕ) where
  pub came : (i : ℕ) → reached nodes root (one ∷ parent) ≡ some i → Came nodes root one parent i
  unfolding reached onward
  came i e = from_some (reached nodes root parent) refl e
    where
      from_some : (before : Option ℕ) → reached nodes root parent ≡ before → onward nodes one before ≡ some i → Came nodes root one parent i
      from_some none is e = apart (cc)
      from_some (some at) is e =
          by_test (eqb (nodes.child at one) 0)
          (λ p. let nowhere = rw p at e in apart (cc))
          (λ p.
          let found = rw p at e in
          let it : nodes.child at one ≡ i = cc in
          record { from = at; there = is; child_is = it; a_child = λ z. eqb-false (nodes.child at one) 0 p (it ∙ z) })

  pub goes_on : (i : ℕ) → Came nodes root one parent i → reached nodes root (one ∷ parent) ≡ some i
  unfolding reached onward
  goes_on i way = rw (way.there, onward, way.child_is, ne_eqb i 0 way.a_child)

-- ## Where paths lead, and that no two lead to one node

-- the parent's number is known by the child's: the children of another node stand elsewhere
same_parent : (table : List ℕ) (roots j h k m : ℕ) → k < child_count table j → m < child_count table h
    → total table roots j + k ≡ total table roots h + m → j ≡ h
same_parent table roots j h k m k-in m-in e =
    by_test (eqb j h) (λ p. eqb-true j h p)
    (λ p.
    by_test (ltb j h)
    (λ q. absurd (omega (arith, total_rises table roots (suc j) h (ltb-true j h q), total_next table roots j)))
    (λ q.
    let later : h < j = omega (arith, ltb-false j h q, eqb-false j h p) in
    absurd (omega (arith, total_rises table roots (suc h) j later, total_next table roots h))))

module _ {table : List ℕ} {roots nodes : ℕ} (forest : Forest table roots nodes) where
  -- the node that a letter leads to, among its parent's children
  pub among : {root one : ℕ} {parent : List ℕ} {i : ℕ} (way : Came (nodes_in table) root one parent i) → way.from < nodes
      → FoundAt table (total table roots way.from) (child_count table way.from) one i
  among {one = one} way inside =
      rw way.child_is at (child_among forest way.from inside one (λ z. way.a_child (sym way.child_is ∙ z)))

  pub reached_in : (g : ℕ) → g < roots → (tail : List ℕ) (i : ℕ) → reached (nodes_in table) g tail ≡ some i → i < nodes
  unfolding reached
  reached_in g g-in [] i e = let it : g ≡ i = cc in omega (arith, roots_inside forest)
  reached_in g g-in (one ∷ parent) i e =
      let way = came (nodes_in table) g one parent i e in
      let inside = reached_in g g-in parent way.from way.there in
      let found = among way inside in
      omega (arith, child_inside forest way.from found.place inside found.place_in, found.found_is)

  -- a root's number is below that of every child
  pub not_root : (g one : ℕ) (parent : List ℕ) (i : ℕ) → g < roots → reached (nodes_in table) g (one ∷ parent) ≡ some i → roots ≤ i
  not_root g one parent i g-in e =
      let way = came (nodes_in table) g one parent i e in
      let found = among way (reached_in g g-in parent way.from way.there) in
      omega (arith, found.found_is, behind_roots table roots way.from)

  pub one_path : (g h : ℕ) → g < roots → h < roots → (tail other : List ℕ) (i : ℕ)
      → reached (nodes_in table) g tail ≡ some i → reached (nodes_in table) h other ≡ some i → (g ≡ h) × (tail ≡ other)
  unfolding reached
  one_path g h g-in h-in [] [] i e f = (cc, refl)
  one_path g h g-in h-in [] (y ∷ rest) i e f =
      let it : g ≡ i = cc in
      absurd (omega (arith, not_root h y rest i h-in f))
  one_path g h g-in h-in (x ∷ parent) [] i e f =
      let it : h ≡ i = cc in
      absurd (omega (arith, not_root g x parent i g-in e))
  one_path g h g-in h-in (x ∷ parent) (y ∷ rest) i e f =
      let way = came (nodes_in table) g x parent i e in
      let road = came (nodes_in table) h y rest i f in
      let found = among way (reached_in g g-in parent way.from way.there) in
      let met = among road (reached_in h h-in rest road.from road.there) in
      let parents = same_parent table roots way.from road.from found.place met.place found.place_in met.place_in
      (sym found.found_is ∙ met.found_is) in
      let before = one_path g h g-in h-in parent rest way.from way.there (rw parents road.there) in
      let letters : x ≡ y =
      sym found.letter_is ∙ ap (letter table) (sym found.found_is) ∙ ap (letter table) met.found_is ∙ met.letter_is in
      (before.0, ap₂ ◌∷◌ letters before.1)

-- ## A path to each node

pub record Path (table : List ℕ) (roots i : ℕ) : Type 0 where
  pub group : ℕ
  pub tail : List ℕ
  pub group_in : group < roots
  pub there : reached (nodes_in table) group tail ≡ some i

-- the node of which another is a child
record Parent (table : List ℕ) (roots nodes i : ℕ) : Type 0 where
  number : ℕ
  number_in : number < nodes
  from : total table roots number ≤ i
  to : i < total table roots (suc number)

parent_of : (table : List ℕ) (roots nodes i : ℕ) → roots ≤ i → i < total table roots nodes → Parent table roots nodes i
unfolding total
parent_of table roots zero i behind h = absurd (omega arith)
parent_of table roots (suc nodes) i behind h =
    by_test (ltb i (total table roots nodes))
    (λ p. earlier (parent_of table roots nodes i behind (ltb-true i (total table roots nodes) p)))
    (λ p. record { number = nodes; number_in = omega arith; from = ltb-false i (total table roots nodes) p; to = h })
  where
    earlier : Parent table roots nodes i → Parent table roots (suc nodes) i
    earlier parent =
        record {
          number = parent.number;
          number_in = omega (arith, parent.number_in);
          from = parent.from;
          to = parent.to;
        }

module _ {table : List ℕ} {roots nodes : ℕ} (forest : Forest table roots nodes) where
  through : (i : ℕ) (parent : Parent table roots nodes i) → Path table roots parent.number → Path table roots i
  through i parent path =
      let at = parent.number in
      let k = i - total table roots at in
      let place : total table roots at + k ≡ i = omega (arith, parent.from) in
      let k-in : k < child_count table at = omega (arith, parent.from, parent.to, total_next table roots at) in
      let found = child_found forest at parent.number_in k k-in (letter table i) (rw place) in
      record {
        group = path.group;
        tail = letter table i ∷ path.tail;
        group_in = path.group_in;
        there =
            goes_on (nodes_in table) path.group (letter table i) path.tail i
            (record {
              from = at;
              there = path.there;
              child_is = found ∙ place;
              a_child = λ z. omega (arith, lower forest at parent.number_in k);
            });
      }

  path_below : (bound i : ℕ) → i < bound → i < nodes → Path table roots i
  unfolding reached
  path_below zero i h i-in = absurd (omega arith)
  path_below (suc bound) i h i-in =
      by_test (ltb i roots)
      (λ p. record { group = i; tail = []; group_in = ltb-true i roots p; there = refl })
      (λ p.
      let parent = parent_of table roots nodes i (ltb-false i roots p) (omega (arith, forest.whole)) in
      let before = lower forest parent.number parent.number_in 0 in
      through i parent
      (path_below bound parent.number (omega (arith, parent.from)) parent.number_in))

  pub a_path : (i : ℕ) → i < nodes → Path table roots i
  a_path i h = path_below (suc i) i (omega arith) h
