-- A table is the one that a sheet makes exactly if it is a forest laid out by levels through which the rules' endings lead as they must.
use Rattle.std.specs.Prelude.{ℕ, suc, ◌+◌, ◌*◌, ◌≤◌, ◌<◌, ◌≡◌, true, false, ◌↔◌, Ok, Err, List, [], ◌∷◌, leb, length, take}
use Rattle.std.proofs.Common.{sym, ◌∙◌, arith, lit<, length-take, length-take-le, leb-true, leb-false}
use Rattle.std.proofs.Math.Path.{ap}
use Rattle.answers.specs.declared.FaultySheet.{FaultySheet}
use Rattle.answers.specs.declared.RunRefusal.TheVariants.{Sheet as Unread, Table}
use Rattle.paper.specs.Groups.{Group}
use Rattle.paper.specs.GroupsLaws.{same_equal, same_itself}
use Rattle.paper.specs.Nodes.{node_count}
use Rattle.paper.specs.TestLaws.{by_test}
use Rattle.sheets.specs.Sheets.{refused, read_sheet}
use Rattle.sheets.specs.Accepted.{groups_of, Accepted}
use Rattle.sheets.specs.SheetBytes.{bounded}
use Rattle.sheets.specs.WriteBack.{write_back}
use Rattle.sheets.specs.NodeBounds.{at_most_1552}
use Rattle.paths.specs.Children.{nodes_in}
use Rattle.walks.specs.Walk.{Nodes, reached, held}
use Rattle.walks.specs.Faithful.{exists, FaithfulFrom, Faithful}
use Rattle.walks.specs.Ends.{ends}
use Rattle.walks.specs.EndsLaws.{first_ends, ends_in}
use Rattle.forests.specs.Forest.{Forest}
use Rattle.forests.specs.Shapes.{NoForest}
use Rattle.forests.specs.TotalLaws.{one_count, forest_front, forest_back}
use Rattle.forests.specs.KnownByPaths.{known_by_paths}
use Rattle.levels.specs.Layout.{table_of}
use Rattle.levels.specs.CountLaws.{nodes_length, table-length}
use Rattle.levels.specs.LevelForest.{layout_forest}
use Rattle.levels.specs.LevelFaithful.{layout_faithful}
use Rattle.judging.specs.Judgements.{right_table, judgement_of, judgement}
use Rattle.judging.specs.Led.{Led}
use Rattle.judging.specs.LedLaws.{led_faithful}
use Rattle.judging.specs.FaithfulLed.{own, faithful_led}

-- ## Two tables that are faithful to the same groups have the same paths, and hold the same rules there

record Same (one other : Nodes) (g : ℕ) (tail : List ℕ) : Type 0 where
  paths : exists (reached one g tail) ≡ exists (reached other g tail)
  rules : held one (reached one g tail) ≡ held other (reached other g tail)

same_from : (one other : Nodes) (root number : ℕ) (groups : List Group) → FaithfulFrom one root number groups
    → FaithfulFrom other root number groups → (g : ℕ) → root ≤ g → g < root + length groups → (tail : List ℕ) → Same one other g tail
unfolding FaithfulFrom
same_from one other root number [] left right g low high tail = absurd (omega arith)
same_from one other root number (group ∷ groups) left right g low high tail =
    by_test (leb g root)
    (λ p.
    let here : root ≡ g = omega (arith, leb-true g root p) in
    rw (← here)
    (record {
      paths = left.0.paths tail ∙ sym (right.0.paths tail);
      rules = left.0.holding tail ∙ sym (right.0.holding tail);
    }))
    (λ p. same_from one other (suc root) (number + length group.rules) groups left.1 right.1 g (leb-false g root p) (omega arith)
    tail)

module _ (groups : List Group) (fit : bounded groups ≡ true) (table : List ℕ) where
  abbrev roots : ℕ
  roots = length groups

  -- ## A forest that is led through is the layout

  module _ (n : ℕ) (forest : Forest table roots n) (led : Led (take (4 * n) table) roots n (ends 0 groups)) where
    is_layout : take (4 * n) table ≡ table_of groups
    unfolding Faithful
    is_layout =
        let front = forest_front table n forest in
        let faithful = led_faithful front (ends 0 groups) (ends_in roots 0 groups (omega arith)) led 0 1 groups (omega arith) (lit< tt)
        (first_ends groups) in
        let same-all = same_from (nodes_in (take (4 * n) table)) (nodes_in (table_of groups)) 0 1 groups faithful
        (layout_faithful groups fit) in
        known_by_paths front (layout_forest groups fit) (length-take-le (4 * n) table forest.inside)
        (table-length groups fit ∙ ap (λ (k : ℕ). 4 * k) (sym (nodes_length groups fit)))
        (λ g g-in tail. (same-all g (omega arith) (omega arith) tail).paths)
        (λ g g-in tail. (same-all g (omega arith) (omega arith) tail).rules)

    pub right_count : n ≡ node_count groups
    right_count = omega (arith, ap length is_layout, length-take-le (4 * n) table forest.inside, table-length groups fit)

    pub is_right : right_table groups table ≡ true
    unfolding right_table
    is_right = rw (← right_count, is_layout) (same_itself (table_of groups))

  -- ## The layout is such a forest

  module _ (right : right_table groups table ≡ true) where
    front_is : take (4 * node_count groups) table ≡ table_of groups
    unfolding right_table
    front_is = same_equal (take (4 * node_count groups) table) (table_of groups) right

    front_forest : Forest (take (4 * node_count groups) table) roots (node_count groups)
    front_forest = rw (front_is, ← nodes_length groups fit) (layout_forest groups fit)

    pub right_forest : Forest table roots (node_count groups)
    right_forest =
        forest_back table (node_count groups) front_forest
        (omega (arith, ap length front_is, table-length groups fit, length-take (4 * node_count groups) table))

    pub right_led : Led (take (4 * node_count groups) table) roots (node_count groups) (ends 0 groups)
    unfolding Faithful
    right_led =
        faithful_led front_forest (ends 0 groups) (ends_in roots 0 groups (omega arith))
        (λ g g-in. own (nodes_in (take (4 * node_count groups) table)) (ends 0 groups) 0 1 groups (lit< tt) (first_ends groups)
        (rw front_is (layout_faithful groups fit)) g (omega arith) (omega arith))

-- a table passes exactly if it is the layout
pub passes_exactly : (groups : List Group) → bounded groups ≡ true → (table : List ℕ)
    → (right_table groups table ≡ true)
    ↔ ((n : ℕ) × Forest table (length groups) n × Led (take (4 * n) table) (length groups) n (ends 0 groups))
passes_exactly groups fit table = (
  λ right. (node_count groups, right_forest groups fit table right, right_led groups fit table right),
  λ passes. is_right groups fit table passes.0 passes.1 passes.2,
)

-- ## What is said of a sheet and a table

module _ (sheet table : List ℕ) where
  pub judged_refused : (fault : FaultySheet) → read_sheet sheet ≡ refused fault.place → Err (Unread fault) ≡ judgement sheet table
  unfolding judgement judgement_of
  judged_refused fault is = rw is

  module _ (is : Accepted sheet) where
    abbrev groups : List Group
    groups = groups_of sheet

    fits : bounded groups ≡ true
    fits = (write_back sheet groups is).1

    not_right : right_table groups table ≡ false → Err Table ≡ judgement sheet table
    unfolding judgement judgement_of
    not_right e = rw (is, e)

    -- no forest, as many roots as there are groups
    pub judged_shapeless : NoForest table (length groups) → Err Table ≡ judgement sheet table
    judged_shapeless no-forest =
        by_test (right_table groups table)
        (λ right. absurd (no-forest (node_count groups) (at_most_1552 groups fits) (right_forest groups fits table right))) not_right

    module _ (n : ℕ) (forest : Forest table (length groups) n) where
      pub judged-right : Led (take (4 * n) table) (length groups) n (ends 0 groups) → Ok n ≡ judgement sheet table
      unfolding judgement judgement_of
      judged-right led = rw (is, is_right groups fits table n forest led, ← right_count groups fits table n forest led)

      pub judged_other : (Led (take (4 * n) table) (length groups) n (ends 0 groups) → ⊥) → Err Table ≡ judgement sheet table
      judged_other not-led =
          by_test (right_table groups table)
          (λ right.
          let count = one_count forest (right_forest groups fits table right) in
          absurd (not-led (rw count (right_led groups fits table right)))) not_right
