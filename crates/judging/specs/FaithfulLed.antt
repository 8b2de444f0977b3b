-- Through a forest that is faithful to the groups the rules' endings lead as they must.
use Rattle.std.specs.Prelude.{ℕ, suc, ◌+◌, ◌≤◌, ◌<◌, ◌≡◌, refl, true, leb, length}
use Rattle.std.proofs.Common.{sym, ◌∙◌, leb-true, leb-false}
use Rattle.std.proofs.Math.Path.{ap}
use Rattle.std.proofs.Math.Bool.{false≢true}
use mathlib.Core.List.{List, [], ◌∷◌, ◌++◌}
use Rattle.std.proofs.Math.Option.{none, some}
use native.Mathlib.Omega.{arith}
use Rattle.paper.specs.Groups.{Rule, Group}
use Rattle.paper.specs.Numbered.{first_with}
use Rattle.paper.specs.NumberedLaws.{Every}
use Rattle.paper.specs.TestLaws.{by_test}
use Rattle.paths.specs.Children.{child_count, first_rule, sought, child, nodes_in}
use Rattle.walks.specs.Walk.{Nodes, onward, reached, held}
use Rattle.walks.specs.Faithful.{exists, leads, FaithfulGroup, FaithfulFrom}
use Rattle.walks.specs.Ends.{Node}
use Rattle.walks.specs.EndsLaws.{First, FirstFrom}
use Rattle.forests.specs.Forest.{Forest}
use Rattle.forests.specs.ForestPaths.{a_path}
use Rattle.judging.specs.Led.{Led}
use Rattle.judging.specs.TailsLed.{ending_of, ending_leads}
use Rattle.judging.specs.EndLaws.{of_one, of_all}
use Rattle.judging.specs.LedLaws.{ends_number}

-- ## The group of a root

pub record Own (nodes : Nodes) (all : List Node) (root : ℕ) : Type 0 where
  pub number : ℕ
  pub rules : List Rule
  pub positive : 0 < number
  pub first : First all root number rules
  pub faithful : FaithfulGroup nodes root number rules

pub own : (nodes : Nodes) (all : List Node) (root number : ℕ) (groups : List Group) → 0 < number → FirstFrom all root number groups
    → FaithfulFrom nodes root number groups → (g : ℕ) → root ≤ g → g < root + length groups → Own nodes all g
unfolding FirstFrom FaithfulFrom
own nodes all root number [] positive first faithful g low high = absurd (omega arith)
own nodes all root number (group ∷ groups) positive first faithful g low high =
    by_test (leb g root)
    (λ p.
    let here : root ≡ g = omega (arith, leb-true g root p) in
    rw (← here) (record { number = number; rules = group.rules; positive = positive; first = first.0; faithful = faithful.0 }))
    (λ p. own nodes all (suc root) (number + length group.rules) groups (omega arith) first.1 faithful.1 g (leb-false g root p)
    (omega arith))

-- ## Above a node without children no path goes on

no_child : (table : List ℕ) (i one : ℕ) → child_count table i ≡ 0 → child table i one ≡ 0
unfolding child sought
no_child table i one e = rw e refl

nothing_above : (table : List ℕ) (g : ℕ) (tail : List ℕ) (i : ℕ) → reached (nodes_in table) g tail ≡ some i → child_count table i ≡ 0
    → (one : ℕ) (front : List ℕ) → reached (nodes_in table) g (one ∷ front ++ tail) ≡ none
unfolding reached onward
nothing_above table g tail i there childless one [] = rw (there, onward, no_child table i one childless)
nothing_above table g tail i there childless one (next ∷ front) = rw (nothing_above table g tail i there childless next front)

module _ {table : List ℕ} {roots nodes : ℕ} (forest : Forest table roots nodes) (all : List Node)
    (in-range : Every (λ one. one.group < roots) all) (owned : (g : ℕ) → g < roots → Own (nodes_in table) all g) where
  -- an ending that some rule of the group has
  ending_there : (g : ℕ) (g-in : g < roots) (ending : List ℕ) → (first_with (owned g g-in).number (owned g g-in).rules ending ≡ 0 → ⊥)
      → exists (reached (nodes_in table) g ending) ≡ true
  ending_there g g-in ending e =
      let it = owned g g-in in
      it.faithful.paths ending ∙ ending_leads it.rules it.number ending it.positive e

  held_first : (g : ℕ) (g-in : g < roots) (tail : List ℕ) (i : ℕ) → reached (nodes_in table) g tail ≡ some i
      → first_rule table i ≡ first_with (owned g g-in).number (owned g g-in).rules tail
  unfolding held
  held_first g g-in tail i is = ap (held (nodes_in table)) (sym is) ∙ (owned g g-in).faithful.holding tail

  -- an ending of which this tail, whose node has no children, is one, is the tail itself
  whole_itself : (g : ℕ) (g-in : g < roots) (tail : List ℕ) (i : ℕ) → reached (nodes_in table) g tail ≡ some i → child_count table i ≡ 0
      → (front : List ℕ) → (first_with (owned g g-in).number (owned g g-in).rules (front ++ tail) ≡ 0 → ⊥)
      → first_with (owned g g-in).number (owned g g-in).rules tail ≡ 0 → ⊥
  unfolding exists
  whole_itself g g-in tail i is childless [] e empty = e empty
  whole_itself g g-in tail i is childless (one ∷ front) e empty =
      false≢true (sym (ap exists (nothing_above table g tail i is childless one front)) ∙ ending_there g g-in (one ∷ front ++ tail) e)

  leaf : (g : ℕ) → g < roots → (tail : List ℕ) (i : ℕ) → reached (nodes_in table) g tail ≡ some i → roots ≤ i → child_count table i ≡ 0
      → first_rule table i ≡ 0 → ⊥
  unfolding reached leads exists
  leaf g g-in [] i is low childless empty = let it : g ≡ i = cc in omega arith
  leaf g g-in (one ∷ parent) i is low childless empty =
      let it = owned g g-in in
      let tail = one ∷ parent in
      let ending = ending_of it.rules one parent (sym (it.faithful.paths tail) ∙ ap exists is) in
      whole_itself g g-in tail i is childless ending.whole.front
      (λ z. ending.held it.number it.positive (ap (first_with it.number it.rules) (sym ending.whole.split) ∙ z))
      (sym (held_first g g-in tail i is) ∙ empty)

  pub faithful_led : Led table roots nodes all
  faithful_led =
      record {
        paths = of_all (λ one. exists (reached (nodes_in table) one.group one.tail) ≡ true) all
            (λ one ended.
            let one_in = of_one (λ one. one.group < roots) 1 all one in-range ended in
            ending_there one.group one_in one.tail (λ z. ended ((owned one.group one_in).first one.tail ∙ z)));
        rules = λ i i-in.
            let path = a_path forest i i-in in
            held_first path.group path.group_in path.tail i path.there
            ∙ sym ((owned path.group path.group_in).first path.tail)
            ∙ sym (ends_number forest all in-range path.group path.group_in path.tail i path.there);
        leaves = λ i i-in low childless empty.
            let path = a_path forest i i-in in
            leaf path.group path.group_in path.tail i path.there low childless empty;
      }
