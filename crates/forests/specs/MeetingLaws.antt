-- Two forests with the same paths, node by node: by the same path the same node is reached in both, and its children stand at the same
-- places with the same letters.
use Rattle.std.specs.Prelude.{ℕ, zero, suc, ◌+◌, ◌-◌, ◌<◌, ◌≤◌, ◌≡◌, refl, true, false, cond, List, [], ◌∷◌, eqb, ltb}
use Rattle.std.proofs.Math.Path.{sym}
use Rattle.std.proofs.Common.{ap, ◌∙◌, true≢false, arith, eq-eqb, ne_eqb, ltb-true, ltb-false}
use Rattle.std.proofs.Math.Option.{some}
use Rattle.paper.specs.TestLaws.{by_test}
use Rattle.paths.specs.Children.{letter, child_count, child, nodes_in}
use Rattle.walks.specs.Walk.{Nodes, onward, reached}
use Rattle.walks.specs.Faithful.{exists}
use Rattle.forests.specs.Forest.{total, Forest}
use Rattle.forests.specs.TotalLaws.{total_next, roots_inside}
use Rattle.forests.specs.ClimbLaws.{Among, agree, same_count}
use Rattle.forests.specs.ForestChildren.{child_among, child_found, lower}
use Rattle.forests.specs.ForestPaths.{goes_on, reached_in}

-- the same paths lead somewhere
abbrev pub SamePaths : Nodes → Nodes → ℕ → Type 0
SamePaths one other roots =
    (g : ℕ) → g < roots → (tail : List ℕ) → exists (reached one g tail) ≡ exists (reached other g tail)

-- a path that leads to the same node in both tables, of the same letter
pub record Meeting (one other : List ℕ) (roots i : ℕ) : Type 0 where
  pub group : ℕ
  pub tail : List ℕ
  pub group_in : group < roots
  pub here : reached (nodes_in one) group tail ≡ some i
  pub there : reached (nodes_in other) group tail ≡ some i
  pub same_letter : letter one i ≡ letter other i

-- ## A node that is met in both tables has the same children

child_exists : (nodes : Nodes) (g x : ℕ) (tail : List ℕ) (i : ℕ) → reached nodes g tail ≡ some i
    → exists (reached nodes g (x ∷ tail)) ≡ cond (eqb (nodes.child i x) 0) false true
unfolding reached onward exists
child_exists nodes g x tail i e =
    by_test (eqb (nodes.child i x) 0) (λ p. rw (e, onward, p)) (λ p. rw (e, onward, p))

-- where one has a child of a letter, the other has one too
child_both : (one other : List ℕ) (g i x : ℕ) (tail : List ℕ) → reached (nodes_in one) g tail ≡ some i
    → reached (nodes_in other) g tail ≡ some i
    → exists (reached (nodes_in one) g (x ∷ tail)) ≡ exists (reached (nodes_in other) g (x ∷ tail))
    → (child one i x ≡ 0 → ⊥) → child other i x ≡ 0 → ⊥
child_both one other g i x tail here there same some-child no_child =
    let before = child_exists (nodes_in one) g x tail i here in
    let after = child_exists (nodes_in other) g x tail i there in
    true≢false (sym (rw (ne_eqb (child one i x) 0 some-child) at before) ∙ same ∙ rw (eq-eqb (child other i x) 0 no_child) at after)

-- the letters of a node's children
abbrev letters_of : List ℕ → ℕ → ℕ → ℕ → ℕ
letters_of table roots i k = letter table (total table roots i + k)

letters_among : (one other : List ℕ) (roots n m i : ℕ) → Forest one roots n → Forest other roots m → i < n → i < m
    → ((x : ℕ) → (child one i x ≡ 0 → ⊥) → child other i x ≡ 0 → ⊥)
    → Among (letters_of one roots i) (child_count one i) (letters_of other roots i) (child_count other i)
letters_among one other roots n m i forest wood i-in i_there both k k-in =
    let x = letters_of one roots i k in
    let a_child : child one i x ≡ 0 → ⊥ = λ z.
    omega (arith, child_found forest i i-in k k-in x refl, lower forest i i-in k) in
    let found = child_among wood i i_there x (both x a_child) in
    (found.place, found.place_in, found.letter_is)

-- ## Node by node

-- the children of the first i nodes are the same in both tables, and they are met
pub record Level (one other : List ℕ) (roots i : ℕ) : Type 0 where
  pub totals : total one roots i ≡ total other roots i
  pub meeting : (j : ℕ) → j < total one roots i → Meeting one other roots j

module _ {one other : List ℕ} {roots n m : ℕ} (forest : Forest one roots n) (wood : Forest other roots m)
    (paths : SamePaths (nodes_in one) (nodes_in other) roots) where
  first_level : Level one other roots 0
  unfolding total reached
  first_level =
      record {
        totals = refl;
        meeting = λ j j-in.
            let inside : j < n = omega (arith, roots_inside forest) in
            let there-too : j < m = omega (arith, roots_inside wood) in
            record {
              group = j;
              tail = [];
              group_in = j-in;
              here = refl;
              there = refl;
              same_letter = (forest.row j inside).root_letter j-in ∙ sym ((wood.row j there-too).root_letter j-in);
            };
      }

  module _ (i : ℕ) (i-in : i < n) (level : Level one other roots i) where
    own : Meeting one other roots i
    own = level.meeting i (forest.row i i-in).ahead

    i_there : i < m
    i_there = reached_in wood own.group own.group_in own.tail i own.there

    -- a letter further the path exists in both or in neither
    same_on : (x : ℕ) → exists (reached (nodes_in one) own.group (x ∷ own.tail))
        ≡ exists (reached (nodes_in other) own.group (x ∷ own.tail))
    same_on x = paths own.group own.group_in (x ∷ own.tail)

    there_among : Among (letters_of one roots i) (child_count one i) (letters_of other roots i) (child_count other i)
    there_among =
        letters_among one other roots n m i forest wood i-in i_there
        (λ x. child_both one other own.group i x own.tail own.here own.there (same_on x))

    back_among : Among (letters_of other roots i) (child_count other i) (letters_of one roots i) (child_count one i)
    back_among =
        letters_among other one roots m n i wood forest i_there i-in
        (λ x. child_both other one own.group i x own.tail own.there own.here (sym (same_on x)))

    same_children : child_count one i ≡ child_count other i
    same_children =
        same_count (letters_of one roots i) (letters_of other roots i) (child_count one i) (child_count other i)
        (forest.row i i-in).rising (wood.row i i_there).rising there_among back_among

    same_letters : (k : ℕ) → k < child_count one i → letters_of one roots i k ≡ letters_of other roots i k
    same_letters =
        agree (letters_of one roots i) (letters_of other roots i) (child_count one i) (child_count other i)
        (forest.row i i-in).rising (wood.row i i_there).rising there_among back_among

    child_met : (k : ℕ) → k < child_count one i → Meeting one other roots (total one roots i + k)
    child_met k k-in =
        let x = letters_of one roots i k in
        let same = same_letters k k-in in
        let place : total other roots i + k ≡ total one roots i + k = omega (arith, level.totals) in
        let child-here = child_found forest i i-in k k-in x refl in
        let child_there = child_found wood i i_there k (omega (arith, same_children)) x (sym same) in
        let not_none : total one roots i + k ≡ 0 → ⊥ = λ z. omega (arith, lower forest i i-in k) in
        record {
          group = own.group;
          tail = x ∷ own.tail;
          group_in = own.group_in;
          here =
              goes_on (nodes_in one) own.group x own.tail (total one roots i + k)
              (record { from = i; there = own.here; child_is = child-here; a_child = not_none });
          there =
              goes_on (nodes_in other) own.group x own.tail (total one roots i + k)
              (record { from = i; there = own.there; child_is = child_there ∙ place; a_child = not_none });
          same_letter = same ∙ ap (letter other) place;
        }

    next_level : Level one other roots (suc i)
    next_level =
        record {
          totals = omega (arith, total_next one roots i, total_next other roots i, level.totals, same_children);
          meeting = λ j j-in.
              by_test (ltb j (total one roots i))
              (λ p. level.meeting j (ltb-true j (total one roots i) p))
              (λ p.
              let behind = ltb-false j (total one roots i) p in
              let place : total one roots i + (j - total one roots i) ≡ j = omega arith in
              rw place at (child_met (j - total one roots i) (omega (arith, total_next one roots i))));
        }

  pub levels : (i : ℕ) → i ≤ n → Level one other roots i
  levels zero h = first_level
  levels (suc i) h = next_level i h (levels i (omega arith))
