-- A forest through which the rules' endings lead as they must is faithful to the groups.
use Prim.Native.Nat.{ℕ, zero, suc, ◌+◌, ◌≤◌, ◌<◌}
use Rattle.std.specs.Prelude.{◌≡◌, eqb}
use Rattle.std.proofs.Math.Path.{refl, sym, ap, ap₂}
use Rattle.std.proofs.Common.{◌∙◌, arith}
use Rattle.std.proofs.Math.Bool.{true}
use Rattle.std.proofs.lemmas.Bool.{false≢true}
use mathlib.Core.List.{List, [], ◌∷◌}
use Rattle.std.proofs.Math.Option.{Option, none, some}
use Rattle.std.proofs.Math.ListN.{length}
use borrow.Author.Tests.{eqb-true, eqb-false, eq-eqb}
use Rattle.paper.specs.Groups.{Rule, Group}
use Rattle.paper.specs.Numbered.{number_of, first_with}
use Rattle.paper.specs.NumberedLaws.{Every, every_map}
use Rattle.paper.specs.TestLaws.{by_test, test_ext}
use Rattle.paths.specs.Children.{letter, child_count, first_rule, nodes_in}
use Rattle.walks.specs.Walk.{reached, held}
use Rattle.walks.specs.Faithful.{exists, leads, FaithfulGroup, FaithfulFrom}
use Rattle.walks.specs.DeepestLaws.{reached-nowhere}
use Rattle.walks.specs.TailLaws.{leads-parent, leads-nowhere}
use Rattle.walks.specs.Ends.{Node, node, same_node}
use Rattle.walks.specs.EndsLaws.{same_node_eq, same_node_refl, First, FirstFrom}
use Rattle.forests.specs.Forest.{total, Forest}
use Rattle.forests.specs.ForestChildren.{child_found, lower}
use Rattle.forests.specs.ForestPaths.{goes_on, reached_in, not_root, one_path}
use Rattle.judging.specs.Led.{is_at, ends_at, Led}
use Rattle.judging.specs.TailsLed.{ending_of, ending_leads}
use Rattle.judging.specs.EndLaws.{number_alike, of_one}

is_at_lem : (i : ℕ) (found : Option ℕ) → is_at i found ≡ true → found ≡ some i
unfolding is_at
is_at_lem i none e = absurd (false≢true e)
is_at_lem i (some other) e = ap some (sym (eqb-true i other e))

pub at_it : (i : ℕ) (found : Option ℕ) → found ≡ some i → is_at i found ≡ true
unfolding is_at
at_it i found e = rw e (eq-eqb i i refl)

-- ## A node has one path, so the rules that end there are those with that ending

module _ {table : List ℕ} {roots nodes : ℕ} (forest : Forest table roots nodes) (all : List Node)
    (in-range : Every (λ one. one.group < roots) all) where
  ends_same : (g : ℕ) → g < roots → (tail : List ℕ) (i : ℕ) → reached (nodes_in table) g tail ≡ some i
      → (one : Node) → one.group < roots → ends_at table i one ≡ same_node (node g tail) one
  unfolding ends_at
  ends_same g g-in tail i there one one_in =
      test_ext _ _
      (λ p.
      let both = one_path forest g one.group g-in one_in tail one.tail i there (is_at_lem i _ p) in
      let it : node g tail ≡ one = ap₂ node both.0 both.1 in
      ap (same_node (node g tail)) (sym it) ∙ same_node_refl (node g tail))
      (λ p.
      let it = sym (same_node_eq (node g tail) one p) in
      at_it i _ (ap (λ (one : Node). reached (nodes_in table) one.group one.tail) it ∙ there))

  pub ends_number : (g : ℕ) → g < roots → (tail : List ℕ) (i : ℕ) → reached (nodes_in table) g tail ≡ some i
      → number_of (ends_at table i) 1 all ≡ number_of (same_node (node g tail)) 1 all
  ends_number g g-in tail i there =
      number_alike (ends_at table i) (same_node (node g tail)) 1 all
      (every_map (λ one. one.group < roots) (λ one. ends_at table i one ≡ same_node (node g tail) one)
      (ends_same g g-in tail i there) all in-range)

  -- ## One group

  module _ (led : Led table roots nodes all) (root number : ℕ) (rules : List Rule) (root_in : root < roots) (positive : 0 < number)
      (first : First all root number rules) where
    abbrev found : List ℕ → Option ℕ
    found tail = reached (nodes_in table) root tail

    -- each tail of an ending has its path
    there : (tail : List ℕ) → leads rules tail ≡ true → exists (found tail) ≡ true
    unfolding leads reached exists
    there [] e = refl
    there (one ∷ parent) e = by (found (one ∷ parent)) refl
      where
        by : (at : Option ℕ) → found (one ∷ parent) ≡ at → exists at ≡ true
        by none missing =
            let it = ending_of rules one parent e in
            let ended : number_of (same_node (node root it.ending)) 1 all ≡ 0 → ⊥
            = λ z. it.held number positive (sym (first it.ending) ∙ z) in
            let path = of_one (λ one. exists (reached (nodes_in table) one.group one.tail) ≡ true) 1 all (node root it.ending)
            led.paths ended in
            let nowhere = ap (reached (nodes_in table) root) (sym it.whole.split)
            ∙ reached-nowhere (nodes_in table) root it.whole.front (one ∷ parent) missing in
            absurd (false≢true (sym (ap exists nowhere) ∙ path))
        by (some at) is = refl

    -- the rule that a node of this group holds
    held_first : (tail : List ℕ) (i : ℕ) → found tail ≡ some i → first_rule table i ≡ first_with number rules tail
    held_first tail i is =
        led.rules i (reached_in forest root root_in tail i is) ∙ ends_number root root_in tail i is ∙ first tail

    -- each path is that of a tail: below its node stands one that has no children, and a rule ends there
    Only : ℕ → Type 0
    Only fuel = (tail : List ℕ) (i : ℕ) → nodes ≤ fuel + i → found tail ≡ some i → leads rules tail ≡ true

    one_lower : (fuel : ℕ) → Only fuel → (one : ℕ) (parent : List ℕ) (i : ℕ) → nodes ≤ suc fuel + i → found (one ∷ parent) ≡ some i
        → leads rules (one ∷ parent) ≡ true
    unfolding Only
    one_lower fuel lower-ones one parent i enough is =
        let tail = one ∷ parent in
        let inside = reached_in forest root root_in tail i is in
        by_test (eqb (child_count table i) 0)
        (λ p.
        let a_rule = led.leaves i inside (not_root forest root one parent i root_in is) (eqb-true _ 0 p) in
        ending_leads rules number tail positive (λ z. a_rule (held_first tail i is ∙ z)))
        (λ p.
        let first_letter = letter table (total table roots i + 0) in
        let some-child = eqb-false (child_count table i) 0 p in
        let below = child_found forest i inside 0 (omega arith) first_letter refl in
        let more = goes_on (nodes_in table) root first_letter tail (total table roots i + 0)
        (record { from = i; there = is; child_is = below; a_child = λ z. omega (arith, lower forest i inside 0) }) in
        leads-parent rules first_letter tail
        (lower-ones (first_letter ∷ tail) (total table roots i + 0) (omega (arith, lower forest i inside 0)) more))

    only : (fuel : ℕ) → Only fuel
    unfolding Only leads
    only zero [] i enough is = refl
    only (suc fuel) [] i enough is = refl
    only zero (one ∷ parent) i enough is = absurd (omega (arith, reached_in forest root root_in (one ∷ parent) i is))
    only (suc fuel) (one ∷ parent) i enough is = one_lower fuel (only fuel) one parent i enough is

    paths_lead : (tail : List ℕ) → exists (found tail) ≡ leads rules tail
    unfolding exists Only
    paths_lead tail = test_ext _ _ (by (found tail) refl) (there tail)
      where
        by : (at : Option ℕ) → found tail ≡ at → exists at ≡ true → leads rules tail ≡ true
        by none is e = absurd (false≢true e)
        by (some i) is e = only nodes tail i (omega arith) is

    pub group_faithful : FaithfulGroup (nodes_in table) root number rules
    unfolding held exists
    group_faithful = record { paths = paths_lead; holding = λ tail. by tail (found tail) refl }
      where
        by : (tail : List ℕ) (at : Option ℕ) → found tail ≡ at → held (nodes_in table) at ≡ first_with number rules tail
        by tail none is = sym (leads-nowhere rules number tail (sym (paths_lead tail) ∙ ap exists is))
        by tail (some i) is = held_first tail i is

  -- ## So in each group

  pub led_faithful : Led table roots nodes all → (root number : ℕ) (groups : List Group) → root + length groups ≤ roots → 0 < number
      → FirstFrom all root number groups → FaithfulFrom (nodes_in table) root number groups
  unfolding FaithfulFrom FirstFrom
  led_faithful led root number [] h positive first = tt
  led_faithful led root number (group ∷ groups) h positive first = (
    group_faithful led root number group.rules (omega arith) positive first.0,
    led_faithful led (suc root) (number + length group.rules) groups (omega arith) (omega arith) first.1,
  )
