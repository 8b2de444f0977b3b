-- The layout has as many nodes as the node count says, and so the table four numbers for each of them: in a group, the level so many
-- below the root holds exactly the tails of so many letters, each of them once.
use Prim.Native.Nat.{ℕ, zero, suc, ◌+◌, ◌*◌}
use Rattle.std.specs.Prelude.{◌≡◌, true, false, ◌&&◌, ◌||◌, eqb, length}
use Rattle.std.proofs.Math.Path.{refl, sym}
use Rattle.std.proofs.Common.{ap, ◌∙◌, arith}
use Rattle.std.proofs.Math.Bool.{and-true, and-false, and-or_distrib_right}
use mathlib.Core.List.{List, [], ◌∷◌, ◌++◌, map, map-append, map-map}
use Rattle.std.proofs.Math.Dec.{eqb-zero-suc, eqb-suc-zero, eqb-suc-suc}
use Rattle.std.proofs.lemmas.List.{length-map}
use borrow.Author.Tests.{eqb-true}
use Rattle.paper.specs.Letters.{among}
use Rattle.paper.specs.Groups.{Rule, Group, same}
use Rattle.paper.specs.Nodes.{tails_of, member, distinct, node_count}
use Rattle.paper.specs.NumberedLaws.{Every}
use Rattle.paper.specs.TestLaws.{by_test, and_left, and_right}
use Rattle.paper.specs.GroupsLaws.{same_equal}
use Rattle.paper.specs.MemberLaws.{member-append}
use Rattle.sheets.specs.SheetBytes.{all_allowed, groups_allowed, bounded}
use Rattle.sheets.specs.ReadBack.{within}
use Rattle.walks.specs.Faithful.{leads}
use Rattle.walks.specs.TailLaws.{leads-parent}
use Rattle.levels.specs.Layout.{Node, node, roots, children, below, levels, nodes_of, table_of}
use Rattle.levels.specs.TailBounds.{member_fits, members_some}
use Rattle.levels.specs.LevelLaws.{every-below, levels-append, levels_none, levels_one}
use Rattle.levels.specs.RowLaws.{rows_length}
use Rattle.levels.specs.RisingLaws.{run, among_run, run_past, letters_stand}
use Rattle.levels.specs.ChildPlaces.{child_letters, letters_rise}
use Rattle.levels.specs.Counted.{Unlike, Apart, unlike-append, joined, joined_empty, member_joined, unlike_joined, counted_all}

-- ## The tails of some nodes

abbrev tails_in : List Node → List (List ℕ)
tails_in nodes = map (λ (one : Node). one.tail) nodes

tails-append : (first second : List Node) → tails_in (first ++ second) ≡ tails_in first ++ tails_in second
tails-append first second = map-append (λ (one : Node). one.tail) first second

children-tails : (one : Node) → tails_in (children one) ≡ joined one.tail (child_letters one)
unfolding children
children-tails one =
    map-map (λ (other : Node). other.tail) (λ letter. node one.number one.rules (letter ∷ one.tail)) (child_letters one)

both_members : (tail : List ℕ) (first second : List Node)
    → member tail (tails_in (first ++ second)) ≡ (member tail (tails_in first) || member tail (tails_in second))
both_members tail first second = ap (member tail) (tails-append first second) ∙ member-append tail (tails_in first) (tails_in second)

below-empty : (level : List Node) → member [] (tails_in (below level)) ≡ false
unfolding below member
below-empty [] = refl
below-empty (one ∷ level) =
    both_members [] (children one) (below level)
    ∙ rw (children-tails one, joined_empty one.tail (child_letters one)) (below-empty level)

-- ## One group

module _ (rules : List Rule) (all : all_allowed rules ≡ true) where
  abbrev Own : Node → Type 0
  Own one = one.rules ≡ rules

  child_member : (one : Node) → Own one → (letter : ℕ) (parent : List ℕ)
      → member (letter ∷ parent) (tails_in (children one)) ≡ (same parent one.tail && member (letter ∷ parent) (tails_of rules))
  child_member one own letter parent =
      ap (member (letter ∷ parent)) (children-tails one)
      ∙ member_joined letter parent one.tail (child_letters one)
      ∙ by_test (same parent one.tail)
      (λ p. rw (p, and-true, own, ← same_equal parent one.tail p) (letters_stand rules all letter parent))
      (λ p. rw (p, and-false))

  -- the level below holds what leads on from this one
  below-member : (level : List Node) → Every Own level → (letter : ℕ) (parent : List ℕ)
      → member (letter ∷ parent) (tails_in (below level)) ≡ (member parent (tails_in level) && member (letter ∷ parent) (tails_of rules))
  unfolding below member
  below-member [] own letter parent = refl
  below-member (one ∷ level) own letter parent =
      both_members (letter ∷ parent) (children one) (below level)
      ∙ rw (child_member one own.0 letter parent, below-member level own.1 letter parent)
      (sym (and-or_distrib_right (same parent one.tail) (member parent (tails_in level)) (member (letter ∷ parent) (tails_of rules))))

  below-unlike : (level : List Node) → Every Own level → Unlike (tails_in level) → Unlike (tails_in (below level))
  unfolding below Unlike
  below-unlike [] own unlike = tt
  below-unlike (one ∷ level) own unlike =
      rw (tails-append (children one) (below level))
      (unlike-append (tails_in (children one)) (tails_in (below level))
      (rw (children-tails one) (unlike_joined one.tail 0 (child_letters one) (letters_rise one)))
      (below-unlike level own.1 unlike.1) apart)
    where
      apart : Apart (tails_in (children one)) (tails_in (below level))
      apart [] is = below-empty level
      apart (letter ∷ parent) is =
          let parts = sym (child_member one own.0 letter parent) ∙ is in
          let its = same_equal parent one.tail (and_left (same parent one.tail) (member (letter ∷ parent) (tails_of rules)) parts) in
          below-member level own.1 letter parent ∙ rw (its, unlike.0)

  -- a level so many below the root
  record Level (depth : ℕ) (level : List Node) : Type 0 where
    own : Every Own level
    unlike : Unlike (tails_in level)
    holds : (tail : List ℕ) → member tail (tails_in level) ≡ (eqb (length tail) depth && leads rules tail)

  next_level : {depth : ℕ} {level : List Node} → Level depth level → Level (suc depth) (below level)
  unfolding leads
  next_level {depth} {level} is = record {
    own = every-below Own Own (λ one letter stands own. own) level is.own;
    unlike = below-unlike level is.own is.unlike;
    holds = holding;
  }
    where
      holding : (tail : List ℕ) → member tail (tails_in (below level)) ≡ (eqb (length tail) (suc depth) && leads rules tail)
      holding [] = below-empty level ∙ rw (eqb-zero-suc depth)
      holding (letter ∷ parent) =
          below-member level is.own letter parent
          ∙ rw (is.holds parent, eqb-suc-suc (length parent) depth)
          (by_test (leads rules (letter ∷ parent))
          (λ p. rw (p, leads-parent rules letter parent p) (and-true (eqb (length parent) depth && true)))
          (λ p. rw p (and-false (eqb (length parent) depth && leads rules parent) ∙ sym (and-false (eqb (length parent) depth)))))

  -- so many levels from one on hold the tails of so many letters
  levels-member : (n depth : ℕ) (level : List Node) → Level depth level → (tail : List ℕ)
      → member tail (tails_in (levels n level)) ≡ (among (length tail) (run n depth) && leads rules tail)
  unfolding levels run among member
  levels-member zero depth level is tail = refl
  levels-member (suc n) depth level is tail =
      both_members tail level (levels n (below level))
      ∙ rw (is.holds tail, levels-member n (suc depth) (below level) (next_level is) tail)
      (sym (and-or_distrib_right (eqb (length tail) depth) (among (length tail) (run n (suc depth))) (leads rules tail)))

  levels-unlike : (n depth : ℕ) (level : List Node) → Level depth level → Unlike (tails_in (levels n level))
  unfolding levels Unlike
  levels-unlike zero depth level is = tt
  levels-unlike (suc n) depth level is =
      rw (tails-append level (levels n (below level)))
      (unlike-append (tails_in level) (tails_in (levels n (below level))) is.unlike
      (levels-unlike n (suc depth) (below level) (next_level is))
      (λ tail there.
      let long = and_left (eqb (length tail) depth) (leads rules tail) (sym (is.holds tail) ∙ there) in
      let past = run_past n (suc depth) (length tail) (omega (arith, eqb-true (length tail) depth long)) in
      levels-member n (suc depth) (below level) (next_level is) tail ∙ rw past))

  root_level : (number : ℕ) → Level 0 (node number rules [] ∷ [])
  unfolding Unlike member same leads
  root_level number = record { own = (refl, tt); unlike = (refl, tt); holds = holding }
    where
      holding : (tail : List ℕ) → member tail ([] ∷ []) ≡ (eqb (length tail) 0 && leads rules tail)
      holding [] = refl
      holding (letter ∷ parent) = rw (eqb-suc-zero (length parent))

  -- an ending has at most 12 letters
  all_levels : (tail : List ℕ) → (among (length tail) (run 12 1) && leads rules tail) ≡ member tail (tails_of rules)
  unfolding leads
  all_levels [] = rw (run_past 12 1 0 (omega arith)) (sym (members_some rules))
  all_levels (letter ∷ parent) =
      by_test (member (letter ∷ parent) (tails_of rules))
      (λ p.
      let fit = member_fits rules all (letter ∷ parent) p in
      rw (p, among_run 12 1 (length (letter ∷ parent)) (omega arith) (omega (arith, fit.short))))
      (λ p. rw (p, and-false))

  below_root : (number : ℕ) → length (levels 12 (below (node number rules [] ∷ []))) ≡ distinct [] (tails_of rules)
  below_root number =
      let first = below (node number rules [] ∷ []) in
      let is = next_level (root_level number) in
      sym (length-map (levels 12 first) (λ (one : Node). one.tail))
      ∙ counted_all (tails_in (levels 12 first)) (tails_of rules) (levels-unlike 12 1 first is)
      (λ tail. levels-member 12 1 first is tail ∙ all_levels tail)

-- ## All groups

count_from : (number : ℕ) (groups : List Group) → groups_allowed groups ≡ true → length (levels 13 (roots number groups)) ≡ node_count groups
unfolding roots node_count groups_allowed
count_from number [] all = ap length (levels_none 13)
count_from number (group ∷ groups) all =
    let root = node number group.rules [] in
    let next = number + length group.rules in
    let here = below_root group.rules (and_left (all_allowed group.rules) (groups_allowed groups) all) number in
    let further = count_from next groups (and_right (all_allowed group.rules) (groups_allowed groups) all) in
    levels-append 13 (root ∷ []) (roots next groups) ∙ omega (arith, levels_one 12 root, here, further)

pub nodes_length : (groups : List Group) → bounded groups ≡ true → length (nodes_of groups) ≡ node_count groups
unfolding nodes_of
nodes_length groups all = count_from 1 groups (within groups all).each

pub table-length : (groups : List Group) → bounded groups ≡ true → length (table_of groups) ≡ 4 * node_count groups
unfolding table_of
table-length groups all = rows_length (length groups) (nodes_of groups) ∙ ap (◌*◌ 4) (nodes_length groups all)
