-- The table that groups are laid out in is faithful to them.
use Prim.Native.Nat.{ℕ, suc, ◌+◌, ◌≤◌}
use Rattle.std.specs.Prelude.{◌≡◌, true, length}
use Rattle.std.proofs.Math.Path.{refl}
use Rattle.std.proofs.Common.{sym, subst, ◌∙◌, le_refl, arith}
use Rattle.std.proofs.Math.Bool.{false, or-false}
use mathlib.Core.List.{List, [], ◌∷◌, ◌++◌, map}
use Rattle.std.proofs.Math.Dec.{eqb}
use borrow.Author.Tests.{ne_eqb, eq-eqb}
use Rattle.paper.specs.Groups.{Group}
use Rattle.siblings.specs.Layout.{present, roots, nodes_of, rows, table_of}
use Rattle.walks.specs.Ends.{Node, node, same_node, ends}
use Rattle.walks.specs.EndsLaws.{same_node_refl, other_group, FirstFrom, first_ends}
use Rattle.paper.specs.Numbered.{number_of}
use Rattle.siblings.specs.Chains.{nodes_in}
use Rattle.walks.specs.Faithful.{leads, FaithfulFrom, Faithful}
use Rattle.siblings.specs.PathLaws.{not_root, group_faithful}
use Rattle.siblings.specs.GrownLaws.{in_ways, present-grown, grown_extends}
use Rattle.siblings.specs.WaysLaws.{ways_append, ways_group, ways_beyond}

-- What the nodes of a whole sheet say of the groups from root `root` on: what stands before them has no node of theirs.
record Rest (nodes extra : List Node) (root : ℕ) (groups : List Group) : Type 0 where
  pub numbers : (group : ℕ) → root ≤ group → (tail : List ℕ)
      → number_of (same_node (node group tail)) 0 nodes ≡ number_of (same_node (node group tail)) root (roots root groups ++ extra)
  pub roots_present : (group : ℕ) → root ≤ group → present (node group []) (roots root groups) ≡ true → present (node group []) nodes ≡ true
  pub nodes_present : (group : ℕ) → root ≤ group → (letter : ℕ) (parent : List ℕ)
      → present (node group (letter ∷ parent)) nodes ≡ in_ways (node group (letter ∷ parent)) (ends root groups)

-- ## The first of these groups

module _ (nodes extra : List Node) (root : ℕ) (group : Group) (groups : List Group) (rest : Rest nodes extra root (group ∷ groups)) where
  first_number : number_of (same_node (node root [])) 0 nodes ≡ root
  unfolding roots number_of
  first_number = rest.numbers root (le_refl root) [] ∙ rw (same_node_refl (node root []))

  first_present : (tail : List ℕ) → present (node root tail) nodes ≡ leads group.rules tail
  unfolding roots present leads ends
  first_present [] = rest.roots_present root (le_refl root) (rw (same_node_refl (node root [])))
  first_present (letter ∷ parent) =
      let tail = letter ∷ parent in
      rest.nodes_present root (le_refl root) letter parent
      ∙ rw (
        ways_append (node root tail) (map (λ rule. node root rule.ending) group.rules) (ends (suc root) groups),
        ways_group root letter parent root group.rules,
        eq-eqb root root refl,
        ways_beyond root letter parent (suc root) groups (le_refl (suc root)),
        or-false,
      )

  -- the groups after it
  next_rest : Rest nodes extra (suc root) groups
  unfolding roots ends number_of present
  next_rest =
      record {
        numbers = λ one h tail. rest.numbers one (omega arith) tail ∙ rw (other_group one root tail [] (apart one h));
        roots_present = λ one h e. rest.roots_present one (omega arith) (rw (other_group one root [] [] (apart one h)) e);
        nodes_present = λ one h letter parent.
            rest.nodes_present one (omega arith) letter parent
            ∙ rw (
              ways_append (node one (letter ∷ parent)) (map (λ rule. node root rule.ending) group.rules) (ends (suc root) groups),
              ways_group one letter parent root group.rules,
              apart one h,
            );
      }
    where
      apart : (one : ℕ) → suc root ≤ one → eqb one root ≡ false
      apart one h = ne_eqb one root (λ e. omega arith)

-- ## All of them

faithful_from : (first : ℕ) (others rules extra : List Node) (root number : ℕ) (groups : List Group)
    → Rest (node first [] ∷ others) extra root groups
    → FirstFrom rules root number groups
    → FaithfulFrom (nodes_in (rows (node first [] ∷ others) rules 0 (node first [] ∷ others))) root number groups
unfolding FaithfulFrom FirstFrom
faithful_from first others rules extra root number [] rest firsts = tt
faithful_from first others rules extra root number (group ∷ groups) rest firsts =
    let nodes = node first [] ∷ others in (
      group_faithful first others rules root number group.rules (first_number nodes extra root group groups rest)
          (first_present nodes extra root group groups rest) firsts.0,
      faithful_from first others rules extra (suc root) (number + length group.rules) groups
          (next_rest nodes extra root group groups rest) firsts.1,
    )

-- ## The whole sheet

pub roots_no_tail : (group letter : ℕ) (parent : List ℕ) (k : ℕ) (groups : List Group)
    → present (node group (letter ∷ parent)) (roots k groups) ≡ false
unfolding roots present
roots_no_tail group letter parent k [] = refl
roots_no_tail group letter parent k (one ∷ more) = rw (not_root group letter k parent) (roots_no_tail group letter parent (suc k) more)

whole_sheet : (groups : List Group) (extra : List Node) → nodes_of groups ≡ roots 0 groups ++ extra
    → Rest (nodes_of groups) extra 0 groups
unfolding nodes_of
whole_sheet groups extra e =
    record {
      numbers = λ group h tail. rw e;
      roots_present = λ group h p. present-grown (node group []) (roots 0 groups) (ends 0 groups) ∙ rw p;
      nodes_present = λ group h letter parent.
          present-grown (node group (letter ∷ parent)) (roots 0 groups) (ends 0 groups) ∙ rw (roots_no_tail group letter parent 0 groups);
    }

some_groups : (group : Group) (groups : List Group) → FaithfulFrom (nodes_in (table_of (group ∷ groups))) 0 1 (group ∷ groups)
unfolding table_of nodes_of roots
some_groups group groups =
    let all = group ∷ groups in
    let more = grown_extends (roots 0 all) (ends 0 all) in
    let rest = whole_sheet all more.extra more.after in
    subst (λ (nodes : List Node). FaithfulFrom (nodes_in (rows nodes (ends 0 all) 0 nodes)) 0 1 all) (sym more.after)
    (faithful_from 0 (roots 1 groups ++ more.extra) (ends 0 all) more.extra 0 1 all
    (subst (λ (nodes : List Node). Rest nodes more.extra 0 all) more.after rest) (first_ends all))

pub siblings_faithful : (groups : List Group) → Faithful (nodes_in (table_of groups)) groups
unfolding Faithful FaithfulFrom
siblings_faithful [] = tt
siblings_faithful (group ∷ groups) = some_groups group groups
