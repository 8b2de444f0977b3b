-- A group's nodes and rules among those of the whole sheet: the other groups have none of them.
use Rattle.std.specs.Prelude.{ℕ, suc, ◌<◌, ◌≡◌, refl, false, ◌&&◌, ◌||◌, List, [], ◌∷◌, ◌++◌, map, eqb}
use Rattle.std.proofs.Common.{sym, ◌∙◌, arith, ne_eqb}
use Rattle.std.proofs.Math.Bool.{or_assoc, and-or_distrib_left, and-false}
use Rattle.paper.specs.Groups.{Rule, Group}
use Rattle.paper.specs.Nodes.{tails, tails_of, member}
use Rattle.walks.specs.Ends.{Node, node, ends}
use Rattle.paper.specs.MemberLaws.{member-append}
use Rattle.siblings.specs.GrownLaws.{in_ways, present_way}

-- ## Nodes on the ways of the rules

pub ways_append : (one : Node) (left right : List Node) → in_ways one (left ++ right) ≡ (in_ways one left || in_ways one right)
unfolding in_ways
ways_append one [] right = refl
ways_append one (end ∷ left) right = rw (ways_append one left right, or_assoc)

pub ways_group : (group letter : ℕ) (parent : List ℕ) (number : ℕ) (rules : List Rule)
    → in_ways (node group (letter ∷ parent)) (map (λ rule. node number rule.ending) rules)
    ≡ (eqb group number && member (letter ∷ parent) (tails_of rules))
unfolding in_ways tails_of member
ways_group group letter parent number [] = sym (and-false (eqb group number))
ways_group group letter parent number (rule ∷ rules) =
    let tail = letter ∷ parent in
    rw (
      present_way group letter parent number rule.ending,
      ways_group group letter parent number rules,
      member-append tail (tails rule.ending) (tails_of rules),
    )
    (sym (and-or_distrib_left (eqb group number) (member tail (tails rule.ending)) (member tail (tails_of rules))))

pub ways_beyond : (group letter : ℕ) (parent : List ℕ) (number : ℕ) (groups : List Group) → group < number
    → in_ways (node group (letter ∷ parent)) (ends number groups) ≡ false
unfolding ends in_ways
ways_beyond group letter parent number [] h = refl
ways_beyond group letter parent number (one ∷ groups) h =
    ways_append (node group (letter ∷ parent)) (map (λ rule. node number rule.ending) one.rules) (ends (suc number) groups)
    ∙ rw (ways_group group letter parent number one.rules, ne_eqb group number (λ e. omega arith))
    (ways_beyond group letter parent (suc number) groups (omega arith))
