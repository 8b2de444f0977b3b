-- The table has four numbers for each node that the node count counts.
use Rattle.std.specs.Prelude.{ℕ, suc, ◌+◌, ◌*◌, ◌≤◌, ◌≡◌, refl, true, false, cond, List, [], ◌∷◌, ◌++◌, map, length}
use Rattle.std.proofs.Common.{sym, ap, ◌∙◌, append_assoc, le_refl, arith, length-append, ne_eqb, eq-eqb}
use Rattle.std.proofs.Math.Bool.{or-false, or_comm}
use Rattle.paper.specs.Groups.{Rule, Group, same}
use Rattle.paper.specs.Nodes.{tails, member, distinct, node_count}
use Rattle.siblings.specs.Layout.{present, roots, way, added, grown, nodes_of, table_of}
use Rattle.walks.specs.Ends.{Node, node, ends}
use Rattle.paper.specs.TestLaws.{by_test}
use Rattle.paper.specs.GroupsLaws.{same_equal}
use Rattle.paper.specs.MemberLaws.{member-append, Alike, swapped, distinct_alike}
use Rattle.siblings.specs.GrownLaws.{present-added, present-grown, present_way}
use Rattle.siblings.specs.WaysLaws.{ways_group}
use Rattle.paper.specs.DistinctLaws.{ascending, ascending_of, distinct_rules}
use Rattle.siblings.specs.ChainLaws.{rows_length}
use Rattle.siblings.specs.LayoutFaithful.{roots_no_tail}

-- the tails seen are those that have nodes in this group
abbrev Agree : ℕ → List Node → List (List ℕ) → Type 0
Agree group nodes seen = (letter : ℕ) (parent : List ℕ) → present (node group (letter ∷ parent)) nodes ≡ member (letter ∷ parent) seen

-- ## Added on the way to one ending

member-ascending : (tail ending : List ℕ) → member tail (ascending ending) ≡ member tail (tails ending)
unfolding ascending tails member
member-ascending tail [] = refl
member-ascending tail (letter ∷ parent) =
    member-append tail (ascending parent) ((letter ∷ parent) ∷ [])
    ∙ rw (member-ascending tail parent, or-false (same tail (letter ∷ parent)))
    (or_comm (member tail (tails parent)) (same tail (letter ∷ parent)))

way_agrees : (group : ℕ) (ending : List ℕ) (nodes : List Node) (seen : List (List ℕ)) → Agree group nodes seen
    → Agree group (added nodes (way group ending)) (ascending ending ++ seen)
way_agrees group ending nodes seen agree letter parent =
    present-added (node group (letter ∷ parent)) nodes (way group ending)
    ∙ rw (
      agree letter parent,
      present_way group letter parent group ending,
      eq-eqb group group refl,
      member-append (letter ∷ parent) (ascending ending) seen,
      member-ascending (letter ∷ parent) ending,
    )
    (or_comm (member (letter ∷ parent) seen) (member (letter ∷ parent) (tails ending)))

-- one more tail is seen, wherever it stands
seen_behind : (one : List ℕ) (left right : List (List ℕ)) → Alike ((left ++ one ∷ []) ++ right) (one ∷ left ++ right)
seen_behind one left right = rw (append_assoc left (one ∷ []) right) (swapped one left right)

pub added_last : (nodes new : List Node) (one : Node)
    → added nodes (new ++ one ∷ []) ≡ cond (present one (added nodes new)) (added nodes new) (added nodes new ++ one ∷ [])
unfolding added
added_last nodes [] one = refl
added_last nodes (first ∷ new) one = added_last (cond (present first nodes) nodes (nodes ++ first ∷ [])) new one

last_length : (whole : List ℕ) (last : Node) (nodes : List Node) (left seen more : List (List ℕ))
    → length (cond (member whole (left ++ seen)) nodes (nodes ++ last ∷ [])) + distinct ((left ++ whole ∷ []) ++ seen) more
    ≡ length nodes + distinct (left ++ seen) (whole ∷ more)
unfolding distinct member
last_length whole last nodes left seen more =
    by_test (member whole (left ++ seen))
    (λ p. rw p (ap (λ (n : ℕ). length nodes + n) (distinct_alike ((left ++ whole ∷ []) ++ seen) (left ++ seen) (known p) more)))
    (λ p.
    let counted = distinct_alike ((left ++ whole ∷ []) ++ seen) (whole ∷ left ++ seen) (seen_behind whole left seen) more in
    rw p (omega (arith, length-append nodes (last ∷ []))))
  where
    known : member whole (left ++ seen) ≡ true → Alike ((left ++ whole ∷ []) ++ seen) (left ++ seen)
    known p tail =
        seen_behind whole left seen tail
        ∙ by_test (same tail whole) (λ q. rw q (sym (ap (λ (t : List ℕ). member t (left ++ seen)) (same_equal tail whole q) ∙ p))) (λ q. rw q)

way_length : (group : ℕ) (ending : List ℕ) (nodes : List Node) (seen more : List (List ℕ)) → Agree group nodes seen
    → length (added nodes (way group ending)) + distinct (ascending ending ++ seen) more ≡ length nodes + distinct seen
    (ascending ending ++ more)
unfolding way added ascending
way_length group [] nodes seen more agree = refl
way_length group (letter ∷ parent) nodes seen more agree =
    let whole = letter ∷ parent in
    let last = node group whole in
    let rest = way_length group parent nodes seen (whole ∷ more) agree in
    rw (
      added_last nodes (way group parent) last,
      way_agrees group parent nodes seen agree letter parent,
      append_assoc (ascending parent) (whole ∷ []) more,
    )
    (last_length whole last (added nodes (way group parent)) (ascending parent) seen more ∙ rest)

-- ## Added for the rules of a group

rules_length : (group : ℕ) (rules : List Rule) (nodes : List Node) (seen : List (List ℕ)) → Agree group nodes seen
    → length (grown nodes (map (λ rule. node group rule.ending) rules)) ≡ length nodes + distinct seen (ascending_of rules)
unfolding grown ascending_of distinct
rules_length group [] nodes seen agree = omega arith
rules_length group (rule ∷ rules) nodes seen agree =
    rules_length group rules (added nodes (way group rule.ending)) (ascending rule.ending ++ seen)
    (way_agrees group rule.ending nodes seen agree)
    ∙ way_length group rule.ending nodes seen (ascending_of rules) agree

-- ## Added for all groups

grown-append : (nodes left right : List Node) → grown nodes (left ++ right) ≡ grown (grown nodes left) right
unfolding grown
grown-append nodes [] right = refl
grown-append nodes (end ∷ left) right = grown-append (added nodes (way end.group end.tail)) left right

groups_length : (number : ℕ) (groups : List Group) (nodes : List Node)
    → ((group : ℕ) → number ≤ group → (letter : ℕ) (parent : List ℕ) → present (node group (letter ∷ parent)) nodes ≡ false)
    → length (grown nodes (ends number groups)) + length groups ≡ length nodes + node_count groups
unfolding ends grown node_count member
groups_length number [] nodes none = refl
groups_length number (group ∷ groups) nodes none =
    let own = map (λ rule. node number rule.ending) group.rules in
    let here = rules_length number group.rules nodes [] (none number (le_refl number)) in
    let counted = distinct_rules [] group.rules in
    let rest = groups_length (suc number) groups (grown nodes own) (λ one h letter parent.
    present-grown (node one (letter ∷ parent)) nodes own
    ∙ rw (
      none one (omega arith) letter parent,
      ways_group one letter parent number group.rules,
      ne_eqb one number
          (λ e. omega arith),
    )) in
    rw (grown-append nodes own (ends (suc number) groups)) (omega arith)

pub roots_length : (number : ℕ) (groups : List Group) → length (roots number groups) ≡ length groups
unfolding roots
roots_length number [] = refl
roots_length number (group ∷ groups) = ap suc (roots_length (suc number) groups)

pub nodes_length : (groups : List Group) → length (nodes_of groups) ≡ node_count groups
unfolding nodes_of
nodes_length groups =
    let all = groups_length 0 groups (roots 0 groups) (λ group h letter parent. roots_no_tail group letter parent 0 groups) in
    omega (arith, roots_length 0 groups)

-- "The node count" that a check returns is the length of what a translation writes, in nodes of four numbers
pub table-length : (groups : List Group) → length (table_of groups) ≡ 4 * node_count groups
unfolding table_of
table-length groups = rows_length (nodes_of groups) (ends 0 groups) 0 (nodes_of groups) ∙ rw (nodes_length groups)
