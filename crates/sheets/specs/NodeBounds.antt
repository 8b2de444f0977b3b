-- "at most 1,552": the node count of a bounded list of groups.
use Rattle.std.specs.Prelude.{ℕ, suc, ◌+◌, ◌*◌, ◌≤◌, ◌≡◌, refl, Bool, true, false, cond, List, [], ◌∷◌, length}
use Rattle.std.proofs.Common.{arith, length-append}
use Rattle.paper.specs.Groups.{Rule, Group}
use Rattle.paper.specs.Nodes.{tails, tails_of, member, distinct, node_count}
use Rattle.paper.specs.TestLaws.{and_left, and_right}
use Rattle.records.specs.RecordBytes.{allowed}
use Rattle.records.specs.WrittenRules.{bounds}
use Rattle.sheets.specs.SheetBytes.{all_allowed, groups_allowed, rule_count, bounded}
use Rattle.sheets.specs.ReadBack.{within}

one_more : (b : Bool) (n k l : ℕ) → k ≤ n → l ≤ n → cond b k (suc l) ≤ suc n
one_more true n k l first second = omega arith
one_more false n k l first second = omega arith

distinct_at_most : (seen ts : List (List ℕ)) → distinct seen ts ≤ length ts
unfolding distinct
distinct_at_most seen [] = omega arith
distinct_at_most seen (t ∷ ts) =
    one_more (member t seen) (length ts) (distinct seen ts) (distinct (t ∷ seen) ts) (distinct_at_most seen ts)
    (distinct_at_most (t ∷ seen) ts)

length-tails : (e : List ℕ) → length (tails e) ≡ length e
unfolding tails
length-tails [] = refl
length-tails (x ∷ e) = rw (length-tails e)

tails_at_most : (rules : List Rule) → all_allowed rules ≡ true → length (tails_of rules) ≤ 12 * length rules
unfolding tails_of all_allowed
tails_at_most [] all = omega arith
tails_at_most (rule ∷ rules) all =
    let here = (bounds rule (and_left (allowed rule) (all_allowed rules) all)).short_ending in
    let others = tails_at_most rules (and_right (allowed rule) (all_allowed rules) all) in
    omega (arith, length-append (tails rule.ending) (tails_of rules), length-tails rule.ending)

pub nodes_at_most : (groups : List Group) → groups_allowed groups ≡ true → node_count groups ≤ length groups + 12 * rule_count groups
unfolding node_count groups_allowed rule_count
nodes_at_most [] all = omega arith
nodes_at_most (group ∷ groups) all =
    let rules = group.rules in
    let here = tails_at_most rules (and_left (all_allowed rules) (groups_allowed groups) all) in
    let others = nodes_at_most groups (and_right (all_allowed rules) (groups_allowed groups) all) in
    omega (arith, distinct_at_most [] (tails_of rules))

pub at_most_1552 : (groups : List Group) → bounded groups ≡ true → node_count groups ≤ 1552
at_most_1552 groups all =
    let is = within groups all in
    omega (arith, is.at_most_16, is.at_most_128, nodes_at_most groups is.each)
