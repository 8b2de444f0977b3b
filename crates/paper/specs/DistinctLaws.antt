-- How many of a list of tails are distinct does not depend on their order.
use Rattle.std.specs.Prelude.{ℕ, ◌≡◌, refl, List, [], ◌∷◌, ◌++◌}
use Rattle.std.proofs.Common.{ap, ◌∙◌, append_assoc}
use Rattle.std.proofs.Math.Bool.{or-true}
use Rattle.paper.specs.Groups.{Rule, same}
use Rattle.paper.specs.Nodes.{tails, tails_of, member, distinct}
use Rattle.paper.specs.MemberLaws.{swapped, distinct_alike}
use Rattle.paper.specs.GroupsLaws.{same_sym}
use Rattle.paper.specs.TestLaws.{by_test}
use Rattle.paper.specs.GroupsLaws.{same_equal}

pub distinct-swap : (seen : List (List ℕ)) (one two : List ℕ) (list : List (List ℕ))
    → distinct seen (one ∷ two ∷ list) ≡ distinct seen (two ∷ one ∷ list)
unfolding distinct member
distinct-swap seen one two list =
    by_test (member one seen)
    (λ p. by_test (member two seen) (λ q. rw (p, q)) (λ q. rw (p, q, or-true)))
    (λ p. by_test (member two seen) (λ q. rw (p, q, or-true))
    (λ q. rw (p, q, same_sym two one) (by_test (same one two)
    (λ r. rw (r, same_equal one two r))
    (λ r. rw (r, distinct_alike (two ∷ one ∷ seen) (one ∷ two ∷ seen) (swapped one (two ∷ []) seen) list)))))

pub distinct_move : (seen before : List (List ℕ)) (one : List ℕ) (after : List (List ℕ))
    → distinct seen (before ++ one ∷ after) ≡ distinct seen (one ∷ before ++ after)
unfolding distinct
distinct_move seen [] one after = refl
distinct_move seen (first ∷ before) one after =
    rw (distinct_move seen before one after, distinct_move (first ∷ seen) before one after)
    (distinct-swap seen first one (before ++ after))

pub distinct_append : (left right : List (List ℕ)) → ((seen : List (List ℕ)) → distinct seen left ≡ distinct seen right)
    → (seen front : List (List ℕ)) → distinct seen (front ++ left) ≡ distinct seen (front ++ right)
unfolding distinct
distinct_append left right e seen [] = e seen
distinct_append left right e seen
    (one ∷ front) = rw (distinct_append left right e seen front, distinct_append left right e (one ∷ seen) front)

-- the tails of an ending, the shortest first
unfoldable pub ascending : List ℕ → List (List ℕ)
ascending [] = []
ascending (letter ∷ parent) = ascending parent ++ (letter ∷ parent) ∷ []

unfoldable pub ascending_of : List Rule → List (List ℕ)
ascending_of [] = []
ascending_of (rule ∷ rules) = ascending rule.ending ++ ascending_of rules

pub distinct-ascending : (seen : List (List ℕ)) (ending : List ℕ) (more : List (List ℕ))
    → distinct seen (ascending ending ++ more) ≡ distinct seen (tails ending ++ more)
unfolding ascending tails distinct
distinct-ascending seen [] more = refl
distinct-ascending seen (letter ∷ parent) more =
    let whole = letter ∷ parent in
    ap (distinct seen) (append_assoc (ascending parent) (whole ∷ []) more)
    ∙ distinct_move seen (ascending parent) whole more
    ∙ rw (distinct-ascending seen parent more, distinct-ascending (whole ∷ seen) parent more)

pub distinct_rules : (seen : List (List ℕ)) (rules : List Rule) → distinct seen (ascending_of rules) ≡ distinct seen (tails_of rules)
unfolding ascending_of tails_of
distinct_rules seen [] = refl
distinct_rules seen (rule ∷ rules) =
    distinct-ascending seen rule.ending (ascending_of rules)
    ∙ distinct_append (ascending_of rules) (tails_of rules) (λ known. distinct_rules known rules) seen (tails rule.ending)
