-- Which nodes the rules add.
use Rattle.std.specs.Prelude.{ℕ, ◌≡◌, Bool, false, cond, ◌&&◌, ◌||◌, List, [], ◌∷◌, ◌++◌, eqb}
use Rattle.std.proofs.Common.{sym, ap, ◌∙◌, append_assoc, append-nil}
use Rattle.std.proofs.Math.Bool.{or_assoc, or_comm, or-false, and-or_distrib_left, and-false}
use Rattle.paper.specs.Groups.{same}
use Rattle.paper.specs.Nodes.{tails, member}
use Rattle.siblings.specs.Layout.{present, way, added, grown}
use Rattle.walks.specs.Ends.{Node, node, same_node}
use Rattle.paper.specs.TestLaws.{by_test}
use Rattle.walks.specs.EndsLaws.{same_node_eq}
use Rattle.siblings.specs.PresentLaws.{present-append}

-- a node is on the way to one of these
unfoldable pub in_ways : Node → List Node → Bool
in_ways one [] = false
in_ways one (end ∷ more) = present one (way end.group end.tail) || in_ways one more

pub present_new : (one new : Node) (nodes : List Node)
    → present one (cond (present new nodes) nodes (nodes ++ new ∷ [])) ≡ (present one nodes || same_node one new)
unfolding present
present_new one new nodes =
    by_test (present new nodes)
    (λ p. rw p
    (by_test (same_node one new)
    (λ q. rw (same_node_eq one new q) (rw p))
    (λ q. rw (q, or-false))))
    (λ p. rw (p, present-append one nodes (new ∷ []), or-false (same_node one new)))

pub present-added : (one : Node) (nodes new : List Node) → present one (added nodes new) ≡ (present one nodes || present one new)
unfolding added present
present-added one nodes [] = sym (or-false (present one nodes))
present-added one nodes (new ∷ more) =
    present-added one (cond (present new nodes) nodes (nodes ++ new ∷ [])) more ∙ rw (present_new one new nodes, or_assoc)

pub present-grown : (one : Node) (nodes ends : List Node) → present one (grown nodes ends) ≡ (present one nodes || in_ways one ends)
unfolding grown in_ways
present-grown one nodes [] = sym (or-false (present one nodes))
present-grown one nodes (end ∷ more) =
    present-grown one (added nodes (way end.group end.tail)) more
    ∙ rw (present-added one nodes (way end.group end.tail), or_assoc)

-- the nodes on the way are the tails of the ending
pub present_way : (group letter : ℕ) (parent : List ℕ) (number : ℕ) (ending : List ℕ)
    → present (node group (letter ∷ parent)) (way number ending) ≡ (eqb group number && member (letter ∷ parent) (tails ending))
unfolding way present tails member same_node
present_way group letter parent number [] = sym (and-false (eqb group number))
present_way group letter parent number (one ∷ rest) =
    let tail = letter ∷ parent in
    let last = eqb group number && same tail (one ∷ rest) in
    present-append (node group tail) (way number rest) (node number (one ∷ rest) ∷ [])
    ∙ rw (present_way group letter parent number rest, or-false last, or_comm (eqb group number && member tail (tails rest)) last)
    (sym (and-or_distrib_left (eqb group number) (same tail (one ∷ rest)) (member tail (tails rest))))

-- what is added comes after what was there
pub record Extended (nodes more : List Node) : Type 0 where
  pub extra : List Node
  pub after : more ≡ nodes ++ extra

pub added_extends : (nodes new : List Node) → Extended nodes (added nodes new)
unfolding added
added_extends nodes [] = record { extra = []; after = sym (append-nil nodes) }
added_extends nodes (new ∷ more) =
    by_test (present new nodes)
    (λ p. rw p (added_extends nodes more))
    (λ p.
    let rest = added_extends (nodes ++ new ∷ []) more in
    rw p (record { extra = new ∷ rest.extra; after = rest.after ∙ append_assoc nodes (new ∷ []) rest.extra }))

pub grown_extends : (nodes ends : List Node) → Extended nodes (grown nodes ends)
unfolding grown
grown_extends nodes [] = record { extra = []; after = sym (append-nil nodes) }
grown_extends nodes (end ∷ more) =
    let first = added_extends nodes (way end.group end.tail) in
    let rest = grown_extends (added nodes (way end.group end.tail)) more in
    record {
      extra = first.extra ++ rest.extra;
      after = rest.after
          ∙ ap (λ (list : List Node). list ++ rest.extra) first.after
          ∙ append_assoc nodes first.extra rest.extra;
    }
