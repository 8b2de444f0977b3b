-- The nodes behind the roots are the children of all nodes, in their parents' order: below the last level of bounded groups there is
-- none.
use Rattle.std.specs.Prelude.{ℕ, zero, suc, ◌+◌, ◌≤◌, ◌≡◌, refl, true, length}
use Rattle.std.proofs.Common.{sym, ap, ◌∙◌, arith, length-append}
use mathlib.Core.List.{List, [], ◌∷◌, ◌++◌, map, append_assoc, append-nil}
use Rattle.paper.specs.Groups.{Group}
use Rattle.paper.specs.Nodes.{tails_of, member}
use Rattle.paper.specs.NumberedLaws.{Every}
use Rattle.paper.specs.TestLaws.{and_left, and_right, by_test}
use Rattle.sheets.specs.SheetBytes.{all_allowed, groups_allowed, bounded}
use Rattle.sheets.specs.ReadBack.{within}
use Rattle.levels.specs.Layout.{Node, node, alphabet, roots, standing, children, below, levels, nodes_of}
use Rattle.levels.specs.TailBounds.{Fit, fit_empty, member_fits}

-- ## Levels of any nodes

pub below-append : (a b : List Node) → below (a ++ b) ≡ below a ++ below b
unfolding below
below-append [] b = refl
below-append (one ∷ a) b = rw (below-append a b, append_assoc)

below-levels : (more : ℕ) (level : List Node) → below (levels more level) ≡ levels more (below level)
unfolding levels below
below-levels zero level = refl
below-levels (suc more) level = below-append level (levels more (below level)) ∙ rw (below-levels more (below level))

-- the level that stands so many levels below this one
unfoldable deeper : ℕ → List Node → List Node
deeper zero level = level
deeper (suc more) level = deeper more (below level)

levels_last : (more : ℕ) (level : List Node) → level ++ levels more (below level) ≡ levels more level ++ deeper more level
unfolding levels deeper
levels_last zero level = append-nil level
levels_last (suc more) level = ap (λ (later : List Node). level ++ later) (levels_last more (below level))
    ∙ sym (append_assoc level (levels more (below level)) (deeper more (below level)))

-- levels of more nodes side by side
pub levels-append : (n : ℕ) (a b : List Node) → length (levels n (a ++ b)) ≡ length (levels n a) + length (levels n b)
unfolding levels
levels-append zero a b = refl
levels-append (suc n) a b =
    let whole = length-append (a ++ b) (levels n (below a ++ below b)) in
    let first = length-append a (levels n (below a)) in
    let second = length-append b (levels n (below b)) in
    rw (below-append a b) (omega (arith, length-append a b, levels-append n (below a) (below b)))

pub levels_none : (n : ℕ) → levels n [] ≡ []
unfolding levels below
levels_none zero = refl
levels_none (suc n) = levels_none n

pub levels_one : (n : ℕ) (root : Node) → length (levels (suc n) (root ∷ [])) ≡ suc (length (levels n (below (root ∷ []))))
unfolding levels
levels_one n root = refl

-- ## What holds of children

every_join : (P : Node → Type 0) (front back : List Node) → Every P front → Every P back → Every P (front ++ back)
every_join P [] back first second = second
every_join P (one ∷ front) back first second = (first.0, every_join P front back first.1 second)

module _ (P Q : Node → Type 0)
    (passes : (one : Node) (letter : ℕ) → member (letter ∷ one.tail) (tails_of one.rules) ≡ true → P one
    → Q (node one.number one.rules (letter ∷ one.tail))) where
  every-standing : (one : Node) → P one → (letters : List ℕ)
      → Every Q (map (λ letter. node one.number one.rules (letter ∷ one.tail)) (standing one.rules one.tail letters))
  unfolding standing
  every-standing one is [] = tt
  every-standing one is (letter ∷ more) =
      by_test (member (letter ∷ one.tail) (tails_of one.rules))
      (λ stands. rw stands (passes one letter stands is, every-standing one is more))
      (λ stands. rw stands (every-standing one is more))

  -- what passes from a node to its children holds of the level below
  pub every-below : (level : List Node) → Every P level → Every Q (below level)
  unfolding below children
  every-below [] each = tt
  every-below (one ∷ level) each =
      every_join Q (children one) (below level) (every-standing one each.0 alphabet) (every-below level each.1)

-- ## The levels of bounded groups

-- a node of a bounded group, at least so many levels below its root
record Deep (depth : ℕ) (one : Node) : Type 0 where
  rules_allowed : all_allowed one.rules ≡ true
  fit : Fit one.tail
  long : depth ≤ length one.tail

one_deeper : (depth : ℕ) (one : Node) (letter : ℕ) → member (letter ∷ one.tail) (tails_of one.rules) ≡ true → Deep depth one
    → Deep (suc depth) (node one.number one.rules (letter ∷ one.tail))
one_deeper depth one letter stands is =
    let long = is.long in
    record {
      rules_allowed = is.rules_allowed;
      fit = member_fits one.rules is.rules_allowed (letter ∷ one.tail) stands;
      long = omega arith;
    }

-- an ending has at most 12 letters
too_deep : (depth : ℕ) (level : List Node) → 13 ≤ depth → Every (Deep depth) level → level ≡ []
too_deep depth [] end each = refl
too_deep depth (one ∷ level) end each = let is = each.0 in absurd (omega (arith, is.fit.short, is.long))

deep_end : (more depth : ℕ) (level : List Node) → 13 ≤ more + depth → Every (Deep depth) level → deeper more level ≡ []
unfolding deeper
deep_end zero depth level end each = too_deep depth level (omega arith) each
deep_end (suc more) depth level end each =
    deep_end more (suc depth) (below level) (omega arith)
    (every-below (Deep depth) (Deep (suc depth)) (one_deeper depth) level each)

deep_roots : (number : ℕ) (groups : List Group) → groups_allowed groups ≡ true → Every (Deep 0) (roots number groups)
unfolding roots groups_allowed
deep_roots number [] all = tt
deep_roots number (group ∷ groups) all =
    let rules = group.rules in (
      record { rules_allowed = and_left (all_allowed rules) (groups_allowed groups) all; fit = fit_empty; long = omega arith },
      deep_roots (number + length rules) groups (and_right (all_allowed rules) (groups_allowed groups) all),
    )

pub nodes_again : (groups : List Group) → bounded groups ≡ true → nodes_of groups ≡ roots 1 groups ++ below (nodes_of groups)
unfolding nodes_of
nodes_again groups all =
    let first = roots 1 groups in
    let end = deep_end 13 0 first (omega arith) (deep_roots 1 groups (within groups all).each) in
    sym (rw below-levels (levels_last 13 first ∙ rw (end, append-nil)))

pub roots_length : (number : ℕ) (groups : List Group) → length (roots number groups) ≡ length groups
unfolding roots
roots_length number [] = refl
roots_length number (group ∷ groups) = rw (roots_length (number + length group.rules) groups)
