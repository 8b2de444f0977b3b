-- The walk one step at a time, as a loop takes it.
use Rattle.std.specs.Prelude.{ℕ, zero, suc, ◌-◌, ◌<◌, ◌≤◌, ◌≡◌, refl, cond, List, [], ◌∷◌, ◌++◌, eqb, length, take, drop, get_or}
use Rattle.std.proofs.Common.{sym, ap, ◌∙◌, arith, take-append-drop, take-suc, drop-cons}
use Rattle.std.proofs.lemmas.List.{reverse-append}
use Rattle.std.proofs.Math.Option.{none, some}
use Rattle.std.proofs.Math.Seq.{drop-length}
use borrow.Author.Tests.{eq-eqb, ne_eqb}
use Rattle.paper.specs.Letters.{inward}
use Rattle.paper.specs.TestLaws.{by_test}
use Rattle.walks.specs.Walk.{Nodes, deepest, onward, reached, held}
use Rattle.walks.specs.DeepestLaws.{reached-nowhere}

-- ## The letters of a word, from the last inward

pub inward_last : (word : List ℕ) (left : ℕ) → 0 < left → left ≤ length word
    → inward (take left word) ≡ get_or word (left - 1) 0 ∷ inward (take (left - 1) word)
unfolding inward
inward_last word left more within =
    let counted : left ≡ suc (left - 1) = omega arith in
    let whole : take left word ≡ take (left - 1) word ++ get_or word (left - 1) 0 ∷ [] = ap (λ (n : ℕ). take n word) counted
    ∙ take-suc word (left - 1) 0 (omega arith) in
    rw (whole, reverse-append)

-- what the nodes below this one give
unfoldable pub below : Nodes → ℕ → List ℕ → ℕ
below nodes at [] = 0
below nodes at (one ∷ inner) = let next = nodes.child at one in cond (eqb next 0) 0 (deepest nodes next inner)

-- what a walk finds that goes on from this node, and found this rule so far
unfoldable pub or_found : Nodes → ℕ → ℕ → List ℕ → ℕ
or_found nodes at found inner = cond (eqb (below nodes at inner) 0) found (below nodes at inner)

pub deepest-start : (nodes : Nodes) (root : ℕ) (inner : List ℕ) → deepest nodes root inner ≡ or_found nodes root (nodes.rule root) inner
unfolding or_found below deepest
deepest-start nodes root [] = refl
deepest-start nodes root (one ∷ inner) = refl

deepest-missing : (nodes : Nodes) (at found one : ℕ) (inner : List ℕ)
    → nodes.child at one ≡ 0 → or_found nodes at found (one ∷ inner) ≡ found
unfolding or_found below
deepest-missing nodes at found one inner e = rw e

-- the node below holds no rule, or another one is found
deepest_on : (nodes : Nodes) (at found one : ℕ) (inner : List ℕ) → (nodes.child at one ≡ 0 → ⊥)
    → or_found nodes at found (one ∷ inner) ≡ or_found nodes (nodes.child at one)
    (cond (eqb (nodes.rule (nodes.child at one)) 0) found (nodes.rule (nodes.child at one))) inner
unfolding or_found below
deepest_on nodes at found one inner e =
    let next = nodes.child at one in
    let deep = below nodes next inner in
    let there : deepest nodes next inner ≡ cond (eqb deep 0) (nodes.rule next) deep = deepest-start nodes next inner in
    rw (ne_eqb next 0 e, there)
    (by_test (eqb deep 0) (λ p. rw p) (λ p. rw (p, p)))

pub word_over : (nodes : Nodes) (word : List ℕ) (at found left : ℕ) → left ≤ 0 → or_found nodes at found (inward (take left word)) ≡ found
unfolding or_found below inward
word_over nodes word at found zero h = refl
word_over nodes word at found (suc left) h = absurd (omega arith)

-- One step of a walk over letters, of which the first `left` are still to come: it goes on with the last of these, to the
-- child of the node at hand
pub record LetterStep (nodes : Nodes) (letters : List ℕ) (at left one next : ℕ) : Type 0 where
  pub more : 0 < left
  pub within : left ≤ length letters
  pub last : one ≡ get_or letters (left - 1) 0
  pub stepped : next ≡ nodes.child at one

-- ## One step over a word

module _ {nodes : Nodes} {word : List ℕ} {at left one next : ℕ} (step : LetterStep nodes word at left one next) (found : ℕ) where
  one_less : inward (take left word) ≡ one ∷ inward (take (left - 1) word)
  one_less = inward_last word left step.more step.within ∙ rw step.last

  pub step-missing : next ≡ 0 → or_found nodes at found (inward (take left word)) ≡ found
  step-missing e = rw one_less (deepest-missing nodes at found one (inward (take (left - 1) word)) (sym step.stepped ∙ e))

  step_on : (next ≡ 0 → ⊥) → or_found nodes at found (inward (take left word))
      ≡ or_found nodes next (cond (eqb (nodes.rule next) 0) found (nodes.rule next)) (inward (take (left - 1) word))
  step_on e =
      rw (one_less, step.stepped) (deepest_on nodes at found one (inward (take (left - 1) word)) (λ z. e (step.stepped ∙ z)))

  pub step_holding : (rule : ℕ) → rule ≡ nodes.rule next → (next ≡ 0 → ⊥) → (rule ≡ 0 → ⊥)
      → or_found nodes at found (inward (take left word)) ≡ or_found nodes next rule (inward (take (left - 1) word))
  step_holding rule read e a_rule = step_on e ∙ rw (← read, ne_eqb rule 0 a_rule)

  pub step-empty : (rule : ℕ) → rule ≡ nodes.rule next → (next ≡ 0 → ⊥) → rule ≡ 0
      → or_found nodes at found (inward (take left word)) ≡ or_found nodes next found (inward (take (left - 1) word))
  step-empty rule read e no_rule_lem = step_on e ∙ rw (← read, eq-eqb rule 0 no_rule_lem)

-- ## One step along the letters of an ending, of which those from `left` on are passed

module _ {nodes : Nodes} {ending : List ℕ} {at left one next : ℕ} (step : LetterStep nodes ending at left one next) (root : ℕ)
    (there : reached nodes root (drop left ending) ≡ some at) where
  one_more : drop (left - 1) ending ≡ one ∷ drop left ending
  one_more =
      let more = step.more in
      let within = step.within in
      let counted : suc (left - 1) ≡ left = omega arith in
      drop-cons ending (left - 1) 0 (omega arith) ∙ rw (counted, step.last)

  pub reached_on : (next ≡ 0 → ⊥) → reached nodes root (drop (left - 1) ending) ≡ some next
  unfolding reached onward
  reached_on e = rw one_more (rw (there, onward, ← step.stepped, ne_eqb next 0 e))

  pub reached_end : next ≡ 0 → reached nodes root (drop (left - 1) ending) ≡ none
  unfolding reached onward
  reached_end e = rw one_more (rw (there, onward, ← step.stepped, eq-eqb next 0 e))

pub reached_root : (nodes : Nodes) (root : ℕ) (ending : List ℕ) → reached nodes root (drop (length ending) ending) ≡ some root
unfolding reached
reached_root nodes root ending = rw drop-length

pub held_nowhere : (nodes : Nodes) (root : ℕ) (ending : List ℕ) (left : ℕ) → reached nodes root (drop left ending) ≡ none
    → held nodes (reached nodes root ending) ≡ 0
unfolding held
held_nowhere nodes root ending left e =
    let whole = reached-nowhere nodes root (take left ending) (drop left ending) e in
    rw (rw (take-append-drop left ending) at whole)

pub held_reached : (nodes : Nodes) (root : ℕ) (ending : List ℕ) (at left : ℕ) → left ≤ 0 → reached nodes root (drop left ending) ≡ some at
    → nodes.rule at ≡ held nodes (reached nodes root ending)
unfolding held
held_reached nodes root ending at zero h e = rw e
held_reached nodes root ending at (suc left) h e = absurd (omega arith)
