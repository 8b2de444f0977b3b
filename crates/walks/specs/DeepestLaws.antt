-- The deepest node passed that holds a rule: the walk finds what the longest tail of the word that holds one holds.
use Rattle.std.specs.Prelude.{ℕ, ◌≡◌, true, false, cond, eqb}
use Rattle.std.proofs.Math.Path.{refl, sym, ap}
use Rattle.std.proofs.Common.{◌∙◌}
use mathlib.Core.List.{List, [], ◌∷◌, ◌++◌, reverse, reverse_aux, reverse_aux-eq, reverse-reverse}
use Rattle.std.proofs.Math.Option.{none, some}
use borrow.Author.Tests.{eqb-true}
use Rattle.paper.specs.Letters.{inward}
use Rattle.walks.specs.Walk.{Nodes, deepest, onward, reached, held}
use Rattle.paper.specs.TestLaws.{by_test}

-- the first number that is not 0, of the word's tails from the longest on
unfoldable pub longest_in : (List ℕ → ℕ) → List ℕ → ℕ
longest_in h [] = h []
longest_in h (letter ∷ rest) = cond (eqb (h (letter ∷ rest)) 0) (longest_in h rest) (h (letter ∷ rest))

pub longest_cong : (f g : List ℕ → ℕ) → ((tail : List ℕ) → f tail ≡ g tail) → (word : List ℕ) → longest_in f word ≡ longest_in g word
unfolding longest_in
longest_cong f g e [] = e []
longest_cong f g e (letter ∷ rest) = rw (e (letter ∷ rest), longest_cong f g e rest)

-- the same, of the tails that are shorter than this one
unfoldable pub shorter_in : (List ℕ → ℕ) → List ℕ → ℕ
shorter_in h [] = 0
shorter_in h (letter ∷ rest) = longest_in h rest

pub longest_here : (h : List ℕ → ℕ) (tail : List ℕ) → longest_in h tail ≡ cond (eqb (h tail) 0) (shorter_in h tail) (h tail)
unfolding longest_in shorter_in
longest_here h [] = by_test (eqb (h []) 0) (λ p. rw p (eqb-true (h []) 0 p)) (λ p. rw p)
longest_here h (letter ∷ rest) = refl

-- where no tail that goes on from this one holds a rule, the shorter ones decide
pub longest-past : (h : List ℕ → ℕ) (inner tail : List ℕ) → ((more : List ℕ) → h (reverse_aux more tail) ≡ 0)
    → longest_in h (reverse_aux inner tail) ≡ shorter_in h tail
unfolding longest_in shorter_in
longest-past h [] tail e = longest_here h tail ∙ rw (e [])
longest-past h (letter ∷ inner) tail e =
    longest-past h inner (letter ∷ tail) (λ more. e (letter ∷ more)) ∙ longest_here h tail ∙ rw (e [])

-- no longer path exists where this one does not
pub reached-nowhere :
    (nodes : Nodes) (root : ℕ) (front tail : List ℕ) → reached nodes root tail ≡ none → reached nodes root (front ++ tail) ≡ none
unfolding reached onward
reached-nowhere nodes root [] tail e = e
reached-nowhere nodes root (one ∷ front) tail e = rw (reached-nowhere nodes root front tail e)

module _ (nodes : Nodes) (root : ℕ) where
  held_by : List ℕ → ℕ
  held_by tail = held nodes (reached nodes root tail)

  held_at : (tail : List ℕ) (at : ℕ) → reached nodes root tail ≡ some at
      → longest_in held_by tail ≡ cond (eqb (nodes.rule at) 0) (shorter_in held_by tail) (nodes.rule at)
  unfolding held held_by
  held_at tail at e =
      let here : held_by tail ≡ nodes.rule at = rw e in
      longest_here held_by tail ∙ rw here

  child_missing : (letter : ℕ) (tail : List ℕ) (at : ℕ) → reached nodes root tail ≡ some at → eqb (nodes.child at letter) 0 ≡ true
      → reached nodes root (letter ∷ tail) ≡ none
  unfolding reached onward
  child_missing letter tail at e p = rw (e, onward, p)

  child_there : (letter : ℕ) (tail : List ℕ) (at : ℕ) → reached nodes root tail ≡ some at → eqb (nodes.child at letter) 0 ≡ false
      → reached nodes root (letter ∷ tail) ≡ some (nodes.child at letter)
  unfolding reached onward
  child_there letter tail at e p = rw (e, onward, p)

  deepest_from : (inner tail : List ℕ) (at : ℕ) → reached nodes root tail ≡ some at
      → longest_in held_by (reverse_aux inner tail) ≡ cond (eqb (deepest nodes at inner) 0) (shorter_in held_by tail) (deepest nodes at inner)
  unfolding deepest held held_by shorter_in
  deepest_from [] tail at e = held_at tail at e
  deepest_from (letter ∷ inner) tail at e =
      by_test (eqb (nodes.child at letter) 0)
      (λ p.
      let missing = child_missing letter tail at e p in
      let nowhere : (more : List ℕ) → reached nodes root (reverse_aux more (letter ∷ tail)) ≡ none
      = λ more. ap (reached nodes root) (reverse_aux-eq more (letter ∷ tail)) ∙ reached-nowhere nodes root (reverse more) _ missing in
      let past = longest-past held_by inner (letter ∷ tail) (λ more. ap (held nodes) (nowhere more)) in
      rw p (past ∙ held_at tail at e))
      (λ p.
      let deeper = deepest_from inner (letter ∷ tail) (nodes.child at letter) (child_there letter tail at e p) in
      rw p (deeper ∙ by_test (eqb (deepest nodes (nodes.child at letter) inner) 0)
      (λ q. rw q (held_at tail at e))
      (λ q. rw (q, q))))

  pub deepest-longest : (word : List ℕ) → deepest nodes root (inward word) ≡ longest_in (λ tail. held nodes (reached nodes root tail)) word
  unfolding inward reached shorter_in held_by
  deepest-longest word =
      let whole = deepest_from (reverse word) [] root refl in
      let turned = rw (reverse-reverse word) at whole in
      by_test (eqb (deepest nodes root (reverse word)) 0)
      (λ p. eqb-true (deepest nodes root (reverse word)) 0 p ∙ sym (rw p at turned))
      (λ p. sym (rw p at turned))
