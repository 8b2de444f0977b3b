-- Which rules a group chooses for a word, over any rule list: the word's tails are tried from the longest on, and the first
-- that is an ending of the group decides.
use Rattle.std.specs.Prelude.{ℕ, suc, ◌<◌, ◌≡◌, refl, Bool, true, ◌&&◌, eqb, length}
use Rattle.std.proofs.Common.{ap, arith, eqb-true, eq-eqb}
use mathlib.Core.List.{List, [], ◌∷◌, Memᴰ}
use Rattle.paper.specs.Groups.{Rule, same, ends_with, which, fitting, longest, chosen}
use Rattle.paper.specs.Numbered.{number_of, first_with}
use Rattle.paper.specs.TestLaws.{by_test, and_parts, and_both, test_ext}
use Rattle.paper.specs.GroupsLaws.{same_equal, equal_same, ending_short, ends_itself, ends_whole, ends_empty, ends_rest}
use Rattle.paper.specs.ReadingLaws.{which_in, in_which, which_cong, which-which, longest_of, longest_at_most}
use Rattle.paper.specs.NumberedLaws.{number_none}

-- a rule with this ending stands in the group
rule_with_lem :
    (k : ℕ) (rules : List Rule) (s1 : List ℕ)
    → (first_with k rules s1 ≡ 0 → ⊥)
    → (rule : Rule) × Memᴰ rule rules × (rule.ending ≡ s1)
unfolding first_with number_of
rule_with_lem k [] s1 some = absurd (some refl)
rule_with_lem k (rule ∷ rules) s1 some =
    by_test (same rule.ending s1) (λ p. (rule, Memᴰ.head refl, same_equal rule.ending s1 p))
    (λ p. let later = rule_with_lem (suc k) rules s1 (rw p at some) in (later.0, Memᴰ.tail later.1, later.2))

-- Where the whole word is an ending of the group, the rules with that ending are chosen
pub chosen_whole :
    (k : ℕ) (rules : List Rule) (word : List ℕ)
    → (first_with k rules word ≡ 0 → ⊥)
    → chosen word rules ≡ which (λ rule. same rule.ending word) rules
unfolding chosen fitting
chosen_whole k rules word some =
    rw (which-which, exact) (which_cong _ _ (λ rule. test_ext _ _ (there rule) (back rule)) rules)
  where
    ends : Rule → Bool
    ends rule = ends_with word rule.ending

    long : Rule → Bool
    long rule = eqb (length rule.ending) (length word)

    exact : longest (which ends rules) ≡ length word
    exact =
        let one = rule_with_lem k rules word some in
        let most = longest_at_most (which ends rules) (length word)
        (λ rule m. ending_short word rule.ending (which_in ends rules m).1) in
        let least = longest_of (which ends rules) (in_which ends rules one.1 (rw one.2 (ends_itself word))) in
        omega (arith, ap length one.2)

    there : (rule : Rule) → (ends rule && long rule) ≡ true → same rule.ending word ≡ true
    there rule p =
        let both = and_parts (ends rule) (long rule) p in
        equal_same (ends_whole word rule.ending both.0 (eqb-true _ _ both.1))

    back : (rule : Rule) → same rule.ending word ≡ true → (ends rule && long rule) ≡ true
    back rule p =
        let is = same_equal rule.ending word p in
        rw is (and_both (ends_itself word) (eq-eqb (length word) (length word) refl))

-- Where it is none, the rules are those that the rest of the word chooses
pub fitting_rest : (k : ℕ) (rules : List Rule) (letter : ℕ) (rest : List ℕ) → 0 < k → first_with k rules (letter ∷ rest) ≡ 0
    → fitting (letter ∷ rest) rules ≡ fitting rest rules
unfolding fitting which first_with number_of
fitting_rest k [] letter rest h e = refl
fitting_rest k (rule ∷ rules) letter rest h e =
    let p = number_none (λ rule. same rule.ending (letter ∷ rest)) k rule rules h e in
    rw (ends_rest letter rest rule.ending p, fitting_rest (suc k) rules letter rest (omega arith) (rw p at e))

pub chosen_rest : (k : ℕ) (rules : List Rule) (letter : ℕ) (rest : List ℕ) → 0 < k → first_with k rules (letter ∷ rest) ≡ 0
    → chosen (letter ∷ rest) rules ≡ chosen rest rules
unfolding chosen
chosen_rest k rules letter rest h e = rw (fitting_rest k rules letter rest h e)

pub fitting_none : (k : ℕ) (rules : List Rule) → 0 < k → first_with k rules [] ≡ 0 → fitting [] rules ≡ []
unfolding fitting which first_with number_of
fitting_none k [] h e = refl
fitting_none k (rule ∷ rules) h e =
    let p = number_none (λ rule. same rule.ending []) k rule rules h e in
    rw (ends_empty rule.ending, p, fitting_none (suc k) rules (omega arith) (rw p at e))

pub chosen_none : (k : ℕ) (rules : List Rule) → 0 < k → first_with k rules [] ≡ 0 → chosen [] rules ≡ []
unfolding chosen which
chosen_none k rules h e = rw (fitting_none k rules h e)
