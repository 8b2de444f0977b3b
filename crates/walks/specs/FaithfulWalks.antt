-- Nodes that are faithful to groups are walked as the groups are read.
use Rattle.std.specs.Prelude.{ℕ, suc, ◌+◌, ◌-◌, ◌≤◌, ◌<◌, ◌≡◌, refl, false, List, [], ◌∷◌, map, eqb, length, drop}
use Rattle.std.proofs.Common.{sym, ap, ap₂, ◌∙◌, arith, lit<, eqb-true, eq-eqb}
use Rattle.std.proofs.Math.Path.{fun_ext}
use Rattle.std.proofs.Math.Option.{Option}
use Rattle.std.proofs.Math.Nat.{sub_self}
use Rattle.std.proofs.lemmas.Bool.{eqb-false}
use Rattle.paper.specs.Letters.{inward}
use Rattle.paper.specs.Groups.{Rule, Group, same, which, first, chosen, obeyed, Turn, read_turn, through}
use Rattle.paper.specs.Words.{read_word}
use Rattle.paper.specs.Numbered.{number_of, first_with}
use Rattle.walks.specs.Walk.{Nodes, deepest, reached, held, walked, walk_turns, walk_word}
use Rattle.walks.specs.Faithful.{FaithfulGroup, FaithfulFrom, Faithful}
use Rattle.paper.specs.TestLaws.{by_test, test_ext}
use Rattle.paper.specs.GroupsLaws.{same_equal, equal_same}
use Rattle.paper.specs.NumberedLaws.{number_least}
use Rattle.paper.specs.ReadingLaws.{which_cong}
use Rattle.paper.specs.ChosenLaws.{chosen_whole, chosen_rest, chosen_none}
use Rattle.walks.specs.DeepestLaws.{longest_in, longest_cong, deepest-longest}

-- ## Two endings with one first rule are one ending

first_one : (k : ℕ) (rules : List Rule) (s1 other : List ℕ) → (first_with k rules s1 ≡ 0 → ⊥)
    → first_with k rules s1 ≡ first_with k rules other → other ≡ s1
unfolding first_with number_of
first_one k [] s1 other e q = absurd (e refl)
first_one k (rule ∷ rules) s1 other e q =
    by_test (same rule.ending s1)
    (λ p. by_test (same rule.ending other)
    (λ r. sym (same_equal rule.ending other r) ∙ same_equal rule.ending s1 p)
    (λ r.
    let here : k ≡ first_with (suc k) rules other = rw (p, r) at q in
    let some : k ≡ 0 → ⊥ = rw p at e in
    let late = number_least (λ rule. same rule.ending other) (suc k) rules (λ z. some (here ∙ z)) in
    absurd (omega arith)))
    (λ p. by_test (same rule.ending other)
    (λ r.
    let here : first_with (suc k) rules s1 ≡ k = rw (p, r) at q in
    let late = number_least (λ rule. same rule.ending s1) (suc k) rules (rw p at e) in
    absurd (omega arith))
    (λ r. first_one (suc k) rules s1 other (rw p at e) (rw (p, r) at q)))

pub first_same : (k : ℕ) (rules : List Rule) (s1 other : List ℕ) → (first_with k rules s1 ≡ 0 → ⊥)
    → same other s1 ≡ eqb (first_with k rules s1) (first_with k rules other)
first_same k rules s1 other e =
    test_ext _ _ (λ p. eq-eqb _ _ (ap (first_with k rules) (sym (same_equal other s1 p))))
    (λ p. equal_same (first_one k rules s1 other e (eqb-true _ _ p)))

-- No rule before the first has its ending
pub which_from : (k : ℕ) (rules : List Rule) (s1 : List ℕ) → (first_with k rules s1 ≡ 0 → ⊥)
    → which (λ rule. same rule.ending s1) rules ≡ which (λ rule. same rule.ending s1) (drop (first_with k rules s1 - k) rules)
unfolding first_with number_of which
which_from k [] s1 e = absurd (e refl)
which_from k (rule ∷ rules) s1 e =
    by_test (same rule.ending s1) (λ p. rw (p, sub_self) (rw p))
    (λ p.
    let some : first_with (suc k) rules s1 ≡ 0 → ⊥ = rw p at e in
    let late : suc k ≤ first_with (suc k) rules s1 = number_least (λ rule. same rule.ending s1) (suc k) rules some in
    let step : first_with (suc k) rules s1 - k ≡ suc (first_with (suc k) rules s1 - suc k) = omega arith in
    rw (p, step) (which_from (suc k) rules s1 some))

pub chosen_at : (k : ℕ) (rules : List Rule) (word : List ℕ) → (first_with k rules word ≡ 0 → ⊥)
    → chosen word rules
    ≡ which (λ rule. eqb (first_with k rules word) (first_with k rules rule.ending)) (drop (first_with k rules word - k) rules)
chosen_at k rules word e =
    chosen_whole k rules word e ∙ which_from k rules word e
    ∙ which_cong _ _ (λ rule. first_same k rules word rule.ending e) (drop (first_with k rules word - k) rules)

-- ## What the first ending among the word's tails, from the longest on, says of the rules chosen

pub none_chosen : (k : ℕ) (rules : List Rule) (word : List ℕ) → 0 < k → longest_in (first_with k rules) word ≡ 0 → chosen word rules ≡ []
unfolding longest_in
none_chosen k rules [] h e = chosen_none k rules h e
none_chosen k rules (letter ∷ rest) h e =
    by_test (eqb (first_with k rules (letter ∷ rest)) 0)
    (λ p. chosen_rest k rules letter rest h (eqb-true _ 0 p) ∙ none_chosen k rules rest h (rw p at e))
    (λ p. absurd (eqb-false _ 0 p (rw p at e)))

pub some_chosen : (k : ℕ) (rules : List Rule) (word : List ℕ) → 0 < k → (longest_in (first_with k rules) word ≡ 0 → ⊥)
    → chosen word rules ≡ which (λ rule. eqb (longest_in (first_with k rules) word) (first_with k rules rule.ending))
    (drop (longest_in (first_with k rules) word - k) rules)
unfolding longest_in
some_chosen k rules [] h e = chosen_at k rules [] e
some_chosen k rules (letter ∷ rest) h e =
    by_test (eqb (first_with k rules (letter ∷ rest)) 0)
    (λ p. rw p (chosen_rest k rules letter rest h (eqb-true _ 0 p) ∙ some_chosen k rules rest h (rw p at e)))
    (λ p. rw p (chosen_at k rules (letter ∷ rest) (eqb-false _ 0 p)))

-- ## The walk of a group obeys the rule that reading it obeys

pub walked_obeyed :
    (nodes : Nodes) (root number : ℕ) (rules : List Rule)
    → 0 < number
    → FaithfulGroup nodes root number rules
    → (word : List ℕ)
    → walked nodes root number word rules ≡ obeyed word rules
unfolding walked obeyed first
walked_obeyed nodes root number rules h faithful word =
    let number_at = faithful.holding in
    let found = longest_in (first_with number rules) word in
    let from_found = drop (found - number) rules in
    let walks : deepest nodes root (inward word) ≡ found = deepest-longest nodes root word ∙ longest_cong _ _ number_at word in
    let one_ending : which (λ rule. eqb found (held nodes (reached nodes root rule.ending))) from_found
    ≡ which (λ rule. eqb found (first_with number rules rule.ending)) from_found
    = which_cong _ _ (λ rule. rw (number_at rule.ending)) from_found in
    rw walks
    (by_test (eqb found 0) (λ p. rw (p, none_chosen number rules word h (eqb-true found 0 p)))
    (λ p. rw (p, one_ending, some_chosen number rules word h (eqb-false found 0 p))))

-- ## So the groups are walked as they are read

pub faithful_turns :
    (nodes : Nodes) (root number : ℕ) (groups : List Group)
    → 0 < number
    → FaithfulFrom nodes root number groups
    → walk_turns nodes root number groups ≡ map read_turn groups
unfolding walk_turns FaithfulFrom
faithful_turns nodes root number [] h faithful = refl
faithful_turns nodes root number (group ∷ groups) h faithful =
    let here = fun_ext (walked_obeyed nodes root number group.rules h faithful.0) in
    ap₂ (λ (obeys : List ℕ → Option Rule) (later : List Turn). record { gate = group.gate; obeys = obeys } ∷ later) here
    (faithful_turns nodes (suc root) (number + length group.rules) groups (omega arith) faithful.1)

-- a word walked through nodes that are faithful to groups gives what reading the groups gives
pub faithful_walks_words : (nodes : Nodes) (groups : List Group) → Faithful nodes groups → (word : List ℕ)
    → walk_word nodes groups word ≡ read_word groups word
unfolding walk_word read_word Faithful
faithful_walks_words nodes groups faithful word =
    ap (λ (turns : List Turn). through (length word) turns false word) (faithful_turns nodes 0 1 groups (lit< tt) faithful)
