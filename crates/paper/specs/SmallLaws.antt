-- When a stem is small letters, as its word is, over any rule list; and that it is by the shipped rules.
use Rattle.std.specs.Prelude.{ℕ, zero, suc, ◌-◌, ◌≡◌, refl, Bool, true, false, cond, ◌&&◌, List, [], ◌∷◌, map, leb, length, take}
use Rattle.std.proofs.Common.{◌∙◌}
use Rattle.std.proofs.Math.Option.{Option, none, some}
use Rattle.paper.specs.Groups.{Action, replace, single_letter, written, Rule, Group, done}
use Rattle.paper.specs.Groups.{before, obeyed, act, runs, read_turn, result, opens_next, Step, steps, reading}
use Rattle.paper.specs.TestLaws.{and_parts, and_both, by_test, apart}
use Rattle.paper.specs.ReadingLaws.{every, every_in, obeyed_first}
use Rattle.paper.specs.Shipped.{shipped}
use Rattle.paper.specs.Words.{read_word, stem, small, all_small}
use Rattle.paper.specs.WordsLaws.{all_small_append}

-- what a rule writes is small letters
unfoldable pub small_rule : Rule → Bool
small_rule rule = all_small (written rule.action)

unfoldable pub small_rules : List Group → Bool
small_rules [] = true
small_rules (group ∷ groups) = every small_rule group.rules && small_rules groups

pub take_small : (n : ℕ) (word : List ℕ) → all_small word ≡ true → all_small (take n word) ≡ true
unfolding all_small
take_small zero word all = refl
take_small (suc n) [] all = refl
take_small (suc n) (x ∷ word) all =
    let both = and_parts (small x) (all_small word) all in
    rw both.0 (take_small n word both.1)

act_small : (action : Action) (part : List ℕ) → all_small part ≡ true → all_small (written action) ≡ true → all_small (act action part) ≡ true
unfolding act
act_small (replace s2) part all also = all_small_append part s2 ∙ and_both all also
act_small single_letter part all also = take_small (length part - 1) part all

-- ## After each group
group_small : (word : List ℕ) (rules : List Rule) → every small_rule rules ≡ true → all_small word ≡ true
    → all_small (result word (obeyed word rules)) ≡ true
unfolding result before small_rule
group_small word rules writes all = go (obeyed word rules) refl
  where
    go : (choice : Option Rule) → obeyed word rules ≡ choice → all_small (result word choice) ≡ true
    go none is = all
    go (some one) is =
        act_small one.action (before word one.ending) (take_small (length word - length one.ending) word all)
        (every_in small_rule rules writes (obeyed_first word rules one is).chosen_one.stands)

-- after each step the word is small letters
abbrev EachSmall : List Step → Type 0
EachSmall [] = Unit {0}
EachSmall (step ∷ later) = (all_small step.word ≡ true) × EachSmall later

each_small : (groups : List Group) (opened : Bool) (word : List ℕ) → small_rules groups ≡ true → all_small word ≡ true
    → EachSmall (steps (map read_turn groups) opened word)
unfolding steps small_rules result
each_small [] opened word writes all = tt
each_small (group ∷ groups) opened word writes all =
    let both = and_parts (every small_rule group.rules) (small_rules groups) writes in
    let choice = cond (runs group.gate opened) (obeyed word group.rules) none in
    let left : all_small (result word choice) ≡ true =
    by_test (runs group.gate opened) (λ is. rw is (group_small word group.rules both.0 all)) (λ is-not. rw is-not all) in
    (left, each_small groups (opens_next choice) (result word choice) both.1 left)

done_small : (place : ℕ) (word : List ℕ) (given : List Step) (left : List ℕ) → all_small word ≡ true → EachSmall given
    → reading place word given ≡ done left → all_small left ≡ true
unfolding reading
done_small place word [] left all each is = let same : word ≡ left = cc in rw (← same) all
done_small place word (step ∷ later) left all each is =
    by_test (leb (length step.word) place) (λ fits. done_small place step.word later left each.0 each.1 (rw fits at is))
    (λ longer. let no = rw longer at is in apart (cc))

-- ## Every word
pub stem_small : (groups : List Group) → small_rules groups ≡ true → (word left : List ℕ) → all_small word ≡ true
    → stem groups word ≡ done left → all_small left ≡ true
unfolding stem read_word
stem_small groups writes word left all is =
    by_test (leb (length word) 2) (λ few. let own = rw few at is in let same : word ≡ left = cc in rw (← same) all)
    (λ many. done_small (length word) word _ left all (each_small groups false word writes all) (rw many at is))

pub shipped_small : small_rules shipped ≡ true
unfolding small_rules every small_rule all_small shipped
shipped_small = refl
