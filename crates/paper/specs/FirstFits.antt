-- Groups in which no ending is a tail of one that stands later: the first rule whose S1 the word ends with decides the group. And which
-- rules need not be looked at, by the last letters of a word. Over any rule list.
use Rattle.std.specs.Prelude.{ℕ, zero, suc, ◌+◌, ◌-◌, ◌≤◌, ◌<◌, ◌≡◌, refl, Bool, true, false, cond, not, ◌&&◌, List, [], ◌∷◌, reverse, leb, ltb, length, take, drop, get_or}
use Rattle.std.proofs.Common.{not-suc-le-zero, le_of_suc-le-suc, arith, ap, sym, ◌∙◌, true≢false, length-drop, get_or-drop, ne_eqb, ltb-true}
use Rattle.std.proofs.Math.Decide.{dec_lt}
use Rattle.std.proofs.lemmas.List.{reverse-append, length-reverse}
use Rattle.std.proofs.Math.Option.{none, some}
use Rattle.std.proofs.Math.ListN.{get_or-append}
use Rattle.paper.specs.Letters.{among, inward, letter_at}
use Rattle.paper.specs.TestLaws.{by_test, and_both, and_parts, or_right}
use Rattle.paper.specs.Groups.{Rule, replace, ends_with, before, which, first, fitting, chosen, obeyed}
use Rattle.paper.specs.GroupsLaws.{ends_split, ends_yes}
use Rattle.paper.specs.LettersLaws.{letter_at_index, letter_at_none}
use Rattle.paper.specs.ReadingLaws.{every, applies, same_fitting, obeys, obeys_size, obeys_ends, obeys_holds}
use Rattle.paper.specs.LongerFirst.{keeps_order, longer_first, longer_first_rest, ends_nested, first_fits, passed_by}

-- stands where a list of rules has none
abbrev pub no_rule : Rule
no_rule = record { condition = 0; ending = []; action = replace []; opens = false }

-- the later rule's ending does not end with this one's
unfoldable pub apart_from : Rule → Rule → Bool
apart_from rule later = not (ends_with later.ending rule.ending)

unfoldable pub decides : List Rule → Bool
decides [] = true
decides (rule ∷ rules) = every (apart_from rule) rules && decides rules

-- ## The first that ends the word decides

orders : (rule : Rule) (rules : List Rule) → every (apart_from rule) rules ≡ true → every (keeps_order rule) rules ≡ true
unfolding every apart_from keeps_order
orders rule [] all = refl
orders rule (later ∷ rules) all =
    let both = and_parts (not (ends_with later.ending rule.ending)) (every (apart_from rule) rules) all in
    and_both (or_right (leb (length later.ending) (length rule.ending)) _ both.0) (orders rule rules both.1)

decides_orders : (rules : List Rule) → decides rules ≡ true → longer_first rules ≡ true
unfolding decides longer_first
decides_orders [] all = refl
decides_orders (rule ∷ rules) all =
    let both = and_parts (every (apart_from rule) rules) (decides rules) all in
    and_both (orders rule rules both.0) (decides_orders rules both.1)

-- no later rule has the same ending
none_later : (word : List ℕ) (rule : Rule) (rules : List Rule)
    → every (apart_from rule) rules ≡ true
    → ends_with word rule.ending ≡ true
    → first (obeys word (length rule.ending)) rules ≡ none
unfolding first every apart_from
none_later word rule [] all ends = refl
none_later word rule (later ∷ rules) all ends =
    let both = and_parts (not (ends_with later.ending rule.ending)) (every (apart_from rule) rules) all in
    let rest = none_later word rule rules both.1 ends in
    let fails : obeys word (length rule.ending) later ≡ false =
    by_test (ends_with word later.ending)
    (λ fits. obeys_size word (length rule.ending) later
    (λ same.
    let nested = ends_nested word rule.ending later.ending ends fits (omega arith) in
    absurd (true≢false (sym both.0 ∙ (rw nested)))))
    (λ other. obeys_ends word (length rule.ending) later other) in
    rw (fails, rest)

decided_first : (word : List ℕ) (rule : Rule) (rules : List Rule)
    → decides (rule ∷ rules) ≡ true
    → ends_with word rule.ending ≡ true
    → obeyed word (rule ∷ rules) ≡ cond (applies word rule) (some rule) none
unfolding decides first before
decided_first word rule rules all ends =
    let both = and_parts (every (apart_from rule) rules) (decides rules) all in
    let order = decides_orders (rule ∷ rules) all in
    first_fits word rule rules order ends
    ∙ rw (obeys_holds word (length rule.ending) rule refl ends, none_later word rule rules both.0 ends)

-- none of the rules from a number up to another ends the word
abbrev pub NoneFits : (ℕ → Rule) → ℕ → ℕ → List ℕ → Type 0
NoneFits at from to word = (k : ℕ) → from ≤ k → k < to → ends_with word (at k).ending ≡ false

-- the rules of a list by their numbers, from 0
abbrev pub rule_of : List Rule → ℕ → Rule
rule_of rules k = get_or rules k no_rule

later : (rules : List Rule) (rule : Rule) (to : ℕ) (word : List ℕ)
    → NoneFits (rule_of (rule ∷ rules)) 0 (suc to) word
    → NoneFits (rule_of rules) 0 to word
later rules rule to word misses k low high = misses (suc k) (omega arith) (omega arith)

-- in a group in which longer endings stand first: of the rules from there on with an ending as long, the first that holds is obeyed
pub first_from :
    (word : List ℕ) (rules : List Rule) (r : ℕ)
    → longer_first rules ≡ true
    → r < length rules
    → NoneFits (rule_of rules) 0 r word
    → ends_with word (rule_of rules r).ending ≡ true
    → obeyed word rules ≡ first (obeys word (length (rule_of rules r).ending)) (drop r rules)
first_from word [] r order known misses ends = absurd (not-suc-le-zero known)
first_from word (rule ∷ rules) zero order known misses ends = first_fits word rule rules order ends
first_from word (rule ∷ rules) (suc r) order known misses ends =
    passed_by word rule rules (misses 0 (omega arith) (omega arith))
    ∙ first_from word rules r (longer_first_rest rule rules order) (le_of_suc-le-suc known) (later rules rule r word misses) ends

-- a group is decided by the first rule that ends the word
pub decided :
    (word : List ℕ) (rules : List Rule) (r : ℕ)
    → decides rules ≡ true
    → r < length rules
    → NoneFits (rule_of rules) 0 r word
    → ends_with word (rule_of rules r).ending ≡ true
    → obeyed word rules ≡ cond (applies word (rule_of rules r)) (some (rule_of rules r)) none
unfolding decides
decided word [] r all known misses ends = absurd (not-suc-le-zero known)
decided word (rule ∷ rules) zero all known misses ends = decided_first word rule rules all ends
decided word (rule ∷ rules) (suc r) all known misses ends =
    passed_by word rule rules (misses 0 (omega arith) (omega arith))
    ∙ decided word rules r (and_parts (every (apart_from rule) rules) (decides rules) all).1 (le_of_suc-le-suc known)
    (later rules rule r word misses) ends

pub none_yet : (at : ℕ → Rule) (word : List ℕ) → NoneFits at 0 0 word
none_yet at word k low high = absurd (omega arith)

-- where none ends the word, no rule is obeyed
none_fitting : (word : List ℕ) (rules : List Rule) → NoneFits (rule_of rules) 0 (length rules) word → fitting word rules ≡ []
unfolding fitting which
none_fitting word [] misses = refl
none_fitting word (rule ∷ rules) misses =
    rw (misses 0 (omega arith) (omega arith)) (none_fitting word rules (later rules rule (length rules) word misses))

pub undecided : (word : List ℕ) (rules : List Rule) → NoneFits (rule_of rules) 0 (length rules) word → obeyed word rules ≡ none
unfolding obeyed chosen fitting which first
undecided word rules misses = same_fitting word rules [] (none_fitting word rules misses)

-- ## A part of a group

-- without rules in front that do not end the word, and without such rules at the end, a group gives what it gave
without_front :
    (word : List ℕ) (rules : List Rule) (from : ℕ) → NoneFits (rule_of rules) 0 from word → obeyed word rules ≡ obeyed word (drop from rules)
without_front word rules zero misses = refl
without_front word [] (suc from) misses = refl
without_front word (rule ∷ rules) (suc from) misses =
    passed_by word rule rules (misses 0 (omega arith) (omega arith)) ∙ without_front word rules from (later rules rule from word misses)

fitting_front :
    (word : List ℕ) (rules : List Rule) (n : ℕ)
    → NoneFits (rule_of rules) n (length rules) word
    → fitting word (take n rules) ≡ fitting word rules
unfolding fitting which
fitting_front word [] zero misses = refl
fitting_front word [] (suc n) misses = refl
fitting_front word (rule ∷ rules) zero misses = sym (none_fitting word (rule ∷ rules) misses)
fitting_front word (rule ∷ rules) (suc n) misses =
    let rest = fitting_front word rules n (λ k low high. misses (suc k) (omega arith) (omega arith)) in
    by_test (ends_with word rule.ending) (λ ends. rw (ends, rest)) (λ other. rw (other, rest))

-- the rules from a number up to another, where no other ends the word, give what the group gives
pub part_obeyed :
    (word : List ℕ) (rules : List Rule) (from to : ℕ)
    → from ≤ to
    → NoneFits (rule_of rules) 0 from word
    → NoneFits (rule_of rules) to (length rules) word
    → obeyed word (take (to - from) (drop from rules)) ≡ obeyed word rules
part_obeyed word rules from to order front back =
    same_fitting word (take (to - from) (drop from rules)) (drop from rules)
    (fitting_front word (drop from rules) (to - from)
    (λ k low high. rw (get_or-drop from rules k no_rule) (back (from + k) (omega arith) (omega (arith, length-drop from rules)))))
    ∙ sym (without_front word rules from front)

-- ## The last letters of a word

-- a letter of S1 is the word's, counted from the last
pub letter_of_lem : (word s1 : List ℕ) (k : ℕ) → ends_with word s1 ≡ true → k < length s1 → letter_at k word ≡ letter_at k s1
unfolding letter_at inward
letter_of_lem word s1 k ends within =
    ap (λ (l : List ℕ). get_or (reverse l) k 0) (sym (ends_split word s1 ends))
    ∙ ap (λ (l : List ℕ). get_or l k 0) (reverse-append (before word s1) s1)
    ∙ get_or-append (reverse s1) (reverse (before word s1)) 0 k (omega (arith, length-reverse s1))

pub every_at : (test : Rule → Bool) (rules : List Rule) (k : ℕ) → every test rules ≡ true → k < length rules → test (rule_of rules k) ≡ true
unfolding every
every_at test [] k all known = absurd (not-suc-le-zero known)
every_at test (rule ∷ rules) zero all known = (and_parts (test rule) (every test rules) all).0
every_at test (rule ∷ rules) (suc k) all known =
    every_at test rules k (and_parts (test rule) (every test rules) all).1 (le_of_suc-le-suc known)

-- every ending has one of these letters last
unfoldable pub last_among : List ℕ → Rule → Bool
last_among letters rule = ltb 0 (length rule.ending) && among (letter_at 0 rule.ending) letters

pub other_last :
    (word : List ℕ) (letters : List ℕ) (rules : List Rule)
    → every (last_among letters) rules ≡ true
    → among (letter_at 0 word) letters ≡ false
    → NoneFits (rule_of rules) 0 (length rules) word
unfolding last_among
other_last word letters rules all other k low known =
    let s1 = (rule_of rules k).ending in
    let both = and_parts (ltb 0 (length s1)) (among (letter_at 0 s1) letters) (every_at (last_among letters) rules k all known) in
    by_test (ends_with word s1)
    (λ ends.
    let same = letter_of_lem word s1 0 ends (ltb-true 0 (length s1) both.0) in
    absurd (true≢false (sym both.1 ∙ ap (λ (l : ℕ). among l letters) (sym same) ∙ other)))
    (λ misses. misses)

-- a letter that is not this one
pub not_one : (letter one : ℕ) → (letter ≡ one → ⊥) → among letter (one ∷ []) ≡ false
unfolding among
not_one letter one other = rw (ne_eqb letter one other)

-- a word whose last letter is this one ends with it
pub ends_one : (word : List ℕ) (letter : ℕ) → 0 < letter → letter_at 0 word ≡ letter → ends_with word (letter ∷ []) ≡ true
ends_one word letter above is = go (dec_lt 0 (length word))
  where
    go : Dec (0 < length word) → ends_with word (letter ∷ []) ≡ true
    go (yes filled) =
        ends_yes word (letter ∷ []) (omega arith)
        (λ k below.
        let first : k ≡ 0 = omega arith in
        let place : length word - 1 + k ≡ length word - 1 - 0 = omega arith in
        rw (place, first) (sym (letter_at_index word 0 filled) ∙ is))
    go (no empty) = absurd (omega (arith, sym is ∙ letter_at_none word (omega arith)))
