-- Groups in which no ending is a tail of a longer one that stands later: the first rule whose S1 the word ends with then gives
-- the longest S1. Over any rule list.
use Rattle.std.specs.Prelude.{ℕ, ◌+◌, ◌-◌, ◌≤◌, ◌≡◌, Bool, true, false, not, ◌&&◌, ◌||◌, leb, get_or}
use Rattle.std.proofs.Common.{arith, sym, ◌∙◌, get_or-drop}
use Rattle.std.proofs.Math.Path.{ap}
use Rattle.std.proofs.lemmas.Bool.{false≢true}
use mathlib.Core.List.{List, [], ◌∷◌, Memᴰ}
use Rattle.std.proofs.Math.ListN.{length}
use borrow.Author.Tests.{leb-true, leb-false}
use Rattle.paper.specs.TestLaws.{by_test, and_parts, or_cases}
use Rattle.paper.specs.Groups.{Rule, ends_with, which, first, fitting, longest, obeyed}
use Rattle.paper.specs.GroupsLaws.{same_equal, ending_short, ends_yes}
use Rattle.paper.specs.ReadingLaws.{every, every_in, which_in, longest_at_most, same_fitting, obeys, obeyed_in_turn}

-- the later rule's ending is no longer than this one's, or does not end with it
unfoldable pub keeps_order : Rule → Rule → Bool
keeps_order rule later = leb (length later.ending) (length rule.ending) || not (ends_with later.ending rule.ending)

unfoldable pub longer_first : List Rule → Bool
longer_first [] = true
longer_first (rule ∷ rules) = every (keeps_order rule) rules && longer_first rules

-- ## Two endings of one word

letter_of_ending :
    (word s1 : List ℕ) → ends_with word s1 ≡ true → (k : ℕ) → get_or s1 k 0 ≡ get_or word (length word - length s1 + k) 0
unfolding ends_with
letter_of_ending word s1 e k =
    ap (λ (l : List ℕ). get_or l k 0) (sym (same_equal _ s1 e)) ∙ get_or-drop (length word - length s1) word k 0

-- the longer of them ends with the shorter
pub ends_nested :
    (word short long : List ℕ)
    → ends_with word short ≡ true
    → ends_with word long ≡ true
    → length short ≤ length long
    → ends_with long short ≡ true
ends_nested word short long ends_short ends-long shorter =
    let within = ending_short word long ends-long in
    ends_yes long short shorter
    (λ k h.
    let place : length word - length long + (length long - length short + k) ≡ length word - length short + k = omega arith in
    letter_of_ending word long ends-long (length long - length short + k)
    ∙ ap (λ (n : ℕ). get_or word n 0) place
    ∙ sym (letter_of_ending word short ends_short k))

-- ## The first that ends the word is the longest

module _ (word : List ℕ) (rule : Rule) (rules : List Rule) where
  later_shorter :
      every (keeps_order rule) rules ≡ true
      → ends_with word rule.ending ≡ true
      → (later : Rule)
      → Memᴰ later (fitting word rules)
      → length later.ending ≤ length rule.ending
  unfolding fitting keeps_order
  later_shorter order ends later m =
      let found = which_in (λ one. ends_with word one.ending) rules m in
      or_cases (leb (length later.ending) (length rule.ending)) (not (ends_with later.ending rule.ending))
      (every_in (keeps_order rule) rules order found.0)
      (λ shorter. leb-true _ _ shorter)
      (λ apart. by_test (leb (length later.ending) (length rule.ending)) (λ shorter. leb-true _ _ shorter)
      (λ longer.
      let behind = leb-false (length later.ending) (length rule.ending) longer in
      let nested = ends_nested word rule.ending later.ending ends found.1 (omega arith) in
      absurd (false≢true (rw nested at apart))))

  pub first_fits :
      longer_first (rule ∷ rules) ≡ true
      → ends_with word rule.ending ≡ true
      → obeyed word (rule ∷ rules) ≡ first (obeys word (length rule.ending)) (rule ∷ rules)
  unfolding longer_first fitting which longest
  first_fits order ends =
      let shorter = longest_at_most (fitting word rules) (length rule.ending)
      (later_shorter (and_parts (every (keeps_order rule) rules) (longer_first rules) order).0 ends) in
      let most : longest (fitting word (rule ∷ rules)) ≡ length rule.ending = rw ends (omega arith) in
      obeyed_in_turn word (rule ∷ rules) ∙ ap (λ (n : ℕ). first (obeys word n) (rule ∷ rules)) most

  -- a rule that does not end the word is passed by
  pub passed_by : ends_with word rule.ending ≡ false → obeyed word (rule ∷ rules) ≡ obeyed word rules
  unfolding fitting which
  passed_by other = same_fitting word (rule ∷ rules) rules (rw other)

pub longer_first_rest : (rule : Rule) (rules : List Rule) → longer_first (rule ∷ rules) ≡ true → longer_first rules ≡ true
unfolding longer_first
longer_first_rest rule rules order = (and_parts (every (keeps_order rule) rules) (longer_first rules) order).1
