-- What an index tells of a word: which rules cannot end it, so that those whose endings are compared give what the group gives. Over any
-- rule list and any index that keeps it.
use Rattle.std.specs.Prelude.{ℕ, zero, suc, ◌+◌, ◌-◌, ◌/◌, ◌%◌, ◌^◌, ◌≤◌, ◌<◌, ◌≡◌, refl, Bool, true, false, not, ◌&&◌, eqb, leb, ltb}
use Rattle.std.specs.Prelude.{length, drop}
use Rattle.std.proofs.Common.{mod-lt, arith, ap, ◌∙◌, true≢false, length-take}
use Rattle.std.proofs.Math.Path.{sym}
use Rattle.std.proofs.lemmas.Bool.{false≢true}
use mathlib.Core.List.{List, [], ◌∷◌}
use Rattle.std.proofs.Math.Option.{Option, none, some}
use borrow.Author.Tests.{eqb-true, eqb-false, leb-true, ltb-true, not-true}
use Rattle.paper.specs.Letters.{letter_at}
use Rattle.paper.specs.Conditions.{holds}
use Rattle.paper.specs.TestLaws.{by_test, and_both, and_left, and_right, and_parts, or_cases}
use Rattle.paper.specs.Groups.{Rule, ends_with, before, obeyed}
use Rattle.paper.specs.ReadingLaws.{every, every_in, obeyed_first}
use Rattle.paper.specs.FirstFits.{NoneFits, rule_of, undecided, part_obeyed, letter_of_lem}
use Rattle.blocks.specs.Blocks.{member, every_letter, Block, passes, Entry, block_at, block_of, compared, widest}
use Rattle.blocks.specs.Blocks.{in_block, keeps_one, keeps_from, bounded, keeps}

-- ## The sets of all letters and of none

-- a test of every number below a bound
unfoldable pub below : (ℕ → Bool) → ℕ → Bool
below test zero = true
below test (suc n) = test n && below test n

pub below_at : (test : ℕ → Bool) (n : ℕ) → below test n ≡ true → (k : ℕ) → k < n → test k ≡ true
unfolding below
below_at test zero all k within = absurd (omega arith)
below_at test (suc n) all k within =
    let both = and_parts (test n) (below test n) all in
    let shorter = below_at test n both.1 k in
    by_test (eqb k n) (λ same. ap test (eqb-true k n same) ∙ both.0) (λ other. shorter (omega (arith, eqb-false k n other)))

-- one has a bit at each place
member-every : (letter : ℕ) → member every_letter letter ≡ true
unfolding below member
member-every letter =
    below_at (λ place. eqb (every_letter / 2 ^ place % 2) 1) 32 refl (letter % 32) (mod-lt letter (omega arith))

-- the other at none
pub member_none : (letter : ℕ) → member 0 letter ≡ false
unfolding below member
member_none letter =
    not-true _ (below_at (λ place. not (eqb (0 / 2 ^ place % 2) 1)) 32 refl (letter % 32) (mod-lt letter (omega arith)))

-- ## A rule that ends the word stands in the block of the word's second last letter

pub record Stands (block : Block) (word : List ℕ) (number : ℕ) : Type 0 where
  pub behind : block.from ≤ number
  pub ahead : number < block.to
  pub last : member block.lasts (letter_at 0 word) ≡ true
  pub third : member block.thirds (letter_at 2 word) ≡ true

stands_one :
    (block : Block) (word : List ℕ) (number : ℕ) (rule : Rule)
    → 1 < length rule.ending
    → in_block block number rule ≡ true
    → ends_with word rule.ending ≡ true
    → Stands block word number
unfolding in_block
stands_one block word number rule long kept ends =
    let parts = and_parts (leb block.from number && ltb number block.to) _ kept in
    let place = and_parts (leb block.from number) (ltb number block.to) parts.0 in
    let sets = and_parts (member block.lasts (letter_at 0 rule.ending)) _ parts.1 in
    record {
      behind = leb-true block.from number place.0;
      ahead = ltb-true number block.to place.1;
      last = rw (letter_of_lem word rule.ending 0 ends (omega arith)) sets.0;
      third = or_cases (eqb block.thirds every_letter) _ sets.1
          (λ all. rw (eqb-true block.thirds every_letter all) (member-every (letter_at 2 word)))
          (λ known.
          let three = and_parts (ltb 2 (length rule.ending)) _ known in
          rw (letter_of_lem word rule.ending 2 ends (ltb-true 2 _ three.0)) three.1);
    }

-- the test of a group, at one of its rules
at_number :
    (index : List Entry) (number : ℕ) (rules : List Rule)
    → keeps_from index number rules ≡ true
    → (k at : ℕ)
    → at ≡ number + k
    → k < length rules
    → keeps_one index at (rule_of rules k) ≡ true
unfolding keeps_from
at_number index number [] all k at is within = absurd (omega arith)
at_number index number (rule ∷ rules) all zero at is within =
    let here : at ≡ number = omega arith in
    rw here (and_left _ (keeps_from index (suc number) rules) all)
at_number index number (rule ∷ rules) all (suc k) at is within =
    at_number index (suc number) rules (and_right (keeps_one index number rule) _ all) k at (omega arith) (omega arith)

-- the blocks of an index of so many rules
block_bounded :
    (n : ℕ) (index : List Entry)
    → bounded n index ≡ true
    → (letter : ℕ)
    → ((block_at index letter).from ≤ (block_at index letter).to) × ((block_at index letter).to ≤ n)
unfolding bounded block_at
block_bounded n [] all letter = (omega arith, omega arith)
block_bounded n (entry ∷ index) all letter =
    let both = and_parts (leb entry.block.from entry.block.to && leb entry.block.to n) (bounded n index) all in
    let own = and_parts (leb entry.block.from entry.block.to) (leb entry.block.to n) both.0 in
    by_test (eqb letter entry.letter)
    (λ here. rw here (leb-true _ _ own.0, leb-true _ _ own.1))
    (λ other. rw other (block_bounded n index both.1 letter))

-- ## Which rules cannot end the word

module _ (rules : List Rule) (index : List Entry) (kept : keeps rules index ≡ true) (word : List ℕ) where
  pub bounds : ((block_of index word).from ≤ (block_of index word).to) × ((block_of index word).to ≤ length rules)
  unfolding keeps
  bounds = block_bounded (length rules) index (and_left _ (keeps_from index 0 rules) kept) (letter_at 1 word)

  -- a rule that ends the word is not left out
  pub in_its_block :
      (k : ℕ) → k < length rules → ends_with word (rule_of rules k).ending ≡ true → Stands (block_of index word) word k
  unfolding keeps keeps_one
  in_its_block k within ends =
      let one = at_number index 0 rules (and_right (bounded (length rules) index) _ kept) k k (omega arith) within in
      let own = and_parts (ltb 1 (length (rule_of rules k).ending)) _ one in
      let long = ltb-true 1 (length (rule_of rules k).ending) own.0 in
      rw (letter_of_lem word (rule_of rules k).ending 1 ends long) (stands_one _ word k (rule_of rules k) long own.1 ends)

  -- a rule that is left out cannot end the word
  pub left_out :
      (k : ℕ)
      → k < length rules
      → (Stands (block_of index word) word k → ⊥)
      → ends_with word (rule_of rules k).ending ≡ false
  left_out k within outside =
      by_test (ends_with word (rule_of rules k).ending) (λ ends. absurd (outside (in_its_block k within ends))) (λ other. other)

  pub none_before : NoneFits (rule_of rules) 0 (block_of index word).from word
  none_before k low high = left_out k (omega (arith, bounds.0, bounds.1)) (λ stands. omega (arith, stands.behind))

  pub none_behind : NoneFits (rule_of rules) (block_of index word).to (length rules) word
  none_behind k low high = left_out k high (λ stands. omega (arith, stands.ahead))

  pub none_passes :
      passes (block_of index word).lasts (block_of index word).thirds word ≡ false
      → NoneFits (rule_of rules) 0 (length rules) word
  none_passes fails k low high =
      left_out k high (λ stands. true≢false (sym (and_both stands.last stands.third) ∙ fails))

  -- W-203, "What the step gives for each word stays as it is": the rules that are compared give what all of them give
  pub by_second_last : obeyed word (compared index word rules) ≡ obeyed word rules
  unfolding compared
  by_second_last =
      by_test (passes (block_of index word).lasts (block_of index word).thirds word)
      (λ passing. rw passing (part_obeyed word rules _ _ bounds.0 none_before none_behind))
      (λ fails. rw fails (undecided word [] (λ k low high. absurd (omega arith)) ∙ sym (undecided word rules (none_passes fails))))

-- ## How many endings are compared

block_widest : (index : List Entry) (letter : ℕ) → (block_at index letter).to - (block_at index letter).from ≤ widest index
unfolding block_at widest
block_widest [] letter = omega arith
block_widest (entry ∷ index) letter =
    by_test (eqb letter entry.letter) (λ here. rw here (omega arith)) (λ other. rw other (omega (arith, block_widest index letter)))

-- no more than the largest block has rules
pub compared_few : (index : List Entry) (word : List ℕ) (rules : List Rule) → length (compared index word rules) ≤ widest index
unfolding compared
compared_few index word rules =
    by_test (passes (block_of index word).lasts (block_of index word).thirds word)
    (λ passing.
    rw passing (omega (
      arith,
      length-take ((block_of index word).to - (block_of index word).from) (drop (block_of index word).from rules),
      block_widest index (letter_at 1 word),
    )))
    (λ fails. rw fails (omega arith))

-- ## Words too short for any rule

-- the rule's ending has two letters or more, and its condition asks for a part before it
unfoldable pub needs_part : Rule → Bool
needs_part rule = ltb 1 (length rule.ending) && not (holds rule.condition [])

pub too_short : (word : List ℕ) (rules : List Rule) → every needs_part rules ≡ true → length word < 3 → obeyed word rules ≡ none
unfolding needs_part before
too_short word rules all short = go (obeyed word rules) refl
  where
    go : (given : Option Rule) → obeyed word rules ≡ given → given ≡ none
    go none is = refl
    go (some rule) is =
        let found = obeyed_first word rules rule is in
        let both = and_parts (ltb 1 (length rule.ending)) _ (every_in needs_part rules all found.chosen_one.stands) in
        let nothing : length word - length rule.ending ≡ 0 = omega (arith, ltb-true 1 (length rule.ending) both.0) in
        let empty : holds rule.condition [] ≡ true = rw nothing at found.its_own in
        absurd (false≢true (sym (not-true _ both.1) ∙ empty))
