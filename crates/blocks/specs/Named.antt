-- A block that the code hands out is what an index names, and what that tells of a word. Over any rule list and any index that keeps it.
use Rattle.std.specs.Prelude.{ℕ, ◌+◌, ◌-◌, ◌≤◌, ◌≡◌, refl, Bool, true, false, ◌&&◌, List, [], ◌∷◌, eqb, leb, length, slice_index_or}
use Rattle.std.proofs.Common.{arith, sym, ◌∙◌, true≢false}
use borrow.Author.Tests.{eqb-true, leb-true, ne_eqb}
use Rattle.paper.specs.Letters.{letter_at}
use Rattle.paper.specs.Words.{small}
use Rattle.paper.specs.TestLaws.{and_both, and_left, and_right, and_parts, or_cases}
use Rattle.paper.specs.Groups.{Rule}
use Rattle.paper.specs.FirstFits.{NoneFits, rule_of}
use Rattle.blocks.specs.Blocks.{member, passes, Entry, block_at, names, keeps}
use Rattle.blocks.specs.BlocksLaws.{below, below_at, member_none, bounds, left_out, none_before, none_behind}
use Rattle.blocks.specs.declared.Block.{Block as Declared}

-- ## A block that the index names

module _ (index : List Entry) (letter from to lasts thirds : ℕ) (named : names index letter from to lasts thirds ≡ true) where
  named_lasts : lasts ≡ (block_at index letter).lasts
  unfolding names
  named_lasts = eqb-true lasts _ (and_left _ _ named)

  -- where a letter passes, its rules are those of the index, and so is its other set
  named_rules :
      (last : ℕ)
      → member lasts last ≡ true
      → (from ≡ (block_at index letter).from) × ((to ≡ (block_at index letter).to) × (thirds ≡ (block_at index letter).thirds))
  unfolding names
  named_rules last has =
      or_cases (eqb lasts 0) _ (and_right (eqb lasts (block_at index letter).lasts) _ named)
      (λ none. absurd (true≢false (sym has ∙ (rw (eqb-true lasts 0 none) (member_none last)))))
      (λ all.
      let first = and_parts (eqb from (block_at index letter).from) _ all in
      let rest = and_parts (eqb to (block_at index letter).to) _ first.1 in
      (eqb-true from _ first.0, (eqb-true to _ rest.0, eqb-true thirds _ rest.1)))

module _ (rules : List Rule) (index : List Entry) (kept : keeps rules index ≡ true) (second from to lasts thirds : ℕ)
    (named : names index second from to lasts thirds ≡ true) (word : List ℕ) (is : second ≡ letter_at 1 word) where
  -- none of the other rules ends a word that passes
  pub only_named :
      passes lasts thirds word ≡ true
      → (to ≤ length rules) × (NoneFits (rule_of rules) 0 from word × NoneFits (rule_of rules) to (length rules) word)
  only_named passing =
      let same = named_rules index second from to lasts thirds named _ (and_left _ _ passing) in
      rw (same.0, same.1.0, is) ((bounds rules index kept word).1, (none_before rules index kept word, none_behind rules index kept word))

  -- and no rule one that does not
  pub none_named : passes lasts thirds word ≡ false → NoneFits (rule_of rules) 0 (length rules) word
  none_named fails k low high =
      left_out rules index kept word k high
      (λ stands.
      let last : member lasts (letter_at 0 word) ≡ true = rw (named_lasts index second from to lasts thirds named, is) stands.last in
      let same = named_rules index second from to lasts thirds named _ last in
      let third : member thirds (letter_at 2 word) ≡ true = rw (same.1.1, is) stands.third in
      true≢false (sym (and_both last third) ∙ fails))

-- ## A table of blocks, one for each letter from a to z

-- it names what the index names
unfoldable pub tabled : List Entry → List Declared → Bool
tabled index blocks =
    below
    (λ place.
    let block = slice_index_or blocks place (record { from = 0; to = 0; lasts = 0; thirds = 0 }) in
    names index (97 + place) block.from block.to block.lasts block.thirds)
    26

pub table_named :
    (index : List Entry) (blocks : List Declared)
    → tabled index blocks ≡ true
    → (letter place : ℕ)
    → small letter ≡ true
    → place ≡ letter - 97
    → let block = slice_index_or blocks place (record { from = 0; to = 0; lasts = 0; thirds = 0 }) in
    names index letter block.from block.to block.lasts block.thirds ≡ true
unfolding tabled
table_named index blocks all letter place is at =
    let low = leb-true 97 letter (and_left _ (leb letter 122) is) in
    let high = leb-true letter 122 (and_right (leb 97 letter) _ is) in
    let same : letter ≡ 97 + place = omega arith in
    rw same (below_at _ 26 all place (omega arith))

-- every letter of the index passes a test
unfoldable pub all_pass : (ℕ → Bool) → List Entry → Bool
all_pass test [] = true
all_pass test (entry ∷ index) = test entry.letter && all_pass test index

-- so for a letter that fails it the index names any rules, which no letter passes
pub other_named :
    (test : ℕ → Bool) (index : List Entry)
    → all_pass test index ≡ true
    → (letter from to thirds : ℕ)
    → test letter ≡ false
    → names index letter from to 0 thirds ≡ true
unfolding names all_pass block_at
other_named test [] all letter from to thirds other = refl
other_named test (entry ∷ index) all letter from to thirds other =
    let both = and_parts (test entry.letter) (all_pass test index) all in
    let differs : eqb letter entry.letter ≡ false =
    ne_eqb letter entry.letter (λ same. true≢false (sym both.0 ∙ (rw (← same) other))) in
    rw differs (other_named test index both.1 letter from to thirds other)
