-- The same with a list: the offset of a faulty record can be taken out of the number that is returned, unless the list has 2^56 bytes or
-- more.
use Rattle.std.specs.Prelude.{ℕ, ◌+◌, ◌*◌, ◌/◌, ◌%◌, ◌^◌, ◌≤◌, ◌<◌, ◌≡◌, ◌↔◌, List, length}
use Rattle.std.proofs.Common.{ap, arith, length-append}
use Rattle.paper.specs.Groups.{Reading}
use Rattle.paper.specs.LengthLaws.{Stems, never_lengthens}
use Rattle.paper.specs.Demand2.{outcome_bounds}
use Rattle.lists.specs.Lists.{Entry, holding, read_list, excepting}
use Rattle.lists.specs.ListBytes.{records_of}
use Rattle.lists.specs.Calls.{listed_outcome}
use Rattle.lists.specs.Correspondence.{FirstFaulty, refused_exactly, accepted_exactly}
use Rattle.lists.specs.ExceptLaws.{excepting_stems}
use Rattle.lists.specs.ListedWords.{by_listing, refused_10, accepted_outcome, answered_10}
use Rattle.texts.specs.ListedTexts.{listed_text}
use Rattle.texts.proofs.OutcomeLaws.{counts_within}
use Rattle.texts.proofs.ListedLaws.{listed_bounds}
use Rattle.texts.specs.ListedLaws.{refused_10 as text_refused_10, accepted_text}
use Rattle.lunarbugle.specs.Packed.{packed_text, packed_listed, packed_listed_text}

-- the offset stands within the list
within_list : (list : List ℕ) {place : ℕ} → FirstFaulty list place → place ≤ length list
within_list list first =
    omega (arith, first.place_is, ap length first.joined, length-append (records_of first.before) first.left)

-- ## Of a word

module _ (rule : List ℕ → Reading) (stems : Stems rule) (list word : List ℕ) (few : length list < 2 ^ 56) where
  small : ((listed_outcome rule list word).number ≤ 10) × ((listed_outcome rule list word).value < 2 ^ 56)
  small =
      by_listing list
      (λ place is.
      let known = refused_10 rule list word is in
      let inside = within_list list ((refused_exactly list place).0 is) in
      (rw known (omega arith), rw known (omega arith)))
      (λ entries is.
      let known = accepted_outcome rule list word is in
      let all = ((accepted_exactly list entries).0 is).1 in
      let never = never_lengthens (excepting entries rule) (excepting_stems entries all rule stems) in
      let bounds = outcome_bounds (excepting entries rule) never word in
      (rw known (omega (arith, bounds.number)), rw known (omega (arith, bounds.value))))

  pub listed_number : packed_listed (listed_outcome rule list word) % 256 ≡ (listed_outcome rule list word).number
  unfolding packed_listed
  listed_number = omega (arith, small)

  pub listed_value : packed_listed (listed_outcome rule list word) / 256 ≡ (listed_outcome rule list word).value
  unfolding packed_listed
  listed_value = omega (arith, small)

  -- so 10 and the offset of the first faulty record are read from one number, and no other offset is
  pub listed_fault : (place : ℕ) → place < 2 ^ 56
      → (packed_listed (listed_outcome rule list word) ≡ 10 + 256 * place) ↔ FirstFaulty list place
  unfolding packed_listed
  listed_fault place below =
      let named = answered_10 rule list word place in (
        λ is. named.0 (omega (arith, is, small), omega (arith, is, small)),
        λ first. let both = named.1 first in omega (arith, both.0, both.1),
      )

-- ## Of a text

module _ (rule : List ℕ → Reading) (list text : List ℕ) where
  pub text_listed_number : packed_listed_text (listed_text rule list text) % 256 ≡ (listed_text rule list text).number
  unfolding packed_listed_text
  text_listed_number = omega (arith, (listed_bounds rule list text).number)

  -- with 10 the offset, with any other number the two counts, as without a list
  pub text_listed_fault : length list < 2 ^ 56 → (place : ℕ) → FirstFaulty list place
      → packed_listed_text (listed_text rule list text) ≡ 10 + 256 * place
  unfolding packed_listed_text
  text_listed_fault few place first =
      let known = text_refused_10 rule list text ((refused_exactly list place).1 first) in
      rw known (omega (arith, within_list list first))

  pub text_listed_counts : {entries : List Entry} → read_list list ≡ holding entries
      → packed_listed_text (listed_text rule list text) ≡ packed_text (listed_text rule list text)
  unfolding packed_listed_text packed_text
  text_listed_counts {entries} is =
      rw (accepted_text rule list text is) (omega (arith, counts_within (excepting entries rule) text))
