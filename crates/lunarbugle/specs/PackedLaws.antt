-- A host can take the numbers of a call out of the one that is returned, as `include/lunarbugle.h` does,
-- whatever reads the words.
use Rattle.std.specs.Prelude.{ℕ, ◌+◌, ◌*◌, ◌/◌, ◌%◌, ◌^◌, ◌≡◌, ◌↔◌, List}
use Rattle.std.proofs.Common.{arith}
use Rattle.paper.specs.Groups.{Reading}
use Rattle.paper.specs.LengthLaws.{NeverLengthens}
use Rattle.paper.specs.Words.{word_outcome}
use Rattle.paper.specs.Answered.{RightLength, FirstOther, answered_place}
use Rattle.paper.specs.Demand2.{outcome_bounds}
use Rattle.texts.specs.Texts.{text_outcome}
use Rattle.texts.specs.OutcomeLaws.{number_within}
use Rattle.texts.proofs.OutcomeLaws.{counts_within}
use Rattle.lunarbugle.specs.Packed.{packed, packed_text}

-- ## Of a word, and of a text

module _ (rule : List ℕ → Reading) where
  module _ (never : NeverLengthens rule) (word : List ℕ) where
    pub word_number : packed (word_outcome rule word) % 256 ≡ (word_outcome rule word).number
    unfolding packed
    word_number = omega (arith, (outcome_bounds rule never word).number)

    pub word_value : packed (word_outcome rule word) / 256 ≡ (word_outcome rule word).value
    unfolding packed
    word_value = omega (arith, (outcome_bounds rule never word).number)

    -- so 2 and the place of the first byte outside a to z are read from one number, and no other place is
    pub word_place : (place : ℕ) → (packed (word_outcome rule word) ≡ 2 + 256 * place) ↔ (RightLength word × FirstOther word place)
    unfolding packed
    word_place place =
        let within = (outcome_bounds rule never word).number in
        let named = answered_place rule word place in (
          λ is. named.0 (omega (arith, is, within), omega (arith, is, within)),
          λ first. let both = named.1 first in omega (arith, both.0, both.1),
        )

  module _ (text : List ℕ) where
    pub text_number : packed_text (text_outcome rule text) % 256 ≡ (text_outcome rule text).number
    unfolding packed_text
    text_number = omega (arith, number_within rule text)

    pub text_stemmed : packed_text (text_outcome rule text) / 256 % 2 ^ 24 ≡ (text_outcome rule text).stemmed
    unfolding packed_text
    text_stemmed = omega (arith, number_within rule text, counts_within rule text)

    pub text_left : packed_text (text_outcome rule text) / 2 ^ 32 ≡ (text_outcome rule text).left
    unfolding packed_text
    text_left = omega (arith, number_within rule text, counts_within rule text)
