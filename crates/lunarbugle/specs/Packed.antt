-- A call's numbers as one number.
use Rattle.std.specs.Prelude.{ℕ, ◌+◌, ◌*◌, ◌%◌, ◌^◌, ◌≡◌, List}
use Rattle.paper.specs.Words.{Outcome}
use Rattle.answers.specs.Answers.{Said}
use Rattle.texts.specs.Texts.{Outcome as TextOutcome}
use Rattle.vocabularies.specs.Vocabularies.{Checks}

-- of a word: the number, and the value returned besides it
unfoldable pub packed : Outcome → ℕ
packed o = o.number + 256 * o.value

-- of a text: the number, the words stemmed and the words left
unfoldable pub packed_text : TextOutcome → ℕ
packed_text o = o.number + 256 * o.stemmed + 2 ^ 32 * o.left

-- with a list: the same, where an offset in the list has 56 bits
unfoldable pub packed_listed : Outcome → ℕ
packed_listed o = o.number + 256 * (o.value % 2 ^ 56)

unfoldable pub packed_listed_text : TextOutcome → ℕ
packed_listed_text o = o.number + 256 * (o.stemmed % 2 ^ 56) + 2 ^ 32 * o.left

-- of a vocabulary: the number, and the line's number, which has 56 bits
unfoldable pub packed_said : Said → ℕ
packed_said said = said.number + 256 * (said.value % 2 ^ 56)

-- what is returned is the answer of a check of this list, packed
pub record PacksCheck (list : List ℕ) (returned : ℕ) : Type 0 where
  pub answer : Said
  pub checks : Checks list answer
  pub packs : returned ≡ packed_said answer
