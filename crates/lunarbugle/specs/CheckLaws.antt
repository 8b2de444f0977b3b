-- What is returned for a vocabulary is one number for each list, and the answer can be taken out of it, unless the list has 2^56 bytes or
-- more.
use Rattle.std.specs.Prelude.{ℕ, ◌/◌, ◌%◌, ◌^◌, ◌≤◌, ◌<◌, ◌≡◌, List, length}
use Rattle.std.proofs.Common.{ap, sym, ◌∙◌, arith}
use Rattle.answers.specs.Answers.{Said}
use Rattle.vocabularies.specs.Vocabularies.{Checks, misformed, well-formed}
use Rattle.vocabularies.specs.Answered.{checks_one, within}
use Rattle.lunarbugle.specs.Packed.{packed_said, PacksCheck}

-- any two numbers that the contract allows are equal
pub returned_one : {list : List ℕ} {one other : ℕ} → PacksCheck list one → PacksCheck list other → one ≡ other
returned_one a b = a.packs ∙ (ap packed_said (checks_one a.checks b.checks) ∙ sym b.packs)

few_numbers : {list : List ℕ} {answer : Said} → Checks list answer → answer.number ≤ 11
few_numbers (misformed line first) = omega arith
few_numbers (well-formed pairs whole) = omega arith

module _ {list : List ℕ} {returned : ℕ} {answer : Said} (is : PacksCheck list returned) (checks : Checks list answer) where
  packs_it : returned ≡ packed_said answer
  packs_it = is.packs ∙ ap packed_said (checks_one is.checks checks)

  pub check_number : returned % 256 ≡ answer.number
  unfolding packed_said
  check_number = omega (arith, packs_it, few_numbers checks)

  pub check_line : length list < 2 ^ 56 → returned / 256 ≡ answer.value
  unfolding packed_said
  check_line few = omega (arith, packs_it, few_numbers checks, within checks)
