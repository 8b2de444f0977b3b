-- Contracts that settle what they speak of: any two outcomes that such a contract allows are equal. By one law where its clause
-- says that what a call gives equals a definition, and by one where it tells an answer's number and value.
use Rattle.std.specs.Prelude.{ℕ, ◌≡◌, List}
use Rattle.std.proofs.Common.{sym, ap₂, ◌∙◌}
use Rattle.paper.specs.Words.{Outcome, Gives}

pub settled {ℓ} : {A : Type ℓ} {given one other : A} → one ≡ given → other ≡ given → one ≡ other
settled is also = is ∙ sym also

-- answers that are told by their number and value
pub record Told (A : Type 0) : Type 0 where
  pub number : A → ℕ
  pub value : A → ℕ
  pub back : ℕ → ℕ → A
  pub back_is : (answer : A) → back (number answer) (value answer) ≡ answer

module _ {A : Type 0} (told : Told A) where
  pub told_one : {one other : A} → told.number one ≡ told.number other → told.value one ≡ told.value other → one ≡ other
  told_one {one} {other} numbers values =
      sym (told.back_is one) ∙ ap₂ told.back numbers values ∙ told.back_is other

  pub gives_one :
      {outcome : Outcome} {one other : A} {after later : List ℕ}
      → Gives outcome (told.number one) (told.value one) after
      → Gives outcome (told.number other) (told.value other) later
      → (one ≡ other) × (after ≡ later)
  gives_one a b = (
    told_one (settled a.number_is b.number_is) (settled a.value_is b.value_is),
    settled a.place_is b.place_is,
  )
