-- A call on a text, whatever reads its words: that it gives an outcome, and that an outcome allows one answer and one content of the
-- text.
use Rattle.std.specs.Prelude.{ℕ, ◌≡◌, refl, Result, Ok, Err, List}
use Rattle.std.proofs.Common.{ap, ap₂, arith}
use Rattle.paper.specs.Settled.{settled}
use Rattle.answers.specs.Answers.{number_of_text, stemmed_of, left_of, number_of_listed_text, stemmed_of_listed, left_of_listed}
use Rattle.texts.specs.Texts.{Outcome}
use Rattle.answers.specs.declared.Counts.{Counts}
use Rattle.answers.specs.declared.TooLong.{TooLong}
use Rattle.answers.specs.declared.ListedRefusal.{ListedRefusal}
use Rattle.answers.specs.declared.ListedRefusal.TheVariants.{List as FaultList, Call}

-- a call gives this number and these two values, and leaves these bytes in the place of the text
pub record Gives (outcome : Outcome) (number stemmed left : ℕ) (after : List ℕ) : Type 0 where
  pub number_is : number ≡ outcome.number
  pub stemmed_is : stemmed ≡ outcome.stemmed
  pub left_is : left ≡ outcome.left
  pub text_is : after ≡ outcome.text

-- what an answer of a text run gives, with a list and without one
abbrev pub Answered : Outcome → Result Counts TooLong → List ℕ → Type 0
Answered outcome answer after = Gives outcome (number_of_text answer) (stemmed_of answer) (left_of answer) after

abbrev pub AnsweredListed : Outcome → Result Counts (ListedRefusal TooLong) → List ℕ → Type 0
AnsweredListed outcome answer after =
    Gives outcome (number_of_listed_text answer) (stemmed_of_listed answer) (left_of_listed answer) after

abbrev pub counts : ℕ → ℕ → Counts
counts stemmed left = record { stemmed = stemmed; left = left }

same_counts : {one two : Counts} → one.stemmed ≡ two.stemmed → one.left ≡ two.left → one ≡ two
same_counts stems lefts = ap₂ counts stems lefts

-- any two outcomes that the contract allows are equal
same_run : (one two : Result Counts TooLong) → number_of_text one ≡ number_of_text two → stemmed_of one ≡ stemmed_of two → left_of one ≡ left_of two
    → one ≡ two
same_run (Ok one) (Ok two) numbers stems lefts = ap Ok (same_counts stems lefts)
same_run (Ok one) (Err two) numbers stems lefts = absurd (omega (arith, numbers))
same_run (Err one) (Ok two) numbers stems lefts = absurd (omega (arith, numbers))
same_run (Err one) (Err two) numbers stems lefts = refl

same_listed : (one two : Result Counts (ListedRefusal TooLong)) → number_of_listed_text one ≡ number_of_listed_text two
    → stemmed_of_listed one ≡ stemmed_of_listed two
    → left_of_listed one ≡ left_of_listed two
    → one ≡ two
same_listed (Ok one) (Ok two) numbers stems lefts = ap Ok (same_counts stems lefts)
same_listed (Ok one) (Err (FaultList two)) numbers stems lefts = absurd (omega (arith, numbers))
same_listed (Ok one) (Err (Call two)) numbers stems lefts = absurd (omega (arith, numbers))
same_listed (Err (FaultList one)) (Ok two) numbers stems lefts = absurd (omega (arith, numbers))
same_listed (Err (FaultList one)) (Err (FaultList two)) numbers stems lefts =
    ap (λ (n : ℕ). Err (FaultList (record { offset = n }))) stems
same_listed (Err (FaultList one)) (Err (Call two)) numbers stems lefts = absurd (omega (arith, numbers))
same_listed (Err (Call one)) (Ok two) numbers stems lefts = absurd (omega (arith, numbers))
same_listed (Err (Call one)) (Err (FaultList two)) numbers stems lefts = absurd (omega (arith, numbers))
same_listed (Err (Call one)) (Err (Call two)) numbers stems lefts = refl

pub run_determined : {outcome : Outcome} {after later : List ℕ} (one two : Result Counts TooLong) → Answered outcome one after
    → Answered outcome two later
    → (one ≡ two) × (after ≡ later)
run_determined one two g h = (
  same_run one two (settled g.number_is h.number_is) (settled g.stemmed_is h.stemmed_is) (settled g.left_is h.left_is),
  settled g.text_is h.text_is,
)

pub listed_determined : {outcome : Outcome} {after later : List ℕ} (one two : Result Counts (ListedRefusal TooLong)) → AnsweredListed outcome one after
    → AnsweredListed outcome two later
    → (one ≡ two) × (after ≡ later)
listed_determined one two g h = (
  same_listed one two (settled g.number_is h.number_is) (settled g.stemmed_is h.stemmed_is) (settled g.left_is h.left_is),
  settled g.text_is h.text_is,
)
