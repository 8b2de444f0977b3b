-- One outcome for every text and every lent sheet, and when each number is given.
use Rattle.std.specs.Prelude.{Result, ℕ, suc, ◌<◌, ◌≡◌, refl, ◌↔◌, List, ltb, length}
use Rattle.std.proofs.Common.{ap, arith, ltb-true, ltb-false}
use Rattle.paper.specs.Settled.{told_one}
use Rattle.paper.specs.TestLaws.{by_test}
use Rattle.paper.specs.Words.{Outcome, refused}
use Rattle.answers.specs.Answers.{number_of_made, value_of_made}
use Rattle.answers.specs.AnswerLaws.{makings}
use Rattle.places.specs.Written.{written_to}
use Rattle.answers.specs.declared.MakingRefusal.{MakingRefusal}
use Rattle.printed.specs.Printed.{text_of}
use Rattle.printed.specs.LineNumbers.{Lined, all_lines, fault_at, lined, not_both, one_number, same_lines, feeds, counted_by_feeds}
use Rattle.lines.specs.Lines.{Line, print}
use Rattle.lines.specs.LineFeeds.{no_feed}
use Rattle.lines.specs.PrintedLines.{reads}
use Rattle.imports.specs.Makes.{sheet_made, taken, Makes, at_fault, too_short, made, WholeText, FirstAtFault, MakesTo}
use Rattle.imports.specs.TakenLaws.{of_form}

-- ## One outcome
same_size : {text : List ℕ} {these those : List Line} → WholeText text these → WholeText text those
    → length (sheet_made these) ≡ length (sheet_made those)
same_size one other = ap (λ (l : List Line). length (sheet_made l)) (same_lines reads of_form one other)

-- any two outcomes that a text and a lent sheet allow are equal
pub makes_one : {text sheet : List ℕ} {one other : Outcome} → Makes text sheet one → Makes text sheet other → one ≡ other
makes_one {sheet = sheet} (at_fault line first) (at_fault another also) =
    ap (λ (n : ℕ). refused 8 n sheet) (one_number reads of_form first also)
makes_one (at_fault line first) (too_short lines whole less) = absurd (not_both reads of_form first whole)
makes_one (at_fault line first) (made lines whole fits) = absurd (not_both reads of_form first whole)
makes_one (too_short lines whole less) (at_fault line first) = absurd (not_both reads of_form first whole)
makes_one (too_short lines whole less) (too_short others also there) = refl
makes_one (too_short lines whole less) (made others also fits) = absurd (omega (arith, same_size whole also))
makes_one (made lines whole fits) (at_fault line first) = absurd (not_both reads of_form first whole)
makes_one (made lines whole fits) (too_short others also less) = absurd (omega (arith, same_size whole also))
makes_one {sheet = sheet} (made lines whole fits) (made others also there) =
    ap (λ (l : List Line). written_to sheet (sheet_made l)) (same_lines reads of_form whole also)

-- so the contract of the importer settles its answer and what the sheet is afterwards
pub made_one : {text sheet after later : List ℕ} {one other : Result ℕ MakingRefusal} → MakesTo text sheet (number_of_made one) (value_of_made one) after
    → MakesTo text sheet (number_of_made other) (value_of_made other) later
    → (one ≡ other) × (after ≡ later)
made_one a b =
    let same = makes_one a b in
    (told_one makings (ap (λ (o : Outcome). o.number) same) (ap (λ (o : Outcome). o.value) same), ap (λ (o : Outcome). o.place) same)

-- every text and every lent sheet have one
pub makes_some : (text sheet : List ℕ) → (outcome : Outcome) × Makes text sheet outcome
makes_some text sheet = by (lined reads of_form)
  where
    by : Lined print taken text → (outcome : Outcome) × Makes text sheet outcome
    by (all_lines lines whole) =
        by_test (ltb (length sheet) (length (sheet_made lines))) (λ less. (_, too_short lines whole (ltb-true _ _ less)))
        (λ fits. (_, made lines whole (ltb-false _ _ fits)))
    by (fault_at line first) = (_, at_fault line first)

-- ## When each number is given
module _ {text sheet : List ℕ} {outcome : Outcome} where
  pub given_8 : Makes text sheet outcome → (number : ℕ) → ((outcome.number ≡ 8) × (outcome.value ≡ number)) ↔ FirstAtFault text number
  given_8 makes number = (there makes, back)
    where
      there : {o : Outcome} → Makes text sheet o → (o.number ≡ 8) × (o.value ≡ number) → FirstAtFault text number
      there (at_fault line first) is = rw (← is.1) first
      there (too_short lines whole less) is = absurd (omega (arith, is.0))
      there (made lines whole fits) is = absurd (omega (arith, is.0))

      back : FirstAtFault text number → (outcome.number ≡ 8) × (outcome.value ≡ number)
      back first =
          let same = makes_one makes (at_fault number first) in
          (ap (λ (o : Outcome). o.number) same, ap (λ (o : Outcome). o.value) same)

  pub given_9 : Makes text sheet outcome
      → (outcome.number ≡ 9) ↔ ((lines : List Line) × WholeText text lines × (length sheet < length (sheet_made lines)))
  given_9 makes = (there makes, λ short. ap (λ (o : Outcome). o.number) (makes_one makes (too_short short.0 short.1 short.2)))
    where
      there : {o : Outcome} → Makes text sheet o → o.number ≡ 9
          → (lines : List Line) × WholeText text lines × (length sheet < length (sheet_made lines))
      there (at_fault line first) is = absurd (omega arith)
      there (too_short lines whole less) is = (lines, whole, less)
      there (made lines whole fits) is = absurd (omega arith)

-- a refused call changes nothing
pub refused_unchanged : {text sheet : List ℕ} {outcome : Outcome} → Makes text sheet outcome → (outcome.number ≡ 0 → ⊥)
    → outcome.place ≡ sheet
refused_unchanged (at_fault line first) not_done = refl
refused_unchanged (too_short lines whole less) not_done = refl
refused_unchanged (made lines whole fits) not_done = absurd (not_done refl)

-- the text before the first line at fault has a line feed for each line before it
pub fault_by_feeds : {text : List ℕ} {number : ℕ} (first : FirstAtFault text number) → number ≡ suc (feeds (text_of print first.before))
fault_by_feeds first = counted_by_feeds no_feed of_form first
