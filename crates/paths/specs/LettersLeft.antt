-- Letters taken from the last inward: what is left of them, and one letter further.
use Rattle.std.specs.Prelude.{ℕ, ◌+◌, ◌-◌, ◌≡◌, List, [], ◌∷◌, ◌++◌, length}
use Rattle.std.proofs.Common.{sym, ap, ◌∙◌, arith, append_assoc, append-nil, length-append}
use Rattle.std.proofs.Math.Seq.{get_or-append_seam}
use Rattle.walks.specs.Walk.{Nodes}
use Rattle.walks.specs.WalkSteps.{LetterStep}

-- the first letters of a word, of which the others are passed
pub record Left (rest word : List ℕ) : Type 0 where
  pub passed : List ℕ
  pub whole : word ≡ rest ++ passed

pub all_left : (word : List ℕ) → Left word word
all_left word = record { passed = []; whole = sym (append-nil word) }

-- the last of these letters, and those before it
pub record Last (rest more : List ℕ) (letter : ℕ) : Type 0 where
  pub is : rest ≡ more ++ (letter ∷ [])

pub before_it : {rest more : List ℕ} {letter : ℕ} → Last rest more letter → length rest ≡ length more + 1
before_it {rest} {more} {letter} last = omega (arith, ap length last.is, length-append more (letter ∷ []))

module _ {rest word more : List ℕ} {letter : ℕ} (left : Left rest word) (last : Last rest more letter) where
  pub one_passed : Left more word
  one_passed =
      record {
        passed = letter ∷ left.passed;
        whole = left.whole ∙ (ap (λ (l : List ℕ). l ++ left.passed) last.is ∙ append_assoc more (letter ∷ []) left.passed);
      }

  pub letter_step : {nodes : Nodes} {at one next : ℕ} → one ≡ letter → next ≡ nodes.child at one
      → LetterStep nodes word at (length rest) one next
  unfolding one_passed
  letter_step same stepped =
      record {
        more = omega (arith, before_it last);
        within = omega (arith, ap length left.whole, length-append rest left.passed);
        last =
            let place : length rest - 1 ≡ length more = omega (arith, before_it last) in
            same ∙ rw (place, one_passed.whole) (sym (get_or-append_seam more letter left.passed 0));
        stepped = stepped;
      }
