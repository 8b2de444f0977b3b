-- The number of the first line at fault: a text has one, or is whole; there is no other; and it follows from line feeds.
use Rattle.std.specs.Prelude.{ℕ, suc, ◌+◌, ◌≤◌, ◌<◌, ◌≡◌, refl, Bool, true, List, [], ◌∷◌, ◌++◌, eqb, length}
use Rattle.std.proofs.Common.{sym, ap, ◌∙◌, arith, length-append}
use Rattle.paper.specs.TestLaws.{one_if, and_parts}
use Rattle.paper.specs.Words.{small, all_small}
use Rattle.paper.specs.WordsLaws.{small_apart}
use Rattle.printed.specs.Printed.{text_of, all_taken, TakenTo, Whole, FirstFault}
use Rattle.printed.specs.PrintedLaws.{Got, Reads, all_of, taken_one, taken_some}

-- every text is whole, or has a first line at fault
pub data Lined {A : Type 0} (print : A → List ℕ) (taken : List A → A → Bool) (text : List ℕ) : Type 0 where
  all_lines : (lines : List A) → Whole print taken text lines → Lined print taken text
  fault_at : (number : ℕ) → FirstFault print taken text number → Lined print taken text

module _ {A : Type 0} {print : A → List ℕ} {taken : List A → A → Bool} {text : List ℕ} where
  pub first_here : {before : List A} {rest : List ℕ} → TakenTo print taken text before rest → 0 < length rest
      → FirstFault print taken text (suc (length before))
  first_here {before} {rest} to is = record { before = before; rest = rest; to_it = to; some_line = is; number_is = refl }

module _ {A : Type 0} {print : A → List ℕ} {form : A → Bool} {read : List ℕ → Got A} (reads : Reads print form read)
    {taken : List A → A → Bool} (of_form : (before : List A) (line : A) → taken before line ≡ true → form line ≡ true)
    {text : List ℕ} where
  pub lined : Lined print taken text
  lined = by (taken_some reads of_form text)
    where
      by : (lines : List A) × (rest : List ℕ) × TakenTo print taken text lines rest → Lined print taken text
      by (lines, [], to) = all_lines lines to
      by (lines, byte ∷ rest, to) = fault_at _ (first_here to (omega arith))

  -- not both, and one number
  pub not_both : {number : ℕ} {lines : List A} → FirstFault print taken text number → Whole print taken text lines → ⊥
  not_both first whole = omega (arith, first.some_line, ap length (taken_one reads of_form first.to_it whole).1)

  pub one_number : {one other : ℕ} → FirstFault print taken text one → FirstFault print taken text other → one ≡ other
  one_number first also =
      let same = ap length (taken_one reads of_form first.to_it also.to_it).0 in
      omega (arith, first.number_is, also.number_is)

  pub same_lines : {these those : List A} → Whole print taken text these → Whole print taken text those → these ≡ those
  same_lines one other = (taken_one reads of_form one other).0

-- each line has a byte at least
pub lines_fit : {A : Type 0} (print : A → List ℕ) (lines : List A) → length lines ≤ length (text_of print lines)
unfolding text_of
lines_fit print [] = omega arith
lines_fit print (line ∷ lines) =
    omega (arith, lines_fit print lines, length-append (print line) (10 ∷ text_of print lines))

-- so a line's number is at most the text's length
pub fault_within : {A : Type 0} {print : A → List ℕ} {taken : List A → A → Bool} {text : List ℕ} {number : ℕ}
    → FirstFault print taken text number → number ≤ length text
fault_within {print = print} first =
    let to = first.to_it.text_is in
    omega (
      arith,
      first.number_is,
      first.some_line,
      lines_fit print first.before,
      ap length to,
      length-append (text_of print first.before) first.rest,
    )

-- lines that are taken are of the form
pub forms : {A : Type 0} {form : A → Bool} {taken : List A → A → Bool}
    → ((before : List A) (line : A) → taken before line ≡ true → form line ≡ true) → (before lines : List A)
    → all_taken taken before lines ≡ true → all_of form lines ≡ true
unfolding all_taken all_of
forms of_form before [] all = refl
forms {taken = taken} of_form before (line ∷ lines) all =
    let both = and_parts (taken before line) (all_taken taken (before ++ (line ∷ [])) lines) all in
    rw (of_form before line both.0, forms of_form (before ++ (line ∷ [])) lines both.1)

-- ## Lines are counted by line feeds
unfoldable pub feeds : List ℕ → ℕ
feeds [] = 0
feeds (byte ∷ bytes) = one_if (eqb byte 10) + feeds bytes

pub feeds-append : (l m : List ℕ) → feeds (l ++ m) ≡ feeds l + feeds m
unfolding feeds
feeds-append [] m = omega arith
feeds-append (x ∷ l) m = let later = feeds-append l m in omega arith

-- where no line has one in it, so many lines are so many line feeds
pub feeds_lines : {A : Type 0} (print : A → List ℕ) (form : A → Bool) → ((line : A) → form line ≡ true → feeds (print line) ≡ 0)
    → (lines : List A) → all_of form lines ≡ true → feeds (text_of print lines) ≡ length lines
unfolding feeds text_of all_of
feeds_lines print form none [] all = refl
feeds_lines print form none (line ∷ lines) all =
    let both = and_parts (form line) (all_of form lines) all in
    let here = none line both.0 in
    let later = feeds_lines print form none lines both.1 in
    omega (arith, feeds-append (print line) (10 ∷ text_of print lines))

-- none stands among small letters
pub small_feeds : (word : List ℕ) → all_small word ≡ true → feeds word ≡ 0
unfolding feeds all_small
small_feeds [] all = refl
small_feeds (x ∷ word) all =
    let both = and_parts (small x) (all_small word) all in
    rw (small_apart x 10 both.0 refl, small_feeds word both.1) refl

-- the text before the first line at fault has a line feed for each line before it
pub counted_by_feeds : {A : Type 0} {print : A → List ℕ} {form : A → Bool} {taken : List A → A → Bool}
    → ((line : A) → form line ≡ true → feeds (print line) ≡ 0)
    → ((before : List A) (line : A) → taken before line ≡ true → form line ≡ true)
    → {text : List ℕ} {number : ℕ} (first : FirstFault print taken text number)
    → number ≡ suc (feeds (text_of print first.before))
counted_by_feeds {print = print} {form} no_feed of_form first =
    first.number_is
    ∙ ap suc (sym (feeds_lines print form no_feed first.before (forms of_form [] first.before first.to_it.all_taken_lem)))
