-- One answer for every list, and when it is which: 11, all right, or a first wrong line.
use Rattle.std.specs.Prelude.{ℕ, Result, suc, ◌≤◌, ◌≡◌, refl, true, false, ◌↔◌, List, [], ◌∷◌, ◌++◌, length}
use Rattle.std.proofs.Common.{sym, ap, ◌∙◌, true≢false, append-nil, arith}
use Rattle.paper.specs.Answered.{SmallWord}
use Rattle.paper.specs.Groups.{done}
use Rattle.paper.proofs.ShippedLaws.{stem_never_lengthens}
use Rattle.paper.specs.Letters.{letters}
use Rattle.paper.specs.Numbered.{number_of}
use Rattle.paper.specs.NumberedLaws.{Every, every_false, every_map, every-both, every_append}
use Rattle.paper.specs.NumberedLaws.{number_nowhere, number_at, number_parts, number_most}
use Rattle.paper.specs.Shipped.{shipped}
use Rattle.paper.specs.SmallLaws.{stem_small, shipped_small}
use Rattle.paper.specs.TestLaws.{and_parts, by_test}
use Rattle.paper.specs.Words.{stem}
use Rattle.answers.specs.Answers.{Said, says_vocabulary}
use Rattle.answers.specs.AnswerLaws.{vocabulary_one}
use Rattle.answers.specs.declared.MisformedLine.{MisformedLine}
use Rattle.printed.specs.Printed.{text_of, all_taken, Whole, FirstFault}
use Rattle.printed.specs.PrintedLaws.{all_of, at_end}
use Rattle.printed.specs.LineNumbers.{Lined, all_lines, fault_at, lined, not_both, one_number, same_lines, lines_fit, fault_within, forms}
use Rattle.printed.specs.LineNumbers.{feeds, feeds-append, small_feeds, feeds_lines, counted_by_feeds}
use Rattle.vocabularies.specs.Vocabularies.{Pair, print, form, taken, wrong, said, Checks, misformed, well-formed}
use Rattle.vocabularies.specs.ReadingLaws.{form_parts, parts_form, reads, of_form}
use Rattle.vocabularies.specs.StemLaws.{right_exactly}

-- ## One answer
pub checks_one : {list : List ℕ} {one other : Said} → Checks list one → Checks list other → one ≡ other
checks_one (misformed line first) (misformed another also) = ap (said 11) (one_number reads of_form first also)
checks_one (misformed line first) (well-formed pairs whole) = absurd (not_both reads of_form first whole)
checks_one (well-formed pairs whole) (misformed line first) = absurd (not_both reads of_form first whole)
checks_one (well-formed pairs whole) (well-formed others also) =
    ap (λ (l : List Pair). said 0 (number_of wrong 1 l)) (same_lines reads of_form whole also)

-- so the contract of the check settles its answer
pub checked_one : {list : List ℕ} (one other : Result ℕ MisformedLine) → Checks list (says_vocabulary one) → Checks list (says_vocabulary other)
    → one ≡ other
checked_one one other a b = vocabulary_one one other (checks_one a b)

-- every list has one
pub checks_some : (list : List ℕ) → (answer : Said) × Checks list answer
checks_some list = by (lined reads of_form)
  where
    by : Lined print taken list → (answer : Said) × Checks list answer
    by (all_lines pairs whole) = (_, well-formed pairs whole)
    by (fault_at line first) = (_, misformed line first)

-- a line's number is at most the list's length
pub within : {list : List ℕ} {answer : Said} → Checks list answer → answer.value ≤ length list
within (misformed line first) = fault_within first
within (well-formed pairs whole) =
    let text : length (text_of print pairs ++ []) ≡ length (text_of print pairs) = ap length (append-nil (text_of print pairs)) in
    omega (arith, number_most wrong 0 pairs, lines_fit print pairs, ap length whole.text_is, text)

module _ {list : List ℕ} {answer : Said} (checks : Checks list answer) where
  -- ## 11
  pub given_11 : (line : ℕ) → ((answer.number ≡ 11) × (answer.value ≡ line)) ↔ FirstFault print taken list line
  given_11 line = (there checks, back)
    where
      there : {a : Said} → Checks list a → (a.number ≡ 11) × (a.value ≡ line) → FirstFault print taken list line
      there (misformed found first) is = rw (← is.1) first
      there (well-formed pairs whole) is = absurd (omega (arith, is.0))

      back : FirstFault print taken list line → (answer.number ≡ 11) × (answer.value ≡ line)
      back first =
          let same = checks_one checks (misformed line first) in
          (ap (λ (a : Said). a.number) same, ap (λ (a : Said). a.value) same)

-- ## Right lines
-- the line's stem is that of demand 2
abbrev pub Right : Pair → Type 0
Right one = stem shipped one.word ≡ done one.stem

-- a word of 1 to 64 small letters, with its stem
abbrev pub WithItsStem : Pair → Type 0
WithItsStem one = SmallWord one.word × Right one

-- of the form, and not wrong
abbrev pub Formed : Pair → Type 0
Formed one = form one ≡ true

abbrev NotWrong : Pair → Type 0
NotWrong one = wrong one ≡ false

-- such a line is of the form: a stem is no longer than its word, and small letters too
of_the_form : (one : Pair) → WithItsStem one → Formed one
of_the_form one both =
    let word = both.0 in
    let right = both.1 in
    let short = stem_never_lengthens one.word one.stem right in
    parts_form one
    (record {
      some_letter = omega (arith, word.0.least);
      word_short = word.0.most;
      word_small = word.1;
      stem_short = omega (arith, short, word.0.most);
      stem_small = stem_small shipped shipped_small one.word one.stem word.1 right;
    })

-- and a line of the form that is not wrong is such a line
not_wrong : (one : Pair) → Formed one → NotWrong one → WithItsStem one
not_wrong one is right =
    let parts = form_parts one is in
    ((record { least = omega (arith, parts.some_letter); most = parts.word_short }, parts.word_small), (right_exactly one).0 right)

-- lines of the form, one by one
all_formed : (pairs : List Pair) → Every Formed pairs → (before : List Pair) → all_taken taken before pairs ≡ true
unfolding all_taken taken
all_formed [] each before = refl
all_formed (one ∷ pairs) each before = rw each.0 (all_formed pairs each.1 (before ++ (one ∷ [])))

each_formed : (pairs : List Pair) → all_of form pairs ≡ true → Every Formed pairs
unfolding all_of
each_formed [] all = tt
each_formed (one ∷ pairs) all =
    let both = and_parts (form one) (all_of form pairs) all in
    (both.0, each_formed pairs both.1)

all_of_lem : (pairs : List Pair) → Every Formed pairs → all_of form pairs ≡ true
unfolding all_of
all_of_lem [] each = refl
all_of_lem (one ∷ pairs) each = rw each.0 (all_of_lem pairs each.1)

whole_of : (pairs : List Pair) → Every Formed pairs → Whole print taken (text_of print pairs) pairs
whole_of pairs each =
    at_end reads of_form (record { text_is = sym (append-nil (text_of print pairs)); all_taken_lem = all_formed pairs each [] })

-- so every list of lines of the form has its answer
pub lines_answered : (pairs : List Pair) → Every Formed pairs → Checks (text_of print pairs) (said 0 (number_of wrong 1 pairs))
lines_answered pairs each = well-formed pairs (whole_of pairs each)

-- ## 0 with 0
-- the list is the printed text of words with their stems
pub record AllRight (list : List ℕ) : Type 0 where
  pub pairs : List Pair
  pub printed : list ≡ text_of print pairs
  pub each : Every WithItsStem pairs

text_is : {list : List ℕ} {pairs : List Pair} → Whole print taken list pairs → list ≡ text_of print pairs
text_is {pairs = pairs} whole = whole.text_is ∙ append-nil (text_of print pairs)

formed : {list : List ℕ} {pairs : List Pair} → Whole print taken list pairs → Every Formed pairs
formed {pairs = pairs} whole = each_formed pairs (forms of_form [] pairs whole.all_taken_lem)

right_lines : {list : List ℕ} {answer : Said} → Checks list answer → answer.number ≡ 0 → answer.value ≡ 0 → AllRight list
right_lines (misformed line first) zeroth is = absurd (omega (arith, zeroth))
right_lines (well-formed pairs whole) zeroth is =
    record {
      pairs = pairs;
      printed = text_is whole;
      each = every-both Formed NotWrong WithItsStem not_wrong pairs (formed whole) (every_false wrong 1 pairs (omega arith) is);
    }

pub all_right : (list : List ℕ) → Checks list (said 0 0) ↔ AllRight list
all_right list = (λ checks. right_lines checks refl refl, back)
  where
    back : AllRight list → Checks list (said 0 0)
    back all =
        let pairs = all.pairs in
        let each = every_map WithItsStem Formed of_the_form pairs all.each in
        let right = every_map WithItsStem NotWrong (λ one stemmed. (right_exactly one).1 stemmed.1) pairs all.each in
        rw all.printed (rw (number_nowhere wrong 1 pairs right) at (lines_answered pairs each))

-- ## 0 with a line
-- the list is the printed text of lines of the form; this one's stem is not that of demand 2, and those before it are right
pub record FirstWrong (list : List ℕ) (line : ℕ) : Type 0 where
  pub before : List Pair
  pub one : Pair
  pub after : List Pair
  pub printed : list ≡ text_of print (before ++ (one ∷ after))
  pub each : Every Formed (before ++ (one ∷ after))
  pub right_before : Every Right before
  pub not_right : Right one → ⊥
  pub line_is : line ≡ suc (length before)

wrong_line : {list : List ℕ} {answer : Said} (line : ℕ) → Checks list answer → answer.number ≡ 0 → answer.value ≡ suc line
    → FirstWrong list (suc line)
wrong_line line (misformed found first) zeroth is = absurd (omega (arith, zeroth))
wrong_line line (well-formed pairs whole) zeroth is =
    let parts = number_parts wrong 1 pairs line (omega arith) (omega (arith, is)) in
    record {
      before = parts.front;
      one = parts.one;
      after = parts.back;
      printed = text_is whole ∙ ap (text_of print) parts.list_is;
      each = rw parts.list_is at (formed whole);
      right_before = every_map NotWrong Right (λ one. (right_exactly one).0) parts.front parts.none_before;
      not_right = λ right. true≢false (sym parts.passes ∙ (right_exactly parts.one).1 right);
      line_is = ap suc parts.place_is;
    }

pub first_wrong : (list : List ℕ) (line : ℕ) → Checks list (said 0 (suc line)) ↔ FirstWrong list (suc line)
first_wrong list line = (λ checks. wrong_line line checks refl refl, back)
  where
    back : FirstWrong list (suc line) → Checks list (said 0 (suc line))
    back found =
        let pairs = found.before ++ (found.one ∷ found.after) in
        let right = every_map Right NotWrong (λ one. (right_exactly one).1) found.before found.right_before in
        let so : wrong found.one ≡ true =
        by_test (wrong found.one) (λ is. is) (λ is-not. absurd (found.not_right ((right_exactly found.one).0 is-not))) in
        let number : number_of wrong 1 pairs ≡ suc line =
        omega (arith, number_at wrong 1 found.before found.one found.after right so, found.line_is) in
        rw found.printed (rw number at (lines_answered pairs found.each))

-- ## Lines are counted by line feeds
no_feed : (one : Pair) → form one ≡ true → feeds (print one) ≡ 0
unfolding print letters feeds
no_feed one is =
    let parts = form_parts one is in
    omega (
      arith,
      feeds-append one.word (32 ∷ one.stem),
      small_feeds one.word parts.word_small,
      small_feeds one.stem parts.stem_small,
    )

-- the text before the line that is named has a line feed for each line before it
pub misformed_by_feeds : {list : List ℕ} {line : ℕ} (first : FirstFault print taken list line)
    → line ≡ suc (feeds (text_of print first.before))
misformed_by_feeds first = counted_by_feeds no_feed of_form first

pub wrong_by_feeds : {list : List ℕ} {line : ℕ} (first : FirstWrong list line) → line ≡ suc (feeds (text_of print first.before))
wrong_by_feeds first =
    let each = (every_append Formed first.before (first.one ∷ first.after) first.each).0 in
    first.line_is ∙ ap suc (sym (feeds_lines print form no_feed first.before (all_of_lem first.before each)))
