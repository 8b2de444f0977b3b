-- An answer is told by its numbers: any two answers that a contract allows are equal.
use Rattle.std.specs.Prelude.{ℕ, ◌≡◌, refl, cond, eqb, Result, Ok, Err}
use Rattle.std.proofs.Common.{sym, ap, ◌∙◌}
use Rattle.paper.specs.Settled.{Told, settled}
use Rattle.paper.specs.Words.{Judgement, taken, turned_down}
use Rattle.answers.specs.Answers.{number_of, value_of, judgement_of, Check, tells, number_of_translated, value_of_translated}
use Rattle.answers.specs.Answers.{number_of_made, value_of_made, number_of_ran, value_of_ran}
use Rattle.answers.specs.Answers.{Said, says_list, number_of_listed, value_of_listed, says_vocabulary}
use Rattle.answers.specs.declared.WordRefusal.{WordRefusal}
use Rattle.answers.specs.declared.WordRefusal.TheVariants.{WrongLength, OtherByte, Outgrown}
use Rattle.answers.specs.declared.SheetCounts.{SheetCounts}
use Rattle.answers.specs.declared.FaultySheet.{FaultySheet}
use Rattle.answers.specs.declared.MakingRefusal.{MakingRefusal}
use Rattle.answers.specs.declared.MakingRefusal.TheVariants.{Line, Short as TooShort}
use Rattle.answers.specs.declared.TranslationRefusal.{TranslationRefusal}
use Rattle.answers.specs.declared.TranslationRefusal.TheVariants.{Sheet as Untranslated, Short}
use Rattle.answers.specs.declared.RunRefusal.{RunRefusal}
use Rattle.answers.specs.declared.RunRefusal.TheVariants.{Sheet as Unread, Table, Word}
use Rattle.answers.specs.declared.FaultyList.{FaultyList}
use Rattle.answers.specs.declared.ListedRefusal.{ListedRefusal}
use Rattle.answers.specs.declared.ListedRefusal.TheVariants.{List, Call}
use Rattle.answers.specs.declared.MisformedLine.{MisformedLine}

-- ## A word

unfoldable pub word_refusal_of : ℕ → ℕ → WordRefusal
word_refusal_of number value = cond (eqb number 1) WrongLength (cond (eqb number 2) (OtherByte value) Outgrown)

unfoldable pub answer_of : ℕ → ℕ → Result ℕ WordRefusal
answer_of number value = cond (eqb number 0) (Ok value) (Err (word_refusal_of number value))

pub answer_is : (answer : Result ℕ WordRefusal) → answer_of (number_of answer) (value_of answer) ≡ answer
unfolding answer_of word_refusal_of
answer_is (Ok n) = refl
answer_is (Err WrongLength) = refl
answer_is (Err (OtherByte place)) = refl
answer_is (Err Outgrown) = refl

abbrev pub answers : Told (Result ℕ WordRefusal)
answers = record { number = number_of; value = value_of; back = answer_of; back_is = answer_is }

unfoldable judged_of : Judgement → Result (Unit {0}) WordRefusal
judged_of taken = Ok tt
judged_of (turned_down number value) = Err (word_refusal_of number value)

judged_is : (one : Result (Unit {0}) WordRefusal) → judged_of (judgement_of one) ≡ one
unfolding judged_of word_refusal_of
judged_is (Ok _) = refl
judged_is (Err WrongLength) = refl
judged_is (Err (OtherByte place)) = refl
judged_is (Err Outgrown) = refl

pub judged_one :
    {said : Judgement} (one other : Result (Unit {0}) WordRefusal)
    → judgement_of one ≡ said
    → judgement_of other ≡ said
    → one ≡ other
judged_one one other is also = sym (judged_is one) ∙ ap judged_of (settled is also) ∙ judged_is other

-- ## A sheet

unfoldable checked_of : Check → Result SheetCounts FaultySheet
checked_of check =
    cond
    (eqb check.number 0)
    (Ok (record { nodes = check.value; groups = check.groups }))
    (Err (record { place = check.value }))

checked_is : (answer : Result SheetCounts FaultySheet) → checked_of (tells answer) ≡ answer
unfolding checked_of
checked_is (Ok counts) = refl
checked_is (Err sheet) = refl

pub checked_one :
    {check : Check} (one other : Result SheetCounts FaultySheet) → tells one ≡ check → tells other ≡ check → one ≡ other
checked_one one other is also = sym (checked_is one) ∙ ap checked_of (settled is also) ∙ checked_is other

-- ## A sheet made from lines

unfoldable pub made_of : ℕ → ℕ → Result ℕ MakingRefusal
made_of number value = cond (eqb number 0) (Ok value) (Err (cond (eqb number 8) (Line value) TooShort))

pub made_is : (answer : Result ℕ MakingRefusal) → made_of (number_of_made answer) (value_of_made answer) ≡ answer
unfolding made_of
made_is (Ok length) = refl
made_is (Err (Line line)) = refl
made_is (Err TooShort) = refl

abbrev pub makings : Told (Result ℕ MakingRefusal)
makings = record { number = number_of_made; value = value_of_made; back = made_of; back_is = made_is }

-- ## A translation, and a table run

unfoldable pub translated_of : ℕ → ℕ → Result ℕ TranslationRefusal
translated_of number value =
    cond (eqb number 0) (Ok value) (Err (cond (eqb number 3) (Untranslated (record { place = value })) Short))

pub translated_is :
    (answer : Result ℕ TranslationRefusal) → translated_of (number_of_translated answer) (value_of_translated answer) ≡ answer
unfolding translated_of
translated_is (Ok count) = refl
translated_is (Err (Untranslated sheet)) = refl
translated_is (Err Short) = refl

abbrev pub translations : Told (Result ℕ TranslationRefusal)
translations = record { number = number_of_translated; value = value_of_translated; back = translated_of; back_is = translated_is }

unfoldable pub run_refusal_of : ℕ → ℕ → RunRefusal
run_refusal_of number value =
    cond
    (eqb number 3)
    (Unread (record { place = value }))
    (cond (eqb number 7) Table (Word (word_refusal_of number value)))

unfoldable pub ran_of : ℕ → ℕ → Result ℕ RunRefusal
ran_of number value = cond (eqb number 0) (Ok value) (Err (run_refusal_of number value))

pub ran_is : (ran : Result ℕ RunRefusal) → ran_of (number_of_ran ran) (value_of_ran ran) ≡ ran
unfolding ran_of run_refusal_of word_refusal_of
ran_is (Ok size) = refl
ran_is (Err (Word WrongLength)) = refl
ran_is (Err (Word (OtherByte place))) = refl
ran_is (Err (Word Outgrown)) = refl
ran_is (Err (Unread sheet)) = refl
ran_is (Err Table) = refl

abbrev pub runs : Told (Result ℕ RunRefusal)
runs = record { number = number_of_ran; value = value_of_ran; back = ran_of; back_is = ran_is }

-- ## An exception list, and a word with one

unfoldable list_said : Said → Result ℕ FaultyList
list_said said = cond (eqb said.number 0) (Ok said.value) (Err (record { offset = said.value }))

list_is : (answer : Result ℕ FaultyList) → list_said (says_list answer) ≡ answer
unfolding list_said
list_is (Ok count) = refl
list_is (Err list) = refl

pub list_one : {said : Said} (one other : Result ℕ FaultyList) → says_list one ≡ said → says_list other ≡ said → one ≡ other
list_one one other is also = sym (list_is one) ∙ ap list_said (settled is also) ∙ list_is other

unfoldable pub listed_of : ℕ → ℕ → Result ℕ (ListedRefusal WordRefusal)
listed_of number value =
    cond
    (eqb number 0)
    (Ok value)
    (Err (cond (eqb number 10) (List (record { offset = value })) (Call (word_refusal_of number value))))

pub listed_is :
    (answer : Result ℕ (ListedRefusal WordRefusal)) → listed_of (number_of_listed answer) (value_of_listed answer) ≡ answer
unfolding listed_of word_refusal_of
listed_is (Ok size) = refl
listed_is (Err (Call WrongLength)) = refl
listed_is (Err (Call (OtherByte place))) = refl
listed_is (Err (Call Outgrown)) = refl
listed_is (Err (List list)) = refl

abbrev pub listed_words : Told (Result ℕ (ListedRefusal WordRefusal))
listed_words = record { number = number_of_listed; value = value_of_listed; back = listed_of; back_is = listed_is }

-- ## A supplier's vocabulary

unfoldable vocabulary_said : Said → Result ℕ MisformedLine
vocabulary_said said = cond (eqb said.number 0) (Ok said.value) (Err (record { line = said.value }))

vocabulary_is : (answer : Result ℕ MisformedLine) → vocabulary_said (says_vocabulary answer) ≡ answer
unfolding vocabulary_said
vocabulary_is (Ok line) = refl
vocabulary_is (Err misformed) = refl

pub vocabulary_one : (one other : Result ℕ MisformedLine) → says_vocabulary one ≡ says_vocabulary other → one ≡ other
vocabulary_one one other same = sym (vocabulary_is one) ∙ ap vocabulary_said same ∙ vocabulary_is other
