-- Document 01, "Numbers returned": the number and the value that each answer stands for.
use Rattle.std.specs.Prelude.{ℕ, Result, Ok, Err}
use Rattle.paper.specs.Words.{Judgement, taken, turned_down}
use Rattle.answers.specs.declared.Counts.{Counts}
use Rattle.answers.specs.declared.WordRefusal.{WordRefusal}
use Rattle.answers.specs.declared.WordRefusal.TheVariants.{WrongLength, OtherByte, Outgrown}
use Rattle.answers.specs.declared.TooLong.{TooLong}
use Rattle.answers.specs.declared.SheetCounts.{SheetCounts}
use Rattle.answers.specs.declared.FaultySheet.{FaultySheet}
use Rattle.answers.specs.declared.MakingRefusal.{MakingRefusal}
use Rattle.answers.specs.declared.MakingRefusal.TheVariants.{Line, Short as TooShort}
use Rattle.answers.specs.declared.TranslationRefusal.{TranslationRefusal}
use Rattle.answers.specs.declared.TranslationRefusal.TheVariants.{Sheet as Untranslated, Short}
use Rattle.answers.specs.declared.RunRefusal.{RunRefusal}
use Rattle.answers.specs.declared.RunRefusal.TheVariants.{Sheet as Unread, Table, Word}
use Rattle.answers.specs.declared.FaultyList.{FaultyList}
use Rattle.answers.specs.declared.ListedRefusal.{ListedRefusal}
use Rattle.answers.specs.declared.ListedRefusal.TheVariants.{List, Call}
use Rattle.answers.specs.declared.MisformedLine.{MisformedLine}

-- a number, and the value returned besides it
pub record Said : Type 0 where
  pub number : ℕ
  pub value : ℕ

abbrev pub says : ℕ → ℕ → Said
says number value = record { number = number; value = value }

-- the same of a text, with two counts
pub record TextSaid : Type 0 where
  pub number : ℕ
  pub stemmed : ℕ
  pub left : ℕ

-- "0 .. done", with what was found; or what a refusal says
abbrev pub said : {E : Type 0} → (E → Said) → Result ℕ E → Said
said refused (Ok value) = says 0 value
said refused (Err refusal) = refused refusal

-- "0 .. words stemmed and words left"; a text that is refused has no words
abbrev pub text_said : {E : Type 0} → (E → Said) → Result Counts E → TextSaid
text_said refused (Ok counts) = record { number = 0; stemmed = counts.stemmed; left = counts.left }
text_said refused (Err refusal) = record { number = (refused refusal).number; stemmed = (refused refusal).value; left = 0 }

-- ## A word

-- "1 .. the word has 0 or more than 64 bytes"; "2 .. a byte of the word is outside a to z", with the place of the first (W-204);
-- "4 .. some group's result is longer than the word's place"
abbrev pub refused_word : WordRefusal → Said
refused_word WrongLength = says 1 0
refused_word (OtherByte place) = says 2 place
refused_word Outgrown = says 4 0

-- "0 .. done .. length of the stem"
abbrev pub number_of : Result ℕ WordRefusal → ℕ
number_of answer = (said refused_word answer).number

abbrev pub value_of : Result ℕ WordRefusal → ℕ
value_of answer = (said refused_word answer).value

-- what is said before it is read
abbrev pub judgement_of : Result (Unit {0}) WordRefusal → Judgement
judgement_of (Ok _) = taken
judgement_of (Err refusal) = turned_down (refused_word refusal).number (refused_word refusal).value

-- ## A text

-- "5 .. the text has more than 65,536 bytes .. 0 and 0"
abbrev pub refused_text : TooLong → Said
refused_text _ = says 5 0

abbrev pub number_of_text : Result Counts TooLong → ℕ
number_of_text answer = (text_said refused_text answer).number

abbrev pub stemmed_of : Result Counts TooLong → ℕ
stemmed_of answer = (text_said refused_text answer).stemmed

abbrev pub left_of : Result Counts TooLong → ℕ
left_of answer = (text_said refused_text answer).left

-- ## A sheet

-- the number, the value, and how many groups the sheet has
pub record Check : Type 0 where
  pub number : ℕ
  pub value : ℕ
  pub groups : ℕ

-- "0 .. node count"
abbrev pub counting : ℕ → ℕ → Check
counting nodes groups = record { number = 0; value = nodes; groups = groups }

-- "3 .. the sheet has a faulty record .. place"
abbrev pub faulty_at : ℕ → Check
faulty_at place = record { number = 3; value = place; groups = 0 }

abbrev pub refused_sheet : FaultySheet → Said
refused_sheet sheet = says 3 sheet.place

abbrev pub tells : Result SheetCounts FaultySheet → Check
tells (Ok found) = counting found.nodes found.groups
tells (Err sheet) = faulty_at sheet.place

-- ## A sheet made from lines

-- document 02, W-202: "8, the first line not of this form or whose record 01 calls faulty .., with its line number from 1; 9, exactly when
-- the lent sheet is shorter than the sheet made", which returns 0
abbrev pub refused_making : MakingRefusal → Said
refused_making (Line line) = says 8 line
refused_making TooShort = says 9 0

-- "0 returns the length written"
abbrev pub number_of_made : Result ℕ MakingRefusal → ℕ
number_of_made answer = (said refused_making answer).number

abbrev pub value_of_made : Result ℕ MakingRefusal → ℕ
value_of_made answer = (said refused_making answer).value

-- ## A translation

-- "6 .. the lent table is shorter than 4 times the node count .. 0"
abbrev pub refused_translation : TranslationRefusal → Said
refused_translation (Untranslated sheet) = refused_sheet sheet
refused_translation Short = says 6 0

abbrev pub number_of_translated : Result ℕ TranslationRefusal → ℕ
number_of_translated answer = (said refused_translation answer).number

abbrev pub value_of_translated : Result ℕ TranslationRefusal → ℕ
value_of_translated answer = (said refused_translation answer).value

-- ## A table run

-- "7 .. the table's first 4 × node count numbers are missing or not those the sheet makes .. 0"
abbrev pub refused_run : RunRefusal → Said
refused_run (Unread sheet) = refused_sheet sheet
refused_run Table = says 7 0
refused_run (Word refusal) = refused_word refusal

abbrev pub number_of_ran : Result ℕ RunRefusal → ℕ
number_of_ran answer = (said refused_run answer).number

abbrev pub value_of_ran : Result ℕ RunRefusal → ℕ
value_of_ran answer = (said refused_run answer).value

-- ## An exception list

-- document 02, W-205: "10, a faulty list, with the offset of its first faulty record (and 0 in a text)"
abbrev pub refused_list : FaultyList → Said
refused_list list = says 10 list.offset

-- 0 with how many records it has
abbrev pub says_list : Result ℕ FaultyList → Said
says_list answer = said refused_list answer

-- ## A word, and a text, with one

abbrev pub refused_with_list : {E : Type 0} → (E → Said) → ListedRefusal E → Said
refused_with_list refused (List list) = refused_list list
refused_with_list refused (Call refusal) = refused refusal

abbrev pub number_of_listed : Result ℕ (ListedRefusal WordRefusal) → ℕ
number_of_listed answer = (said (refused_with_list refused_word) answer).number

abbrev pub value_of_listed : Result ℕ (ListedRefusal WordRefusal) → ℕ
value_of_listed answer = (said (refused_with_list refused_word) answer).value

abbrev pub number_of_listed_text : Result Counts (ListedRefusal TooLong) → ℕ
number_of_listed_text answer = (text_said (refused_with_list refused_text) answer).number

abbrev pub stemmed_of_listed : Result Counts (ListedRefusal TooLong) → ℕ
stemmed_of_listed answer = (text_said (refused_with_list refused_text) answer).stemmed

abbrev pub left_of_listed : Result Counts (ListedRefusal TooLong) → ℕ
left_of_listed answer = (text_said (refused_with_list refused_text) answer).left

-- ## A supplier's vocabulary

-- document 02, W-207: "11, the first line not of this form, with its number"
abbrev pub refused_vocabulary : MisformedLine → Said
refused_vocabulary misformed = says 11 misformed.line

-- "Number 0 returns that line, or 0 exactly when every line is right"
abbrev pub says_vocabulary : Result ℕ MisformedLine → Said
says_vocabulary answer = said refused_vocabulary answer
