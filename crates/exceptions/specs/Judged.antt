-- What a call on a word gives with a list that was judged before, whatever its bytes: the records that fit are words with their stems.
use Rattle.std.specs.Prelude.{ℕ, Some, None, Result, List, length}
use Rattle.std.proofs.Math.Option.{Option, none, some}
use Rattle.paper.specs.Groups.{Reading, done}
use Rattle.paper.specs.Words.{placed, Outcome, Gives, reading_outcome, word_outcome}
use Rattle.answers.specs.Answers.{number_of, value_of, number_of_listed, value_of_listed}
use Rattle.answers.specs.declared.WordRefusal.{WordRefusal}
use Rattle.answers.specs.declared.ListedRefusal.{ListedRefusal}
use Rattle.lists.specs.Lists.{find}
use Rattle.lists.specs.Searches.{passed}

-- what is written, and what then stands in the word's place
abbrev pub wrote_of : Option (List ℕ) → Rattle.std.specs.Prelude.Option ℕ
wrote_of (some stem) = Some (length stem)
wrote_of none = None

abbrev pub left_by : Option (List ℕ) → List ℕ → List ℕ
left_by (some stem) word = placed word stem
left_by none word = word

-- a word for which a stem is found has it; any other is answered as without a list
abbrev pub answered_by : (List ℕ → Reading) → Option (List ℕ) → List ℕ → Outcome
answered_by rule (some stem) word = reading_outcome word (done stem)
answered_by rule none word = word_outcome rule word

unfoldable pub judged_outcome : (List ℕ → Reading) → List ℕ → List ℕ → Outcome
judged_outcome rule list word = answered_by rule (find (passed list) word) word

-- an answer gives an outcome by its number and value
abbrev pub Answered : Outcome → Result ℕ WordRefusal → List ℕ → Type 0
Answered outcome answer after = Gives outcome (number_of answer) (value_of answer) after

abbrev pub AnsweredListed : Outcome → Result ℕ (ListedRefusal WordRefusal) → List ℕ → Type 0
AnsweredListed outcome answer after = Gives outcome (number_of_listed answer) (value_of_listed answer) after
