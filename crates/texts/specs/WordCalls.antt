-- A call on a word of 1 to 64 letters, made small, does what the text run wants of it, by any word rule.
use Rattle.std.specs.Prelude.{ℕ, ◌≤◌, ◌≡◌, List, map, length}
use Rattle.std.proofs.Common.{sym, arith, le-ltb}
use Rattle.std.proofs.lemmas.List.{length-map}
use Rattle.paper.specs.Groups.{Reading, done}
use Rattle.paper.specs.Words.{placed, taken, judged, reading_outcome, word_outcome}
use Rattle.paper.specs.WordsLaws.{judged_taken, outcome_taken}
use Rattle.pieces.specs.Pieces.{lowered}
use Rattle.pieces.specs.LongestRuns.{IsWord}
use Rattle.pieces.specs.Lowered.{all_lowered}
use Rattle.texts.specs.Texts.{stemmed_to, answered, of_word}

-- it is not refused
pub small_taken : (letters : List ℕ) → IsWord letters → length letters ≤ 64 → taken ≡ judged (map lowered letters)
small_taken letters is short =
    let long = length-map letters lowered in
    sym (judged_taken (map lowered letters) (λ none. omega (arith, is.some)) (omega arith) (all_lowered letters is.all))

pub stemmed_word : (rule : List ℕ → Reading) (letters after left : List ℕ) → IsWord letters → length letters ≤ 64
    → rule (map lowered letters) ≡ done left
    → after ≡ (word_outcome rule (map lowered letters)).place
    → of_word rule letters ≡ stemmed_to after
unfolding of_word answered reading_outcome placed
stemmed_word rule letters after left is short answers leaves =
    let long = length-map letters lowered in
    rw (
      leaves,
      outcome_taken rule (map lowered letters) (small_taken letters is short),
      answers,
      le-ltb 64 (length letters) short,
      long,
    )
