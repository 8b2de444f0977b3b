-- With a list that was accepted a call gives what 02 says; and so it does with any bytes, of the records that fit, for a word that is not
-- refused: that is what a text run asks for.
use Rattle.std.specs.Prelude.{ℕ, ◌≡◌}
use Rattle.std.proofs.Common.{sym, ◌∙◌}
use Rattle.std.proofs.Math.Path.{ap}
use mathlib.Core.List.{List}
use Rattle.paper.specs.Groups.{Reading}
use Rattle.paper.specs.Words.{taken, judged, reading_outcome, word_outcome}
use Rattle.paper.specs.WordsLaws.{outcome_taken, outcome_same}
use Rattle.lists.specs.Lists.{Entry, holding, read_list, excepting}
use Rattle.lists.specs.Calls.{listed_outcome}
use Rattle.lists.specs.Searches.{passed}
use Rattle.lists.specs.SearchLaws.{passed_held}
use Rattle.lists.specs.ExceptLaws.{by_find, listed_reads, unlisted_reads}
use Rattle.lists.specs.ListedWords.{listed_outcome_lem, unlisted_outcome}
use Rattle.exceptions.specs.Judged.{judged_outcome}

module _ (rule : List ℕ → Reading) (list word : List ℕ) where
  pub accepted_as_listed : {entries : List Entry} → read_list list ≡ holding entries
      → judged_outcome rule list word ≡ listed_outcome rule list word
  unfolding judged_outcome reading_outcome
  accepted_as_listed {entries} is =
      rw (passed_held list entries is)
      (by_find entries rule word (λ stem found. rw found (sym (listed_outcome_lem rule list word is found)))
      (λ found. rw found (sym (unlisted_outcome rule list word is found))))

  pub taken_as_excepted : taken ≡ judged word → judged_outcome rule list word ≡ word_outcome (excepting (passed list) rule) word
  unfolding judged_outcome
  taken_as_excepted is-taken =
      let entries : List Entry = passed list in
      by_find entries rule word
      (λ stem found.
      rw found
      (sym (outcome_taken (excepting entries rule) word is-taken ∙ ap (reading_outcome word) (listed_reads entries rule word found))))
      (λ found. rw found (sym (outcome_same (excepting entries rule) rule word (unlisted_reads entries rule word found))))
