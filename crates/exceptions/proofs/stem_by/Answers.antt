-- `exceptions::stem_by` meets its contract: a stem was written, or the word goes to the word stemmer as it came.
use Rattle.std.proofs.Common.{ℕ, ◌≡◌, refl, List, Some, None}
use Rattle.std.proofs.Math.Option.{Option, none, some}
use Rattle.paper.specs.Groups.{Reading}
use Rattle.paper.specs.Shipped.{shipped}
use Rattle.paper.specs.TestLaws.{apart}
use Rattle.paper.specs.Words.{stem, Gives, word_outcome, reading_outcome}
use Rattle.lists.specs.Lists.{find}
use Rattle.lists.specs.Searches.{passed}
use Rattle.exceptions.specs.Judged.{wrote_of, left_by, answered_by, judged_outcome}
use Rattle.exceptions.proofs.stem_by.Goals as goal

module _ (rule : List ℕ → Reading) (word : List ℕ) {after : List ℕ} where
  -- a stem of so many letters was written
  written : (found : Option (List ℕ)) {size : ℕ} → Some size ≡ wrote_of found → after ≡ left_by found word
      → Gives (answered_by rule found word) 0 size after
  unfolding reading_outcome
  written (some found) is left = record { number_is = refl; value_is = cc; place_is = left }
  written none is left = apart (cc)

  -- nothing was: the word is as it came
  passed_on : (found : Option (List ℕ)) {number value : ℕ} {last : List ℕ} → None ≡ wrote_of found → after ≡ left_by found word
      → Gives (word_outcome rule after) number value last
      → Gives (answered_by rule found word) number value last
  passed_on (some found) is left gives = apart (cc)
  passed_on none is left gives = rw left at gives

pub returns-in-Some : goal.returns-in-Some
unfolding judged_outcome
returns-in-Some c =
    let args = c.args in
    written (stem shipped) args.word.now (find (passed args.list.now) args.word.now) c.in-Some.ensures.value c.in-Some.ensures.word_after

pub returns-in-None : goal.returns-in-None
unfolding judged_outcome
returns-in-None c =
    let args = c.args in
    passed_on (stem shipped) args.word.now (find (passed args.list.now) args.word.now) c.in-None.ensures.value c.in-None.ensures.word_after
    c.stem.ensures
