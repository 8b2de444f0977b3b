-- What holds of every call on a text, by any word rule: the counts are those of the words; by one that never lengthens a word, the
-- length stays, and every byte outside words stays where it is.
use Rattle.std.specs.Prelude.{ℕ, ◌+◌, ◌≤◌, ◌<◌, ◌≡◌, refl, false, List, length, get_or}
use Rattle.std.proofs.Common.{arith}
use Rattle.paper.specs.Groups.{Reading}
use Rattle.paper.specs.LengthLaws.{NeverLengthens}
use Rattle.pieces.specs.Pieces.{is_letter, pieces}
use Rattle.texts.specs.Texts.{text_outcome}
use Rattle.texts.specs.TextsLaws.{word_count, words_within}
use Rattle.texts.proofs.TextsLaws.{counts_add_up, length-stays, others_stay}
use Rattle.texts.specs.OutcomeLaws.{either_way, finished_within}

module _ (rule : List ℕ → Reading) (text : List ℕ) where
  pub outcome_counts : length text ≤ 65536 → (text_outcome rule text).stemmed + (text_outcome rule text).left ≡ word_count (pieces text)
  outcome_counts short = rw (finished_within rule text short) (counts_add_up rule text)

  -- so the counts are small numbers
  pub counts_within : (text_outcome rule text).stemmed + (text_outcome rule text).left ≤ 65536
  counts_within =
      either_way rule text (λ o. o.stemmed + o.left ≤ 65536) (λ long. omega arith)
      (λ short. omega (arith, counts_add_up rule text, words_within text))

  module _ (never : NeverLengthens rule) where
    pub outcome-length : length (text_outcome rule text).text ≡ length text
    outcome-length =
        either_way rule text (λ o. length o.text ≡ length text) (λ long. refl) (λ short. length-stays rule never text)

    pub outcome_others : (at : ℕ) → at < length text → is_letter (get_or text at 0) ≡ false
        → get_or (text_outcome rule text).text at 0 ≡ get_or text at 0
    outcome_others at inside separates =
        either_way rule text (λ o. get_or o.text at 0 ≡ get_or text at 0) (λ long. refl)
        (λ short. others_stay rule never text at inside separates)
