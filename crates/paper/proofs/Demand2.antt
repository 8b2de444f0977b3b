-- Demand 2 for words, shown: what a call on a word of 1 to 64 small letters gives.
use Rattle.std.specs.Prelude.{ℕ, ◌≤◌, ◌≡◌, true, List, length}
use Rattle.std.proofs.Common.{arith, sym, ap, ◌∙◌}
use Rattle.paper.specs.Groups.{done}
use Rattle.paper.specs.Demand2.{StemmedTo}
use Rattle.paper.specs.Shipped.{shipped}
use Rattle.paper.specs.Words.{stem, all_small, reading_outcome}
use Rattle.paper.specs.WordsLaws.{judged_taken, outcome_taken, stem_short, stem_longer}
use Rattle.paper.proofs.ShippedLaws.{stem_done}

pub demand_2 :
    (word : List ℕ) → 1 ≤ length word → length word ≤ 64 → all_small word ≡ true → (stem-of : List ℕ) × StemmedTo word stem-of
unfolding reading_outcome
demand_2 word least most all =
    let found = stem_done word in
    let is-taken = sym (judged_taken word (λ none. omega arith) most all) in (
      found.0,
      record {
        stems = found.1;
        short_stays = λ few. let own : done found.0 ≡ done word = sym found.1 ∙ stem_short shipped word few in cc;
        longer_read = λ many. sym (stem_longer shipped word many) ∙ found.1;
        shorter = found.2;
        gives = outcome_taken (stem shipped) word is-taken ∙ ap (reading_outcome word) found.1;
      },
    )
