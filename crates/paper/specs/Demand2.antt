-- Demand 2 for words, with W-201: every word of 1 to 64 small letters is done, its place afterwards holds its stem and then spaces,
-- and the value returned is the stem's length; the stem of one or two letters is the word itself, that of more letters is what the
-- shipped rules leave. And what holds of every call, by any word rule that never lengthens a word: its numbers are small.
use Rattle.std.specs.Prelude.{ℕ, ◌≤◌, ◌≡◌, List, eqb, length}
use Rattle.std.proofs.Common.{arith, length-append}
use Rattle.std.proofs.Math.Path.{refl}
use Rattle.std.proofs.lemmas.List.{length-replicate}
use borrow.Author.Tests.{ltb-false}
use Rattle.paper.specs.Groups.{Reading, done, outgrown}
use Rattle.paper.specs.TestLaws.{by_test, neither_right}
use Rattle.paper.specs.LengthLaws.{NeverLengthens}
use Rattle.paper.specs.Shipped.{shipped}
use Rattle.paper.specs.Words.{read_word, stem, placed, wrong_length, all_small, Outcome, outcome}
use Rattle.paper.specs.Words.{judged, reading_outcome, judged_outcome, word_outcome}
use Rattle.paper.specs.WordsLaws.{first_inside}

-- what a call on a word of 1 to 64 small letters gives
pub record StemmedTo (word stem-of : List ℕ) : Type 0 where
  pub stems : stem shipped word ≡ done stem-of
  pub short_stays : length word ≤ 2 → stem-of ≡ word
  pub longer_read : 3 ≤ length word → read_word shipped word ≡ done stem-of
  pub shorter : length stem-of ≤ length word
  pub gives : outcome word ≡ record { number = 0; value = length stem-of; place = placed word stem-of }

-- ## Every call

-- the number is at most 4, the value at most 64, and the place keeps its length
pub record Bounds (word : List ℕ) (o : Outcome) : Type 0 where
  pub number : o.number ≤ 4
  pub value : o.value ≤ 64
  pub place : length o.place ≡ length word

module _ (rule : List ℕ → Reading) (never : NeverLengthens rule) (word : List ℕ) where
  reading_bounds : (reading : Reading) → rule word ≡ reading → length word ≤ 64 → Bounds word (reading_outcome word reading)
  unfolding reading_outcome placed
  reading_bounds (done left) is most =
      let short = never word left is in
      record {
        number = omega arith;
        value = omega arith;
        place = simp (length-append, length-replicate) (omega arith);
      }
  reading_bounds outgrown is most = record { number = omega arith; value = omega arith; place = refl }

  pub outcome_bounds : Bounds word (word_outcome rule word)
  unfolding word_outcome judged_outcome judged wrong_length
  outcome_bounds =
      by_test (wrong_length word)
      (λ wrong. rw wrong (record { number = omega arith; value = omega arith; place = refl }))
      (λ right.
      let most = ltb-false 64 (length word) (neither_right (eqb (length word) 0) _ right) in
      by_test (all_small word)
      (λ all. rw (right, all) (reading_bounds (rule word) refl most))
      (λ other. rw (right, other) (record { number = omega arith; value = omega (arith, most, first_inside word); place = refl })))
