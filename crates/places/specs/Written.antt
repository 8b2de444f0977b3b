-- Bytes put one behind the other from the start of a lent slice: they stand first if they fit, and what stands behind them stays.
use Rattle.std.specs.Prelude.{ℕ, ◌+◌, ◌≤◌, ◌≡◌, refl, List, [], ◌++◌, leb, length, drop}
use Rattle.std.proofs.Common.{◌∙◌, append_assoc, arith, length-append, drop-drop, leb-true}
use Rattle.std.proofs.lemmas.List.Edits.{length-paste}
use Rattle.std.proofs.Math.Seq.{take-append_seam, take-length, drop-append-add}
use Rattle.paper.specs.TestLaws.{by_test}
use Rattle.paper.specs.Words.{Outcome}
use Rattle.places.specs.Put.{put_at, put_fits}

-- document 02, "Here and in later requests 0 returns the length written, bytes beyond it stay"
abbrev pub written_to : List ℕ → List ℕ → Outcome
written_to lent bytes = record { number = 0; value = length bytes; place = bytes ++ drop (length bytes) lent }

-- these bytes were put from the start of what was lent on, as far as all of them fit
pub record Wrote (lent bytes after : List ℕ) : Type 0 where
  pub same_length : length after ≡ length lent
  pub stand : length bytes ≤ length lent → after ≡ bytes ++ drop (length bytes) lent

pub nothing_yet : (lent : List ℕ) → Wrote lent [] lent
nothing_yet lent = record { same_length = refl; stand = λ fits. refl }

-- these bytes were put at a place, behind whatever was put before
pub record Appends (at : ℕ) (more before after : List ℕ) : Type 0 where
  pub appends : (lent bytes : List ℕ) → at ≡ length bytes → Wrote lent bytes before → Wrote lent (bytes ++ more) after

length_put : (place : List ℕ) (at : ℕ) (letters : List ℕ) → length (put_at place at letters) ≡ length place
unfolding put_at
length_put place at letters =
    by_test (leb (at + length letters) (length place))
    (λ fits. rw fits (length-paste place at letters (length letters) (leb-true _ _ fits) (omega arith))) (λ is-not. rw is-not refl)

module _ (lent bytes before more : List ℕ) (wrote : Wrote lent bytes before) where
  put_stands : length (bytes ++ more) ≤ length lent
      → put_at before (length bytes) more ≡ (bytes ++ more) ++ drop (length (bytes ++ more)) lent
  put_stands fits =
      let long = length-append bytes more in
      let same = wrote.same_length in
      let so_far = wrote.stand (omega arith) in
      put_fits before (length bytes) more (omega arith)
      ∙ rw (so_far, long, take-append_seam, take-length, drop-append-add, drop-drop)

pub appends_put : (before : List ℕ) (at : ℕ) (more : List ℕ) → Appends at more before (put_at before at more)
appends_put before at more =
    record {
      appends = λ lent bytes is wrote.
          record {
            same_length = length_put before at more ∙ wrote.same_length;
            stand = λ fits. rw is (put_stands lent bytes before more wrote fits);
          };
    }

pub appends_then : {before between after first second : List ℕ} {at : ℕ} → Appends at first before between
    → Appends (at + length first) second between after
    → Appends at (first ++ second) before after
appends_then {first = first} {second} {at} one other =
    record {
      appends = λ lent bytes is wrote.
          let long = length-append bytes first in
          let both = other.appends lent (bytes ++ first) (omega arith) (one.appends lent bytes is wrote) in
          rw (append_assoc bytes first second) at both;
    }
