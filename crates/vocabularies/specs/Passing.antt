-- The way through the lines of a list: what is known where a line begins, and what the pass answers.
use Prim.Native.Nat.{ℕ, suc, ◌+◌, ◌≤◌, ◌<◌}
use Rattle.std.specs.Prelude.{◌≡◌, refl, Option, Some, None, unwrap_or, List, [], ◌∷◌, ◌++◌, length, take, drop}
use Rattle.std.proofs.Common.{sym, ap, arith}
use Rattle.std.proofs.Math.ListN.{length-append, length-drop}
use Rattle.std.proofs.lemmas.List.{nil_from_length}
use Rattle.paper.specs.Numbered.{number_of}
use Rattle.paper.specs.Words.{judged, taken as judgement_taken}
use Rattle.paper.specs.WordsLaws.{judged_taken}
use Rattle.printed.specs.PrintedLaws.{Passed, no_line_yet, at_nothing, one_more, at_end}
use Rattle.printed.specs.LineNumbers.{first_here}
use Rattle.vocabularies.specs.Vocabularies.{Pair, print, taken, wrong, said, Checks, misformed, well-formed}
use Rattle.vocabularies.specs.Reading.{lengths, found_in, pair_in, size, told, read_line}
use Rattle.vocabularies.specs.ReadingLaws.{LineHere, line_here, parts_form, reads, of_form}
use Rattle.vocabularies.specs.StemLaws.{noted_after, numbered, number_or_0, noted_first}

-- the next line has this number, and the first wrong one of those before it, if any, this one
pub record State (list rest : List ℕ) (number : ℕ) (first : Option ℕ) : Type 0 where
  pub before : List Pair
  pub so_far : Passed print taken list before rest
  pub number_is : number ≡ suc (length before)
  pub first_is : first ≡ numbered (number_of wrong 1 before)
  pub few : number + length rest ≤ suc (length list)

pub starts : (list : List ℕ) → State list list 1 None
unfolding number_of numbered
starts list = record { before = []; so_far = no_line_yet print taken list; number_is = refl; first_is = refl; few = omega arith }

module _ {list rest : List ℕ} {number : ℕ} {first : Option ℕ} (state : State list rest number first) where
  -- ## No line stands here
  pub not_of_form : 0 < length rest → found_in rest ≡ None → Checks list (said 11 number)
  unfolding read_line
  not_of_form some is =
      let to = at_nothing reads of_form state.so_far (ap (told rest) is) in
      rw state.number_is (misformed _ (first_here to some))

  -- ## A line stands here
  module _ (word stem : ℕ) (is : found_in rest ≡ Some (lengths word stem)) where
    abbrev one : Pair
    one = pair_in rest word stem

    line : LineHere rest word stem
    line = line_here rest word stem is

    pub word_long : word ≡ length (take word rest)
    word_long = sym line.word_is

    pub word_taken : judged (take word rest) ≡ judgement_taken
    word_taken =
        let form = line.of_form in
        judged_taken (take word rest) (λ none. omega (arith, form.some_letter)) form.word_short form.word_small

    pub line_inside : size word stem ≤ length rest
    line_inside = line.size_inside

    pub next : State list (drop (size word stem) rest) (number + 1) (noted_after first number one)
    unfolding read_line taken
    next =
        record {
          before = state.before ++ (one ∷ []);
          so_far = one_more reads of_form state.so_far (ap (told rest) is) (parts_form one line.of_form);
          number_is = omega (arith, state.number_is, length-append state.before (one ∷ []));
          first_is = rw (state.number_is, state.first_is) (noted_first state.before one);
          few = omega (arith, state.few, line.size_inside, length-drop (size word stem) rest);
        }

  -- ## The end of the list
  pub all_passed : length rest ≡ 0 → Checks list (said 0 (unwrap_or first 0))
  all_passed end =
      let nothing_left = nil_from_length rest end in
      rw (state.first_is, number_or_0) (well-formed state.before (at_end reads of_form (rw nothing_left at state.so_far)))
