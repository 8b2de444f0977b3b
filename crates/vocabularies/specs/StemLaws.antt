-- When a line is wrong: by its definition, and by what the word stemmer leaves in a place.
use Rattle.std.specs.Prelude.{Option, Some, None, unwrap_or, Bool, ◌&&◌, ℕ, zero, suc, ◌+◌, ◌≡◌, refl, true, false, not, ◌↔◌, List, [], ◌∷◌, ◌++◌, eqb, length}
use Rattle.std.proofs.Common.{sym, ◌∙◌, true≢false, arith}
use Rattle.std.proofs.Math.Path.{ap}
use Rattle.std.proofs.Math.ListN.{take}
use Rattle.std.proofs.Math.Seq.{take-append_seam}
use Rattle.paper.specs.Groups.{Reading, done, outgrown, same}
use Rattle.paper.specs.GroupsLaws.{same_equal, equal_same}
use Rattle.paper.proofs.ShippedLaws.{stem_done}
use Rattle.paper.specs.Numbered.{number_of}
use Rattle.paper.specs.NumberedLaws.{number_kept, number_found, number_last, every_false}
use Rattle.paper.specs.Shipped.{shipped}
use Rattle.paper.specs.TestLaws.{by_test, apart}
use Rattle.paper.specs.Words.{stem, placed, judged, taken, reading_outcome, Gives, outcome}
use Rattle.paper.specs.WordsLaws.{outcome_taken}
use Rattle.answers.specs.Answers.{refused_word}
use Rattle.answers.specs.declared.WordRefusal.{WordRefusal}
use Rattle.answers.specs.declared.WordRefusal.TheVariants.{WrongLength, OtherByte, Outgrown}
use Rattle.std.specs.Bool.{then_some}
use Rattle.std.specs.Option.{is_some}
use lib.Pointwise.{pointwise}
use Rattle.vocabularies.specs.Vocabularies.{Pair, pair, wrong}

-- ## By the definition
-- a line is right exactly if its stem is that of demand 2
right_is : (one : Pair) → wrong one ≡ false → stem shipped one.word ≡ done one.stem
unfolding wrong
right_is one is = by (stem shipped one.word) refl
  where
    by : (reading : Reading) → stem shipped one.word ≡ reading → stem shipped one.word ≡ done one.stem
    by (done left) found =
        by_test (same left one.stem) (λ is_same. found ∙ ap done (same_equal left one.stem is_same))
        (λ other. let no : true ≡ false = sym (rw (found, other) refl) ∙ is in absurd (true≢false no))
    by outgrown found = let no : true ≡ false = sym (rw found refl) ∙ is in absurd (true≢false no)

is_right : (one : Pair) → stem shipped one.word ≡ done one.stem → wrong one ≡ false
unfolding wrong
is_right one is = rw (is, equal_same {xs = one.stem} refl)

pub right_exactly : (one : Pair) → (wrong one ≡ false) ↔ (stem shipped one.word ≡ done one.stem)
right_exactly one = (right_is one, is_right one)

-- ## By what the word stemmer leaves
pointwise_same : (xs ys : List ℕ) → pointwise eqb xs ys ≡ same xs ys
unfolding same
pointwise_same [] [] = refl
pointwise_same [] (y ∷ ys) = refl
pointwise_same (x ∷ xs) [] = refl
pointwise_same (x ∷ xs) (y ∷ ys) = ap (λ (b : Bool). eqb x y && b) (pointwise_same xs ys)

pub record Left (word : List ℕ) (value : ℕ) (after : List ℕ) : Type 0 where
  pub stem_is : stem shipped word ≡ done (take value after)
  pub value_is : value ≡ length (take value after)

module _ (word : List ℕ) {value : ℕ} {after : List ℕ} where
  pub left_by : {number : ℕ} → judged word ≡ taken → Gives (outcome word) number value after → Left word value after
  unfolding reading_outcome placed
  left_by is-taken call =
      let found = stem_done word in
      let all = outcome_taken (stem shipped) word (sym is-taken) ∙ ap (reading_outcome word) found.1 in
      let is : take value after ≡ found.0 =
      rw (rw all at call.value_is, rw all at call.place_is) (take-append_seam found.0 _) in
      record {
        stem_is = rw is found.1;
        value_is = rw is (rw all at call.value_is);
      }

  module _ (left : Left word value after) (given : List ℕ) where
    -- by the letters
    pub by_letters : not (pointwise eqb (take value after) given) ≡ wrong (pair word given)
    unfolding wrong
    by_letters = rw left.stem_is (ap not (pointwise_same (take value after) given))

-- a word that is taken is not refused
not_refused : (refusal : WordRefusal) → (refused_word refusal).number ≡ 0 → ⊥
not_refused WrongLength is = omega (arith, is)
not_refused (OtherByte place) is = omega (arith, is)
not_refused Outgrown is = omega (arith, is)

pub never_refused : (word : List ℕ) (refusal : WordRefusal) {value : ℕ} {after : List ℕ} → judged word ≡ taken
    → Gives (outcome word) (refused_word refusal).number value after
    → ⊥
unfolding reading_outcome
never_refused word refusal is-taken call =
    let all = outcome_taken (stem shipped) word (sym is-taken) ∙ ap (reading_outcome word) (stem_done word).1 in
    not_refused refusal (rw all at call.number_is)

-- ## One line more
-- the number of the first wrong line, if any, after a line of this number
unfoldable pub noted_after : Option ℕ → ℕ → Pair → Option ℕ
noted_after (Some first) number one = Some first
noted_after None number one = then_some (wrong one) number

pub noted_before : (first : Option ℕ) (number : ℕ) (one : Pair) → is_some first ≡ true → first ≡ noted_after first number one
unfolding noted_after
noted_before (Some found) number one is = refl
noted_before None number one is = apart (cc)

pub noted_now : (first : Option ℕ) (number : ℕ) (one : Pair) → is_some first ≡ false
    → then_some (wrong one) number ≡ noted_after first number one
unfolding noted_after
noted_now (Some found) number one is = apart (cc)
noted_now None number one is = refl

-- 0 for none
unfoldable pub numbered : ℕ → Option ℕ
numbered zero = None
numbered (suc number) = Some (suc number)

pub number_or_0 : (number : ℕ) → unwrap_or (numbered number) 0 ≡ number
unfolding numbered
number_or_0 zero = refl
number_or_0 (suc number) = refl

pub noted_first : (before : List Pair) (one : Pair)
    → noted_after (numbered (number_of wrong 1 before)) (suc (length before)) one ≡ numbered (number_of wrong 1 (before ++ (one ∷ [])))
unfolding noted_after numbered
noted_first before one = by (number_of wrong 1 before) refl
  where
    by : (n : ℕ) → number_of wrong 1 before ≡ n
        → noted_after (numbered n) (suc (length before)) one ≡ numbered (number_of wrong 1 (before ++ (one ∷ [])))
    by zero is =
        by_test (wrong one)
        (λ so.
        let last = number_last wrong 1 before one (every_false wrong 1 before (omega arith) is) so in
        let suc-is : 1 + length before ≡ suc (length before) = omega arith in
        rw (so, last, suc-is) refl)
        (λ not_so. rw (not_so, number_kept wrong 1 before one not_so, is) refl)
    by (suc n) is =
        let found : number_of wrong 1 before ≡ 0 → ⊥ = λ none. omega (arith, none, is) in
        rw (number_found wrong 1 before one found, is) refl
