-- The word rule that asks a list first, whatever reads the other words: "a listed word has its listed stem, any other word as before";
-- "The first record for a word counts."
use Rattle.std.specs.Prelude.{ℕ, ◌≡◌, refl, true, cond, List, [], ◌∷◌}
use Rattle.std.proofs.Common.{sym, ap, subst, ◌∙◌, arith}
use Rattle.std.proofs.Math.Option.{Option, none, some}
use Rattle.paper.specs.Groups.{same, Reading, done}
use Rattle.paper.specs.GroupsLaws.{same_equal}
use Rattle.paper.specs.ReadingLaws.{every}
use Rattle.paper.specs.LengthLaws.{Stems}
use Rattle.paper.specs.TestLaws.{apart, by_test, and_parts}
use Rattle.paper.specs.Words.{taken, judged}
use Rattle.paper.specs.WordsLaws.{judged_taken}
use Rattle.lists.specs.Lists.{Entry, allowed, find, stem_or, excepting}
use Rattle.lists.specs.EntryLaws.{Allowed, is_allowed}

-- ## A listed word

-- it is a word of 1 to 64 small letters, and its stem is no longer
pub found-allowed : (entries : List Entry) → every allowed entries ≡ true → (word : List ℕ) {stem : List ℕ} → find entries word ≡ some stem
    → Allowed (record { word = word; stem = stem })
unfolding find every
found-allowed [] all word is = apart (cc)
found-allowed (entry ∷ entries) all word {stem} is =
    let both = and_parts (allowed entry) (every allowed entries) all in
    by_test (same entry.word word)
    (λ here.
    let own : some entry.stem ≡ some stem = rw here at is in
    let stem_is : entry.stem ≡ stem = cc in
    let word_is = same_equal entry.word word here in
    subst Allowed (λ i. record { word = word_is i; stem = stem_is i }) (is_allowed entry both.0))
    (λ other. found-allowed entries both.1 word (rw other at is))

pub listed_taken : (entries : List Entry) → every allowed entries ≡ true → (word : List ℕ) {stem : List ℕ} → find entries word ≡ some stem
    → taken ≡ judged word
listed_taken entries all word is =
    let found = found-allowed entries all word is in
    sym (judged_taken word (λ none_there. omega (arith, found.some_word)) found.most found.small_word)

-- ## The word rule

module _ (entries : List Entry) (rule : List ℕ → Reading) (word : List ℕ) where
  pub listed_reads : {stem : List ℕ} → find entries word ≡ some stem → excepting entries rule word ≡ done stem
  unfolding excepting
  listed_reads is = rw is

  pub unlisted_reads : find entries word ≡ none → excepting entries rule word ≡ rule word
  unfolding excepting
  unlisted_reads is = rw is

  -- one or the other
  pub by_find {ℓ} : {C : Type ℓ} → ((stem : List ℕ) → find entries word ≡ some stem → C) → (find entries word ≡ none → C) → C
  by_find {C = C} listed unlisted = go (find entries word) refl
    where
      go : (found : Option (List ℕ)) → find entries word ≡ found → C
      go (some stem) is = listed stem is
      go none is = unlisted is

-- a word rule that answers every word with a stem no longer than the word does so with a list, too
pub excepting_stems : (entries : List Entry) → every allowed entries ≡ true → (rule : List ℕ → Reading) → Stems rule
    → Stems (excepting entries rule)
excepting_stems entries all rule stems word =
    by_find entries rule word
    (λ stem is. (stem, listed_reads entries rule word is, (found-allowed entries all word is).no_more))
    (λ is. let found = stems word in (found.0, unlisted_reads entries rule word is ∙ found.1, found.2))

-- with no words it is the rule itself
pub excepting_none : (rule : List ℕ → Reading) → excepting [] rule ≡ rule
unfolding excepting find
excepting_none rule = refl

-- ## "The first record for a word counts": the order matters only among the records for one word

-- the records for a word, in their order
unfoldable pub records_for : List ℕ → List Entry → List Entry
records_for word [] = []
records_for word (entry ∷ entries) = cond (same entry.word word) (entry ∷ records_for word entries) (records_for word entries)

abbrev first_stem : List Entry → Option (List ℕ)
first_stem [] = none
first_stem (entry ∷ entries) = some entry.stem

find_first : (word : List ℕ) (entries : List Entry) → find entries word ≡ first_stem (records_for word entries)
unfolding find records_for
find_first word [] = refl
find_first word (entry ∷ entries) =
    by_test (same entry.word word) (λ here. rw here refl) (λ other. rw other (find_first word entries))

pub order_free : (one other : List Entry) → ((word : List ℕ) → records_for word one ≡ records_for word other) → (rule : List ℕ → Reading)
    → excepting one rule ≡ excepting other rule
unfolding excepting
order_free one other alike rule =
    let found : (word : List ℕ) → find one word ≡ find other word =
    λ word. find_first word one ∙ ap first_stem (alike word) ∙ sym (find_first word other)
    in
    λ i word. stem_or (found word i) (rule word)
