-- A call on a word with a list, over any word rule: 10 comes first; "a listed word has its listed stem, any other word as before", which
-- is demand 2 with a list; each number exactly when; and lists that change nothing, or are alike.
use Rattle.std.specs.Prelude.{ℕ, ◌≤◌, ◌≡◌, ◌↔◌, List, [], length}
use Rattle.std.proofs.Math.Path.{refl, ap}
use Rattle.std.proofs.Common.{sym, ◌∙◌, arith}
use Rattle.std.proofs.Math.Option.{none, some}
use Rattle.paper.specs.Groups.{Reading, done, outgrown}
use Rattle.paper.specs.ReadingLaws.{every}
use Rattle.paper.specs.LengthLaws.{Stems}
use Rattle.paper.proofs.ShippedLaws.{stem_done}
use Rattle.paper.specs.Shipped.{shipped}
use Rattle.paper.specs.Words.{stem, placed, taken, turned_down, Judgement, judged}
use Rattle.paper.specs.Words.{Outcome, refused, reading_outcome, judged_outcome, word_outcome}
use Rattle.paper.specs.WordsLaws.{judged_taken, outcome_taken, outcome_same}
use Rattle.paper.specs.Answered.{SmallWord, When, answered}
use Rattle.lists.specs.Lists.{Entry, Listing, faulty_at_lem, holding, read_list, find, excepting}
use Rattle.lists.specs.ListBytes.{list_of}
use Rattle.lists.specs.Calls.{with_listing, listed_outcome}
use Rattle.lists.specs.Correspondence.{accepted_exactly, FirstFaulty, refused_exactly}
use Rattle.lists.specs.ExceptLaws.{listed_taken, listed_reads, unlisted_reads, excepting_stems, excepting_none}
use Rattle.lists.specs.ExceptLaws.{records_for, order_free}

-- ## Refused or accepted

module _ (rule : List ℕ → Reading) (list word : List ℕ) where
  pub refused_10 : {place : ℕ} → read_list list ≡ faulty_at_lem place → listed_outcome rule list word ≡ refused 10 place word
  unfolding listed_outcome
  refused_10 is = rw is

  module _ {entries : List Entry} (is : read_list list ≡ holding entries) where
    pub accepted_outcome : listed_outcome rule list word ≡ word_outcome (excepting entries rule) word
    unfolding listed_outcome
    accepted_outcome = rw is

    -- a listed word has its listed stem
    pub listed_outcome_lem : {stem : List ℕ} → find entries word ≡ some stem
        → listed_outcome rule list word ≡ record { number = 0; value = length stem; place = placed word stem }
    unfolding reading_outcome
    listed_outcome_lem found =
        let all = ((accepted_exactly list entries).0 is).1 in
        accepted_outcome
        ∙ outcome_taken (excepting entries rule) word (listed_taken entries all word found)
        ∙ ap (reading_outcome word) (listed_reads entries rule word found)

    -- any other word has the outcome that it has without a list, refusals included
    pub unlisted_outcome : find entries word ≡ none → listed_outcome rule list word ≡ word_outcome rule word
    unlisted_outcome found =
        accepted_outcome ∙ outcome_same (excepting entries rule) rule word (unlisted_reads entries rule word found)

-- with the list of a close alone a call is the call without a list
pub close_accepted : read_list (list_of []) ≡ holding []
unfolding every
close_accepted = (accepted_exactly (list_of []) []).1 (refl, refl)

pub close-alone : (rule : List ℕ → Reading) (word : List ℕ) → listed_outcome rule (list_of []) word ≡ word_outcome rule word
close-alone rule word =
    accepted_outcome rule (list_of []) word close_accepted ∙ ap (λ (r : List ℕ → Reading). word_outcome r word) (excepting_none rule)

-- ## Each number exactly when

-- a list is refused or accepted
pub by_listing {ℓ} : {C : Type ℓ} (list : List ℕ) → ((place : ℕ) → read_list list ≡ faulty_at_lem place → C)
    → ((entries : List Entry) → read_list list ≡ holding entries → C)
    → C
by_listing {C = C} list faults holds = go (read_list list) refl
  where
    go : (listing : Listing) → read_list list ≡ listing → C
    go (faulty_at_lem place) is = faults place is
    go (holding entries) is = holds entries is

module _ (rule : List ℕ → Reading) (list word : List ℕ) where
  -- 10 with a place exactly when the first faulty record of the list stands there, whatever the word
  pub answered_10 : (place : ℕ)
      → (((listed_outcome rule list word).number ≡ 10) × ((listed_outcome rule list word).value ≡ place)) ↔ FirstFaulty list place
  answered_10 place =
      let exactly = refused_exactly list place in (
        λ both. by_listing list
            (λ fault is.
            let there : fault ≡ place = sym (ap (λ (o : Outcome). o.value) (refused_10 rule list word is)) ∙ both.1 in
            exactly.0 (is ∙ ap faulty_at_lem there))
            (λ entries is. absurd ((answered (excepting entries rule) word 10).0
            (sym (ap (λ (o : Outcome). o.number) (accepted_outcome rule list word is)) ∙ both.0))),
        λ first. rw (refused_10 rule list word (exactly.1 first)) (refl, refl),
      )

  -- any other number exactly when the list is accepted and the word with it is answered so
  pub answered_else : (n : ℕ) → (n ≡ 10 → ⊥)
      → ((listed_outcome rule list word).number ≡ n)
      ↔ ((entries : List Entry) × (read_list list ≡ holding entries) × When (excepting entries rule) word n)
  answered_else n not-10 = (
    λ is. by_listing list
        (λ fault read. absurd (not-10 (sym is ∙ ap (λ (o : Outcome). o.number) (refused_10 rule list word read))))
        (λ entries read. (
          entries,
          read,
          (answered (excepting entries rule) word n).0
              (sym (ap (λ (o : Outcome). o.number) (accepted_outcome rule list word read)) ∙ is),
        )),
    λ found.
        ap (λ (o : Outcome). o.number) (accepted_outcome rule list word found.1)
        ∙ (answered (excepting found.0 rule) word n).1 found.2,
  )

  -- a refused call changes nothing
  word_unchanged : (r : List ℕ → Reading) → ((word_outcome r word).number ≡ 0 → ⊥) → (word_outcome r word).place ≡ word
  unfolding word_outcome judged_outcome reading_outcome
  word_unchanged r never = by_judgement (judged word) never
    where
      by_reading : (reading : Reading) → ((reading_outcome word reading).number ≡ 0 → ⊥) → (reading_outcome word reading).place ≡ word
      by_reading (done stem) never = absurd (never refl)
      by_reading outgrown never = refl

      by_judgement : (said : Judgement) → ((judged_outcome word (r word) said).number ≡ 0 → ⊥)
          → (judged_outcome word (r word) said).place ≡ word
      by_judgement taken never = by_reading (r word) never
      by_judgement (turned_down number value) never = refl

  pub refused_unchanged : ((listed_outcome rule list word).number ≡ 0 → ⊥) → (listed_outcome rule list word).place ≡ word
  unfolding listed_outcome
  refused_unchanged = go (read_list list)
    where
      go : (listing : Listing) → ((with_listing rule listing word).number ≡ 0 → ⊥) → (with_listing rule listing word).place ≡ word
      go (faulty_at_lem place) never = refl
      go (holding entries) never = word_unchanged (excepting entries rule) never

-- the order of the records matters only among those for one word
pub order_free-outcome : (rule : List ℕ → Reading) (one other word : List ℕ) {ones others : List Entry}
    → read_list one ≡ holding ones
    → read_list other ≡ holding others
    → ((same_word : List ℕ) → records_for same_word ones ≡ records_for same_word others)
    → listed_outcome rule one word ≡ listed_outcome rule other word
order_free-outcome rule one other word {ones} {others} is also alike =
    accepted_outcome rule one word is
    ∙ ap (λ (r : List ℕ → Reading). word_outcome r word) (order_free ones others alike rule)
    ∙ sym (accepted_outcome rule other word also)

-- ## Demand 2 with a list

-- "In a run with a list, demand 2 reads: a listed word has its listed stem, any other word as before."
pub record WithList (rule : List ℕ → Reading) (list : List ℕ) (entries : List Entry) (word : List ℕ) : Type 0 where
  pub listed : {stem-of : List ℕ} → find entries word ≡ some stem-of
      → listed_outcome rule list word ≡ record { number = 0; value = length stem-of; place = placed word stem-of }
  pub unlisted : find entries word ≡ none → listed_outcome rule list word ≡ word_outcome rule word
  pub is_done : SmallWord word
      → (stem-of : List ℕ) × (listed_outcome rule list word ≡ record { number = 0; value = length stem-of; place = placed word stem-of })
      × (length stem-of ≤ length word)

pub with_list : (rule : List ℕ → Reading) → Stems rule → (list : List ℕ) {entries : List Entry} → read_list list ≡ holding entries
    → (word : List ℕ)
    → WithList rule list entries word
unfolding reading_outcome
with_list rule stems list {entries} is word =
    record {
      listed = λ found. listed_outcome_lem rule list word is found;
      unlisted = λ found. unlisted_outcome rule list word is found;
      is_done = λ small.
          let found = excepting_stems entries ((accepted_exactly list entries).0 is).1 rule stems word in
          let is-taken = sym (judged_taken word (λ no_letter. omega (arith, small.0.least)) small.0.most small.1) in (
            found.0,
            accepted_outcome rule list word is
                ∙ outcome_taken (excepting entries rule) word is-taken
                ∙ ap (reading_outcome word) found.1,
            found.2,
          );
    }

-- by the stemmer
pub demand_2_listed : (list : List ℕ) {entries : List Entry} → read_list list ≡ holding entries → (word : List ℕ)
    → WithList (stem shipped) list entries word
demand_2_listed list is word = with_list (stem shipped) stem_done list is word
