-- What holds of every call on a text with a list, over any word rule: when it is refused, what a list of a close alone comes to, and that
-- the order of the records matters only among those for one word. Demand 2, "a listed word has its listed stem, any other word as
-- before", is shown in proofs/.
use Rattle.std.specs.Prelude.{ℕ, ◌≤◌, ◌<◌, ◌≡◌, refl, ◌↔◌, ◌⊎◌, List, [], length}
use Rattle.std.proofs.Common.{sym, ap, ◌∙◌, ⊎_elim, arith}
use Rattle.paper.specs.Groups.{Reading}
use Rattle.lists.specs.Lists.{Entry, faulty_at_lem, holding, read_list, excepting}
use Rattle.lists.specs.ListBytes.{list_of}
use Rattle.lists.specs.Correspondence.{FirstFaulty, refused_exactly}
use Rattle.lists.specs.ListedWords.{by_listing, close_accepted}
use Rattle.lists.specs.ExceptLaws.{records_for, order_free, excepting_none}
use Rattle.texts.specs.Texts.{Outcome, text_outcome}
use Rattle.texts.specs.ListedTexts.{listed_text}
use Rattle.texts.specs.OutcomeLaws.{done_or_5, answered_5, number_within, refused_over}

module _ (rule : List ℕ → Reading) (list text : List ℕ) where
  pub refused_10 : {place : ℕ} → read_list list ≡ faulty_at_lem place
      → listed_text rule list text ≡ record { number = 10; stemmed = place; left = 0; text = text }
  unfolding listed_text
  refused_10 is = rw is

  pub accepted_text : {entries : List Entry} → read_list list ≡ holding entries
      → listed_text rule list text ≡ text_outcome (excepting entries rule) text
  unfolding listed_text
  accepted_text is = rw is

  -- ## Each number exactly when

  number_of : {entries : List Entry} → read_list list ≡ holding entries
      → (listed_text rule list text).number ≡ (text_outcome (excepting entries rule) text).number
  number_of is = ap (λ (o : Outcome). o.number) (accepted_text is)

  -- 10 with a place, and 0 besides it, exactly when the first faulty record of the list stands there, whatever the text
  pub text_answered_10 : (place : ℕ)
      → (((listed_text rule list text).number ≡ 10) × ((listed_text rule list text).stemmed ≡ place)) ↔ FirstFaulty list place
  text_answered_10 place =
      let exactly = refused_exactly list place in (
        λ both. by_listing list
            (λ fault is.
            let there : fault ≡ place = sym (ap (λ (o : Outcome). o.stemmed) (refused_10 is)) ∙ both.1 in
            exactly.0 (is ∙ ap faulty_at_lem there))
            (λ entries is. absurd (omega (arith, number_within (excepting entries rule) text, number_of is, both.0))),
        λ first. rw (refused_10 (exactly.1 first)) (refl, refl),
      )

  -- 5 exactly when the list is accepted and "the text has more than 65,536 bytes"; otherwise, with a list that is accepted, 0
  pub text_answered_5 : ((listed_text rule list text).number ≡ 5)
      ↔ (((entries : List Entry) × (read_list list ≡ holding entries)) × (65536 < length text))
  text_answered_5 = (
    λ is. by_listing list (λ fault read. absurd (omega (arith, is, ap (λ (o : Outcome). o.number) (refused_10 read))))
        (λ entries read. ((entries, read), (answered_5 (excepting entries rule) text).0 (sym (number_of read) ∙ is))),
    λ both. number_of both.0.1 ∙ (answered_5 (excepting both.0.0 rule) text).1 both.1,
  )

  -- a refused call changes nothing
  pub text_refused_unchanged : ((listed_text rule list text).number ≡ 0 → ⊥) → (listed_text rule list text).text ≡ text
  text_refused_unchanged never =
      by_listing list (λ fault is. ap (λ (o : Outcome). o.text) (refused_10 is))
      (λ entries is.
      let with_list : List ℕ → Reading = excepting entries rule in
      ap (λ (o : Outcome). o.text) (accepted_text is)
      ∙ ⊎_elim (λ zero. absurd (never (number_of is ∙ zero)))
      (λ five. ap (λ (o : Outcome). o.text) (refused_over with_list text ((answered_5 with_list text).0 five)))
      (done_or_5 with_list text))

  -- ## So its numbers are small, but for an offset

  pub record Bounds : Type 0 where
    pub number : (listed_text rule list text).number ≤ 10
    pub left : (listed_text rule list text).left ≤ 65536
    pub either : ((listed_text rule list text).left ≡ 0) ⊎ ((listed_text rule list text).stemmed ≤ 65536)

-- ## Lists that change nothing, and lists that are alike

-- with the list of a close alone the run is the run without a list
pub close-alone_text : (rule : List ℕ → Reading) (text : List ℕ) → listed_text rule (list_of []) text ≡ text_outcome rule text
close-alone_text rule text =
    accepted_text rule (list_of []) text close_accepted ∙ ap (λ (r : List ℕ → Reading). text_outcome r text) (excepting_none rule)

-- the order of the records matters only among those for one word
pub order_free_text : (rule : List ℕ → Reading) (one other text : List ℕ) {ones others : List Entry}
    → read_list one ≡ holding ones
    → read_list other ≡ holding others
    → ((word : List ℕ) → records_for word ones ≡ records_for word others)
    → listed_text rule one text ≡ listed_text rule other text
order_free_text rule one other text {ones} {others} is also alike =
    accepted_text rule one text is
    ∙ ap (λ (r : List ℕ → Reading). text_outcome r text) (order_free ones others alike rule)
    ∙ sym (accepted_text rule other text also)
