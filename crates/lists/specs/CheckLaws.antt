-- The check of a list, record by record: what is known after so many of them.
use Rattle.std.specs.Prelude.{ℕ, zero, suc, ◌+◌, ◌≤◌, ◌≡◌, true, Ok, Err, length, drop}
use Rattle.std.proofs.Math.Path.{refl, ap}
use Rattle.std.proofs.Common.{sym, ◌∙◌, zero-add, arith}
use mathlib.Core.List.{List}
use Rattle.records.specs.Framing.{body, record_length, after}
use Rattle.records.specs.FramingLaws.{next_inside}
use Rattle.records.specs.RecordLaws.{EndHere}
use Rattle.answers.specs.Answers.{Said, says_list}
use Rattle.answers.specs.declared.FaultyList.{FaultyList}
use Rattle.lists.specs.Lists.{Entry, entry_in, faulty, Listing, faulty_at_lem, holding, entry_then, read_rest, read_list}
use Rattle.lists.specs.Calls.{check_of, checked}
use Rattle.lists.specs.ListSteps.{entry-step, close-step, fault_step, EntryAt}

abbrev pub faulty_list : ℕ → FaultyList
faulty_list offset = record { offset = offset }

-- a check, with so many words before
abbrev counted : ℕ → Listing → Said
counted count (faulty_at_lem place) = record { number = 10; value = place }
counted count (holding entries) = record { number = 0; value = count + length entries }

-- the check of the whole list is that of what is left from a place on, with so many words before
pub record State (list : List ℕ) (at count : ℕ) : Type 0 where
  pub steps : ℕ
  pub enough : length list ≤ at + steps
  pub left : counted count (read_rest steps at (drop at list)) ≡ checked list

from_none : (listing : Listing) → counted 0 listing ≡ check_of listing
from_none (faulty_at_lem place) = refl
from_none (holding entries) = ap (λ (n : ℕ). record { number = 0; value = n }) (zero-add (length entries))

pub starts : (list : List ℕ) → State list 0 0
unfolding checked read_list
starts list = record { steps = length list; enough = omega arith; left = from_none (read_rest (length list) 0 list) }

one_more : (count : ℕ) (entry : Entry) (later : Listing) → counted count (entry_then entry later) ≡ counted (count + 1) later
one_more count entry (faulty_at_lem place) = refl
one_more count entry (holding entries) =
    let same : count + suc (length entries) ≡ count + 1 + length entries = omega arith in
    ap (λ (n : ℕ). record { number = 0; value = n }) same

module _ {list : List ℕ} {at count : ℕ} (state : State list at count) where
  pub past_word : {next : ℕ} → EntryAt list at next → State list next (count + 1)
  past_word {next} is = go state.steps state.enough state.left
    where
      go : (steps : ℕ) → length list ≤ at + steps → counted count (read_rest steps at (drop at list)) ≡ checked list
          → State list next (count + 1)
      go zero enough left = absurd (omega (arith, is.forward, is.inside))
      go (suc steps) enough left =
          record {
            steps = steps;
            enough = omega (arith, is.forward);
            left =
                let rest : List ℕ = drop at list in
                rw (is.left, is.next_is)
                (sym (one_more count (entry_in (body rest)) (read_rest steps (at + record_length rest) (after rest)))
                ∙ sym (ap (counted count) (entry-step steps at is.here))
                ∙ left);
          }

  pub at_close : EndHere (drop at list) → says_list (Ok count) ≡ checked list
  at_close here = go state.steps state.enough state.left
    where
      go : (steps : ℕ) → length list ≤ at + steps → counted count (read_rest steps at (drop at list)) ≡ checked list
          → says_list (Ok count) ≡ checked list
      go zero enough left = absurd (omega (arith, next_inside list at here.whole))
      go (suc steps) enough left =
          let none_more : count ≡ count + 0 = omega arith in
          ap (λ (n : ℕ). record { number = 0; value = n }) none_more ∙ sym (ap (counted count) (close-step steps at here)) ∙ left

  pub at_fault : faulty (drop at list) ≡ true → says_list (Err (faulty_list at)) ≡ checked list
  at_fault is = sym (ap (counted count) (fault_step state.steps at (drop at list) is)) ∙ state.left

-- ## What an answer says of the list

module _ (list : List ℕ) where
  pub by_refused : {place : ℕ} → says_list (Err (faulty_list place)) ≡ checked list → read_list list ≡ faulty_at_lem place
  unfolding checked
  by_refused {place} is = go (read_list list) is
    where
      go : (listing : Listing) → says_list (Err (faulty_list place)) ≡ check_of listing → listing ≡ faulty_at_lem place
      go (faulty_at_lem fault) e = ap (λ (s : Said). faulty_at_lem s.value) (sym e)
      go (holding entries) e = absurd (omega (arith, ap (λ (s : Said). s.number) e))

  pub by_accepted : {count : ℕ} → says_list (Ok count) ≡ checked list → (entries : List Entry) × (read_list list ≡ holding entries)
  unfolding checked
  by_accepted {count} is = go (read_list list) refl is
    where
      go : (listing : Listing) → read_list list ≡ listing → says_list (Ok count) ≡ check_of listing
          → (entries : List Entry) × (read_list list ≡ holding entries)
      go (faulty_at_lem fault) read e = absurd (omega (arith, ap (λ (s : Said). s.number) e))
      go (holding entries) read e = (entries, read)
