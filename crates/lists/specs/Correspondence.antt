-- Accepted lists and lists of allowed words with their stems correspond one to one; and a check answers 10 with a place exactly when the
-- first faulty record stands there. `ReadBack` and `SplitLists` have the two ways.
use Rattle.std.specs.Prelude.{ℕ, zero, suc, ◌+◌, ◌≤◌, ◌≡◌, refl, true, ◌↔◌, List, [], ◌++◌, length}
use Rattle.std.proofs.Common.{ap, ◌∙◌, arith}
use Rattle.paper.specs.ReadingLaws.{every}
use Rattle.records.specs.Framing.{record_of}
use Rattle.records.specs.FramingLaws.{some_bytes}
use Rattle.lists.specs.Lists.{Entry, allowed, faulty, Listing, faulty_at_lem, holding, read_rest, read_list}
use Rattle.lists.specs.ListBytes.{records_of, list_of}
use Rattle.lists.specs.Calls.{check_of, checked}
use Rattle.lists.specs.ListSteps.{close-step, fault_step}
use Rattle.lists.specs.ReadBack.{entries_then, then-close, then_fault, close_here, read_on}
use Rattle.lists.specs.SplitLists.{Split, split_rest}

closes : (more place : ℕ) → length (record_of 3 []) ≤ more → read_rest more place (record_of 3 []) ≡ holding []
closes zero place enough = absurd (omega (arith, some_bytes 3 []))
closes (suc more) place enough = close-step more place close_here

-- a list is accepted, as these words with their stems, exactly if they are allowed and it is their bytes
pub accepted_exactly : (list : List ℕ) (entries : List Entry)
    → (read_list list ≡ holding entries) ↔ ((list ≡ list_of entries) × (every allowed entries ≡ true))
unfolding read_list list_of
accepted_exactly list entries = (forth, back)
  where
    forth : read_rest (length list) 0 list ≡ holding entries → (list ≡ records_of entries ++ record_of 3 []) × (every allowed entries ≡ true)
    forth is =
        let split : Split 0 list (holding entries) = rw is at (split_rest (length list) 0 list (omega arith)) in
        let same = split.ends.0 in
        (split.joined ∙ rw (split.ends.1, same) refl, rw same split.are_allowed)

    back : (list ≡ records_of entries ++ record_of 3 []) × (every allowed entries ≡ true) → read_rest (length list) 0 list ≡ holding entries
    back both =
        let on = read_on entries (length list) 0 (record_of 3 []) both.1 (omega (arith, ap length both.0)) in
        ap (read_rest (length list) 0) both.0
        ∙ on.read
        ∙ ap (entries_then entries) (closes on.fewer (0 + length (records_of entries)) on.enough)
        ∙ then-close entries

-- "a faulty list, with the offset of its first faulty record": allowed words with their stems stand before it
pub record FirstFaulty (list : List ℕ) (place : ℕ) : Type 0 where
  pub before : List Entry
  pub left : List ℕ
  pub are_allowed : every allowed before ≡ true
  pub joined : list ≡ records_of before ++ left
  pub place_is : place ≡ length (records_of before)
  pub is_faulty : faulty left ≡ true

pub refused_exactly : (list : List ℕ) (place : ℕ) → (read_list list ≡ faulty_at_lem place) ↔ FirstFaulty list place
unfolding read_list
refused_exactly list place = (forth, back)
  where
    forth : read_rest (length list) 0 list ≡ faulty_at_lem place → FirstFaulty list place
    forth is =
        let split : Split 0 list (faulty_at_lem place) = rw is at (split_rest (length list) 0 list (omega arith)) in
        record {
          before = split.before;
          left = split.left;
          are_allowed = split.are_allowed;
          joined = split.joined;
          place_is = omega (arith, split.ends.0);
          is_faulty = split.ends.1;
        }

    back : FirstFaulty list place → read_rest (length list) 0 list ≡ faulty_at_lem place
    back first =
        let on = read_on first.before (length list) 0 first.left first.are_allowed (omega (arith, ap length first.joined)) in
        let end : ℕ = 0 + length (records_of first.before) in
        let there : end ≡ place = omega (arith, first.place_is) in
        ap (read_rest (length list) 0) first.joined
        ∙ on.read
        ∙ ap (entries_then first.before) (fault_step on.fewer end first.left first.is_faulty)
        ∙ then_fault first.before end
        ∙ ap faulty_at_lem there

-- a check answers 10 with a place exactly when the first faulty record stands there
pub answered_10 : (list : List ℕ) (place : ℕ) → (((checked list).number ≡ 10) × ((checked list).value ≡ place)) ↔ FirstFaulty list place
unfolding checked
answered_10 list place =
    let exactly = refused_exactly list place in
    (λ both. exactly.0 (by (read_list list) both), λ first. rw (exactly.1 first) (refl, refl))
  where
    by : (listing : Listing) → ((check_of listing).number ≡ 10) × ((check_of listing).value ≡ place) → listing ≡ faulty_at_lem place
    by (faulty_at_lem fault) both = ap faulty_at_lem both.1
    by (holding entries) both = absurd (omega (arith, both.0))

-- and 0 with how many records there are exactly for the bytes of as many allowed words with their stems
pub answered_0 : (list : List ℕ) (count : ℕ)
    → (((checked list).number ≡ 0) × ((checked list).value ≡ count))
    ↔ ((entries : List Entry) × (list ≡ list_of entries) × (every allowed entries ≡ true) × (length entries ≡ count))
unfolding checked
answered_0 list count = (λ both. by (read_list list) refl both, back)
  where
    by : (listing : Listing) → read_list list ≡ listing → ((check_of listing).number ≡ 0) × ((check_of listing).value ≡ count)
        → (entries : List Entry) × (list ≡ list_of entries) × (every allowed entries ≡ true) × (length entries ≡ count)
    by (faulty_at_lem fault) is both = absurd (omega (arith, both.0))
    by (holding entries) is both =
        let exactly = (accepted_exactly list entries).0 is in (entries, exactly.0, exactly.1, both.1)

    back : (entries : List Entry) × (list ≡ list_of entries) × (every allowed entries ≡ true) × (length entries ≡ count)
        → ((check_of (read_list list)).number ≡ 0) × ((check_of (read_list list)).value ≡ count)
    back all = rw ((accepted_exactly list all.0).1 (all.1, all.2)) (refl, all.3)
