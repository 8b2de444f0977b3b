-- Reading a list, record by record: what a record is by cases, one step of reading for each, and the way through a list by places.
use Rattle.std.specs.Prelude.{ℕ, zero, suc, ◌+◌, ◌≤◌, ◌<◌, ◌≡◌, refl, Bool, true, false, not, Option, Some, None, List, [], ◌∷◌, eqb, length, drop}
use Rattle.std.proofs.Common.{arith}
use borrow.Author.Tests.{eqb-true, ne_eqb, eqb-false, not-false}
use Rattle.paper.specs.ListLaws.{empty}
use Rattle.paper.specs.TestLaws.{by_test, neither_left, neither_right}
use Rattle.records.specs.Framing.{body_length, kind, body, record_length, after, cut, next_place}
use Rattle.records.specs.FramingLaws.{beyond, next_inside}
use Rattle.records.specs.Records.{faulty_end}
use Rattle.records.specs.RecordLaws.{EndHere}
use Rattle.lists.specs.Lists.{entry_in, faulty_entry, faulty, faulty_at_lem, holding, entry_then, read_rest}
use Rattle.lists.specs.Searches.{item_at}
use Rattle.lists.specs.declared.Item.{Item}
use Rattle.lists.specs.declared.Item.TheVariants.{Word, Close}

-- ## One record

pub record EntryHere (rest : List ℕ) : Type 0 where
  pub whole : cut rest ≡ false
  pub is_entry : kind rest ≡ 4
  pub sound : faulty_entry (body rest) ≡ false

pub data Found (rest : List ℕ) : Type 0 where
  a_fault : faulty rest ≡ true → Found rest
  an_entry : EntryHere rest → Found rest
  the_close : EndHere rest → Found rest

module _ (rest : List ℕ) (whole : cut rest ≡ false) where
  entry_by : kind rest ≡ 4 → Found rest
  unfolding faulty
  entry_by is =
      by_test (faulty_entry (body rest)) (λ wrong. a_fault (rw (whole, is, wrong)))
      (λ sound. an_entry (record { whole = whole; is_entry = is; sound = sound }))

  other_by : (kind rest ≡ 4 → ⊥) → Found rest
  unfolding faulty
  other_by not-four =
      by_test (eqb (kind rest) 3)
      (λ three.
      let is = eqb-true (kind rest) 3 three in
      by_test (faulty_end rest) (λ wrong. a_fault (rw (whole, is, wrong)))
      (λ sound. the_close (record { whole = whole; is_end = is; sound = sound })))
      (λ not_three. a_fault (simp (whole, ne_eqb (kind rest) 4 not-four, not_three)))

pub look : (rest : List ℕ) → Found rest
unfolding faulty
look rest =
    by_test (cut rest) (λ short. a_fault (rw short))
    (λ whole.
    by_test (eqb (kind rest) 4) (λ four. entry_by rest whole (eqb-true _ _ four))
    (λ not-four. other_by rest whole (eqb-false (kind rest) 4 not-four)))

module _ {rest : List ℕ} where
  pub entry_sound : EntryHere rest → faulty rest ≡ false
  unfolding faulty
  entry_sound here = rw (here.whole, here.is_entry, here.sound)

  pub close_sound : EndHere rest → faulty rest ≡ false
  unfolding faulty
  close_sound here = rw (here.whole, here.is_end, here.sound)

-- a close has no body, and nothing stands after it
pub record Closed (rest : List ℕ) : Type 0 where
  pub no_body : body rest ≡ []
  pub nothing_after : after rest ≡ []

pub closed : {rest : List ℕ} → EndHere rest → Closed rest
unfolding faulty_end body
closed {rest} here =
    let first : Bool = not (eqb (body_length rest) 0) in
    let second : Bool = not (eqb (length (after rest)) 0) in
    let size = eqb-true (body_length rest) 0 (not-false (eqb (body_length rest) 0) (neither_left first second here.sound)) in
    let left = eqb-true _ 0 (not-false (eqb (length (after rest)) 0) (neither_right first second here.sound)) in
    record { no_body = rw size refl; nothing_after = empty (after rest) left }

pub faulty-empty : (rest : List ℕ) → length rest ≤ 0 → faulty rest ≡ true
unfolding faulty cut
faulty-empty [] none = refl
faulty-empty (x ∷ rest) none = absurd (omega arith)

-- ## One step of reading

module _ (more place : ℕ) {rest : List ℕ} where
  pub entry-step : EntryHere rest
      → read_rest (suc more) place rest ≡ entry_then (entry_in (body rest)) (read_rest more (place + record_length rest) (after rest))
  unfolding read_rest
  entry-step here = rw (entry_sound here, here.is_entry)

  pub close-step : EndHere rest → read_rest (suc more) place rest ≡ holding []
  unfolding read_rest
  close-step here = rw (close_sound here, here.is_end)

pub fault_step : (more place : ℕ) (rest : List ℕ) → faulty rest ≡ true → read_rest more place rest ≡ faulty_at_lem place
unfolding read_rest
fault_step zero place rest is = refl
fault_step (suc more) place rest is = rw is

-- ## By places of a list

pub record EntryAt (list : List ℕ) (at next : ℕ) : Type 0 where
  pub here : EntryHere (drop at list)
  pub next_is : next ≡ at + record_length (drop at list)
  pub forward : at < next
  pub inside : next ≤ length list
  pub left : drop next list ≡ after (drop at list)

-- what the item at a place says of the record there
abbrev pub Says : List ℕ → ℕ → Option Item → Type 0
Says list at (Some (Word next)) = EntryAt list at next
Says list at (Some Close) = EndHere (drop at list)
Says list at None = faulty (drop at list) ≡ true

module _ (list : List ℕ) (at : ℕ) where
  entry_at : EntryHere (drop at list) → EntryAt list at (next_place list at)
  unfolding next_place
  entry_at here =
      let inside = next_inside list at here.whole in
      record { here = here; next_is = refl; forward = inside.0; inside = inside.1; left = beyond list at }

  by_found : Found (drop at list) → Says list at (item_at list at)
  unfolding item_at
  by_found (a_fault is) = rw is is
  by_found (an_entry here) = rw (entry_sound here, here.is_entry) (entry_at here)
  by_found (the_close here) = rw (close_sound here, here.is_end) here

  pub item_says : Says list at (item_at list at)
  item_says = by_found (look (drop at list))
