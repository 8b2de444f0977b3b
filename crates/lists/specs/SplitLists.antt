-- Any bytes are records of allowed words with their stems, and then the close or a faulty record; and so they are read.
use Rattle.std.specs.Prelude.{ℕ, zero, suc, ◌+◌, ◌≤◌, ◌≡◌, refl, true, false, length}
use Rattle.std.proofs.Math.Path.{sym, ap}
use Rattle.std.proofs.Common.{◌∙◌, arith}
use mathlib.Core.List.{List, [], ◌∷◌, ◌++◌, append_assoc, append-nil}
use Rattle.std.proofs.Math.ListN.{length-append}
use Rattle.paper.specs.ReadingLaws.{every}
use Rattle.paper.specs.TestLaws.{and_both}
use Rattle.records.specs.Framing.{body, record_length, after, cut, record_of}
use Rattle.records.specs.FramingLaws.{record_length_read, record_is, within, length_after}
use Rattle.records.specs.RecordLaws.{EndHere}
use Rattle.lists.specs.Lists.{Entry, allowed, entry_in, faulty, Listing, faulty_at_lem, holding, entry_then, read_rest}
use Rattle.lists.specs.ListBytes.{entry_body, records_of}
use Rattle.lists.specs.EntryLaws.{allowed_is, Sound, sound}
use Rattle.lists.specs.ListSteps.{EntryHere, Found, a_fault, an_entry, the_close, look, closed}
use Rattle.lists.specs.ListSteps.{faulty-empty, entry-step, close-step, fault_step}
use Rattle.lists.specs.ReadBack.{read_body}

-- what is left behind the records, and what was read
abbrev pub Ends : ℕ → List Entry → List ℕ → Listing → Type 0
Ends place before left (faulty_at_lem fault) = (fault ≡ place) × (faulty left ≡ true)
Ends place before left (holding entries) = (entries ≡ before) × (left ≡ record_of 3 [])

pub record Split (place : ℕ) (rest : List ℕ) (listing : Listing) : Type 0 where
  pub before : List Entry
  pub left : List ℕ
  pub are_allowed : every allowed before ≡ true
  pub joined : rest ≡ records_of before ++ left
  pub ends : Ends (place + length (records_of before)) before left listing

at_fault : (place : ℕ) (rest : List ℕ) → faulty rest ≡ true → Split place rest (faulty_at_lem place)
unfolding every records_of
at_fault place rest is =
    record { before = []; left = rest; are_allowed = refl; joined = refl; ends = (omega arith, is) }

at_close : (place : ℕ) {rest : List ℕ} → EndHere rest → Split place rest (holding [])
unfolding every records_of
at_close place {rest} here =
    let is = closed here in
    let bytes = record_is rest 3 here.whole here.is_end (omega arith) (rw is.no_body (omega arith)) is.no_body in
    record {
      before = [];
      left = rest;
      are_allowed = refl;
      joined = refl;
      ends = (refl, bytes ∙ rw is.nothing_after (append-nil (record_of 3 [])));
    }

-- one record before
module _ (place : ℕ) {rest : List ℕ} (here : EntryHere rest) where
  entry : Entry
  entry = entry_in (body rest)

  is : Sound (body rest)
  is = sound (body rest) here.sound

  bytes : rest ≡ record_of 4 (entry_body entry) ++ after rest
  unfolding entry
  bytes =
      record_is rest 4 here.whole here.is_entry (omega arith)
      (omega (arith, is.long, is.stem_size, is.word_size, is.is.no_more, is.is.most)) (read_body (body rest) is)

  size : record_length rest ≡ length (record_of 4 (entry_body entry))
  size = ap record_length bytes ∙ record_length_read 4 (entry_body entry) (after rest)

  all_allowed_lem : (before : List Entry) → every allowed before ≡ true → every allowed (entry ∷ before) ≡ true
  unfolding every entry
  all_allowed_lem before others = and_both (allowed_is (entry_in (body rest)) is.is) others

  all_bytes : (before : List Entry) (left : List ℕ) → after rest ≡ records_of before ++ left → rest ≡ records_of (entry ∷ before) ++ left
  unfolding records_of
  all_bytes before left joined =
      bytes
      ∙ ap (λ (l : List ℕ). record_of 4 (entry_body entry) ++ l) joined
      ∙ sym (append_assoc (record_of 4 (entry_body entry)) (records_of before) left)

  further : (before : List Entry)
      → place + record_length rest + length (records_of before) ≡ place + length (records_of (entry ∷ before))
  unfolding records_of
  further before = omega (arith, size, length-append (record_of 4 (entry_body entry)) (records_of before))

  ending : (before : List Entry) (left : List ℕ) (listing : Listing)
      → Ends (place + record_length rest + length (records_of before)) before left listing
      → Ends (place + length (records_of (entry ∷ before))) (entry ∷ before) left (entry_then (entry_in (body rest)) listing)
  unfolding entry
  ending before left (faulty_at_lem fault) ends = (ends.0 ∙ further before, ends.1)
  ending before left (holding entries) ends = (ap (λ (l : List Entry). entry ∷ l) ends.0, ends.1)

  past-entry : (found : Listing) → Split (place + record_length rest) (after rest) found
      → Split place rest (entry_then (entry_in (body rest)) found)
  past-entry found split =
      record {
        before = entry ∷ split.before;
        left = split.left;
        are_allowed = all_allowed_lem split.before split.are_allowed;
        joined = all_bytes split.before split.left split.joined;
        ends = ending split.before split.left found split.ends;
      }

module _ (more place : ℕ) (rest : List ℕ) (later : cut rest ≡ false → Split (place + record_length rest) (after rest)
    (read_rest more (place + record_length rest) (after rest))) where
  split_found : Found rest → Split place rest (read_rest (suc more) place rest)
  split_found (a_fault wrong) = rw (fault_step (suc more) place rest wrong) (at_fault place rest wrong)
  split_found (an_entry here) =
      rw (entry-step more place here)
      (past-entry place here (read_rest more (place + record_length rest) (after rest)) (later here.whole))
  split_found (the_close here) = rw (close-step more place here) (at_close place here)

pub split_rest : (more place : ℕ) (rest : List ℕ) → length rest ≤ more → Split place rest (read_rest more place rest)
unfolding read_rest
split_rest zero place rest short = at_fault place rest (faulty-empty rest short)
split_rest (suc more) place rest short =
    split_found more place rest
    (λ whole.
    split_rest more (place + record_length rest) (after rest) (omega (arith, length_after rest, (within rest whole).0)))
    (look rest)
