-- The search in a list: what it finds is the stem of the first record for the word, among the records that are passed. Those of a list
-- that is accepted are the records that it holds.
use Prim.Native.Nat.{ℕ, zero, suc, ◌+◌, ◌-◌, ◌≤◌}
use Rattle.std.specs.Borrow.{Bor}
use Rattle.std.specs.Prelude.{Option as Answer, Some, None, ◌≡◌, true, false, leb}
use Rattle.std.proofs.Math.Path.{refl, sym, ap, ap₂, subst}
use Rattle.std.proofs.Common.{◌∙◌, drop-drop, leb-true, le-leb}
use mathlib.Core.List.{List, [], ◌∷◌}
use Rattle.std.proofs.Math.Option.{Option, none, some}
use native.Mathlib.Omega.{arith}
use Rattle.std.proofs.Math.ListN.{length, take, drop}
use Rattle.paper.specs.Groups.{same}
use Rattle.paper.specs.GroupsLaws.{same_equal}
use Rattle.paper.specs.ListLaws.{drop-take}
use Rattle.paper.specs.Settled.{settled}
use Rattle.paper.specs.TestLaws.{apart, by_test, and_parts, and_both}
use Rattle.records.specs.Framing.{body, record_length, after, cut, body_place, next_place}
use Rattle.records.specs.FramingLaws.{beyond, next_inside, body_there, length-body}
use Rattle.records.specs.RecordLaws.{EndHere}
use Rattle.lists.specs.Lists.{Entry, word_length, word_in, stem_in, entry_in, find}
use Rattle.lists.specs.Lists.{Listing, faulty_at_lem, holding, entry_then, read_rest, read_list}
use Rattle.lists.specs.Calls.{entries_of, held, stem_place}
use Rattle.lists.specs.Searches.{Place, Listed, Unlisted, LentFrom, Alike, fits, passed_rest, passed, is_for, search_rest, searched, found_in, found}
use Rattle.lists.specs.EntryLaws.{word_length_lem, sound}
use Rattle.lists.specs.ListSteps.{EntryHere, Found, a_fault, an_entry, the_close, look, closed}
use Rattle.lists.specs.ListSteps.{entry-step, close-step, fault_step}

-- ## What is found stands in the list

-- the stem of a listed word, as a part of the list
abbrev pub Stands : List ℕ → Option (List ℕ) → Place → Type 0
Stands list stem (Listed start end) = (start ≤ end) × (end ≤ length list) × (stem ≡ some (take (end - start) (drop start list)))
Stands list stem Unlisted = stem ≡ none

fits_long : (own : List ℕ) → fits own ≡ true → 1 + word_length own ≤ length own
unfolding fits
fits_long own fitting = leb-true _ _ (and_parts (leb (1 + word_length own) (length own)) _ fitting).0

-- behind the head, the byte n and n letters the stem stands, up to the next record
module _ (list : List ℕ) (at : ℕ) (whole : cut (drop at list) ≡ false) where
  stem_stands : (n : ℕ) → n ≡ word_length (body (drop at list)) → 1 + n ≤ length (body (drop at list))
      → Stands list (some (stem_in (body (drop at list)))) (Listed (at + (5 + n)) (at + record_length (drop at list)))
  unfolding stem_in next_place body_place record_length
  stem_stands n is long =
      let own : List ℕ = body (drop at list) in
      let inside = next_inside list at whole in
      let size = length-body (drop at list) whole in
      let room : next_place list at - body_place at - (1 + n) ≡ next_place list at - (at + (5 + n)) = omega arith in
      let there : body_place at + (1 + n) ≡ at + (5 + n) = omega arith in
      let stem : stem_in own ≡ take (next_place list at - (at + (5 + n))) (drop (at + (5 + n)) list) =
      ap (λ (k : ℕ). drop (1 + k) own) (sym is)
      ∙ ap (drop (1 + n)) (sym (body_there list at))
      ∙ drop-take (1 + n) (next_place list at - body_place at) (drop (body_place at) list)
      ∙ ap (take (next_place list at - body_place at - (1 + n))) (drop-drop (1 + n) (body_place at) list)
      ∙ ap₂ (λ (k p : ℕ). take k (drop p list)) room there
      in
      (omega arith, inside.1, ap some stem)

module _ (list word : List ℕ) where
  search_stands : (more at : ℕ) → Stands list (find (passed_rest more (drop at list)) word) (search_rest more at (drop at list) word)
  unfolding search_rest passed_rest find is_for next_place
  search_stands zero at = refl
  search_stands (suc more) at =
      let rest : List ℕ = drop at list in
      let next : ℕ = at + record_length rest in
      let later : Stands list (find (passed_rest more (after rest)) word) (search_rest more next (after rest) word) =
      subst (λ (l : List ℕ). Stands list (find (passed_rest more l) word) (search_rest more next l word)) (beyond list at)
      (search_stands more next)
      in
      by_test (cut rest) (λ short. rw short refl)
      (λ whole.
      by_test (fits (body rest))
      (λ fitting.
      by_test (same (word_in (body rest)) word)
      (λ is.
      let long = fits_long (body rest) fitting in
      let n : length word ≡ word_length (body rest) = sym (ap length (same_equal _ _ is)) ∙ word_length_lem (body rest) long in
      rw (whole, fitting, is) (stem_stands list at whole (length word) n (omega arith)))
      (λ is-not. rw (whole, fitting, is-not) later))
      (λ no_room. rw (whole, no_room) later))

  pub searched_stands : Stands list (find (passed list) word) (searched list word)
  unfolding passed searched
  searched_stands = search_stands (length list) 0

-- it has room in the word's place
passed_room : (word : List ℕ) (more : ℕ) (rest : List ℕ) {stem : List ℕ} → find (passed_rest more rest) word ≡ some stem
    → length stem ≤ length word
unfolding passed_rest find fits
passed_room word zero rest is = apart (cc)
passed_room word (suc more) rest {stem} is =
    let own : List ℕ = body rest in
    by_test (cut rest) (λ short. let no : none ≡ some stem = rw short at is in apart (cc))
    (λ whole.
    by_test (fits own)
    (λ fitting.
    by_test (same (word_in own) word)
    (λ same_word.
    let stem_is : some (stem_in own) ≡ some stem = rw (whole, fitting, same_word) at is in
    let same-stem : stem_in own ≡ stem = cc in
    let room = leb-true (length (stem_in own)) (word_length own) (and_parts (leb (1 + word_length own) (length own)) _ fitting).1 in
    let size = word_length_lem own (fits_long own fitting) in
    omega (arith, ap length (same_equal _ _ same_word), ap length same-stem))
    (λ other. passed_room word more (after rest) (rw (whole, fitting, other) at is)))
    (λ no_room. passed_room word more (after rest) (rw (whole, no_room) at is)))

pub stem_room : (list word : List ℕ) {stem : List ℕ} → find (passed list) word ≡ some stem → length stem ≤ length word
unfolding passed
stem_room list word is = passed_room word (length list) list is

-- ## A list that is accepted

entry_fits : {rest : List ℕ} → EntryHere rest → fits (body rest) ≡ true
unfolding fits
entry_fits {rest} here =
    let is = sound (body rest) here.sound in
    let own : List ℕ = body rest in
    and_both (le-leb (1 + word_length own) (length own) is.long)
    (le-leb (length (stem_in own)) (word_length own) (omega (arith, is.is.no_more, is.word_size)))

-- the place at which a stem that is found starts
abbrev pub AtPlace : ℕ → Place → Type 0
AtPlace place (Listed start end) = start ≡ place
AtPlace place Unlisted = Unit {0}

record Held (word rest : List ℕ) (more at : ℕ) (entries : List Entry) : Type 0 where
  passed_are : passed_rest more rest ≡ entries
  place_is : AtPlace (at + stem_place entries word) (search_rest more at rest word)

-- behind the close nothing is passed, and nothing found
passed_nothing : (more : ℕ) → passed_rest more [] ≡ []
unfolding passed_rest cut
passed_nothing zero = refl
passed_nothing (suc more) = refl

found_nothing : (more at : ℕ) (word : List ℕ) → search_rest more at [] word ≡ Unlisted
unfolding search_rest cut
found_nothing zero at word = refl
found_nothing (suc more) at word = refl

module _ (word : List ℕ) {rest : List ℕ} (more at : ℕ) where
  one_more : EntryHere rest → (entries : List Entry) → Held word (after rest) more (at + record_length rest) entries
      → Held word rest (suc more) at (entry_in (body rest) ∷ entries)
  unfolding passed_rest search_rest is_for stem_place record_length
  one_more here entries later =
      let is = sound (body rest) here.sound in
      let size = length-body rest here.whole in
      let fit = entry_fits here in
      let next : ℕ = at + record_length rest in
      let letters : ℕ = length (word_in (body rest)) + length (stem_in (body rest)) in
      let further : next + stem_place entries word ≡ at + (5 + letters + stem_place entries word) =
      omega (arith, is.word_size, is.stem_size, is.long, size)
      in
      record {
        passed_are = rw (here.whole, fit, later.passed_are) refl;
        place_is = by_test (same (word_in (body rest)) word)
            (λ same_word. rw (here.whole, fit, same_word) (omega (arith, ap length (same_equal _ _ same_word))))
            (λ other. rw (here.whole, fit, other) (subst (λ (n : ℕ). AtPlace n (search_rest more next (after rest) word)) further
            later.place_is));
      }

  last_one : EndHere rest → Held word rest (suc more) at []
  unfolding passed_rest search_rest is_for fits
  last_one here =
      let is = closed here in
      record {
        passed_are = rw (here.whole, is.no_body, is.nothing_after) (passed_nothing more);
        place_is = rw (here.whole, is.no_body, is.nothing_after, found_nothing more _ word) tt;
      }

  module _ (place : ℕ) (entries : List Entry) (is : read_rest (suc more) place rest ≡ holding entries)
      (later : (others : List Entry) → read_rest more (place + record_length rest) (after rest) ≡ holding others
      → Held word (after rest) more (at + record_length rest) others) where
    past : EntryHere rest → (found : Listing) → read_rest more (place + record_length rest) (after rest) ≡ found
        → entry_then (entry_in (body rest)) found ≡ holding entries
        → Held word rest (suc more) at entries
    past here (faulty_at_lem fault) read e = apart (cc)
    past here (holding others) read e =
        let all : entries ≡ entry_in (body rest) ∷ others = cc in
        rw all (one_more here others (later others read))

    held_found : Found rest → Held word rest (suc more) at entries
    held_found (a_fault wrong) = let no = sym (fault_step (suc more) place rest wrong) ∙ is in apart (cc)
    held_found (an_entry here) = past here _ refl (sym (entry-step more place here) ∙ is)
    held_found (the_close here) =
        let e = sym (close-step more place here) ∙ is in
        let none-held : entries ≡ [] = cc in
        rw none-held (last_one here)

held_by : (word : List ℕ) (more at place : ℕ) (rest : List ℕ) (entries : List Entry) → read_rest more place rest ≡ holding entries
    → Held word rest more at entries
unfolding read_rest
held_by word zero at place rest entries is = apart (cc)
held_by word (suc more) at place rest entries is =
    held_found word more at place entries is
    (λ others read. held_by word more (at + record_length rest) (place + record_length rest) (after rest) others read) (look rest)

-- the records of an accepted list that are passed are those that it holds
pub passed_held : (list : List ℕ) (entries : List Entry) → read_list list ≡ holding entries → passed list ≡ entries
unfolding read_list passed
passed_held list entries is = (held_by [] (length list) 0 0 list entries is).passed_are

-- ## What the lookup finds, in any list

module _ (list word : List ℕ) where
  found_stands : Stands list (find (held list) word) (found list word)
  unfolding held found find
  found_stands = go (read_list list) refl
    where
      go : (listing : Listing) → read_list list ≡ listing
          → Stands list (find (entries_of listing) word) (found_in listing (searched list word))
      go (faulty_at_lem fault) is = refl
      go (holding entries) is =
          subst (λ (es : List Entry). Stands list (find es word) (searched list word)) (passed_held list entries is)
          (searched_stands list word)

  found_at : AtPlace (stem_place (held list) word) (found list word)
  unfolding held found read_list searched stem_place
  found_at = go (read_list list) refl
    where
      go : (listing : Listing) → read_list list ≡ listing
          → AtPlace (stem_place (entries_of listing) word) (found_in listing (searched list word))
      go (faulty_at_lem fault) is = tt
      go (holding entries) is =
          subst (λ (n : ℕ). AtPlace n (searched list word)) (omega arith) (held_by word (length list) 0 0 list entries is).place_is

  pub told : Stands list (find (held list) word) (found list word) × AtPlace (stem_place (held list) word) (found list word)
  told = (found_stands, found_at)

-- ## What is lent is what stands there

module _ (list : Bor (List ℕ)) where
  -- so any two parts that may be handed back have the same bytes, and stand at the same place
  pub lent_one : (place : Place) (one other : Bor (List ℕ)) → LentFrom list place (Some one) → LentFrom list place (Some other)
      → (one.now ≡ other.now) × (one.ref_ptr ≡ other.ref_ptr)
  lent_one (Listed start end) one other a b = (settled a.0 b.0, settled a.1 b.1)
  lent_one Unlisted one other a b = absurd a

  -- and any two answers of the search are alike: where one hands back a part, no other hands back none
  pub search_one : (place : Place) (one other : Answer (Bor (List ℕ))) → LentFrom list place one → LentFrom list place other
      → Alike one other
  search_one place (Some one) (Some other) a b = lent_one place one other a b
  search_one (Listed start end) (Some one) None a b = absurd b
  search_one Unlisted (Some one) None a b = absurd a
  search_one (Listed start end) None (Some other) a b = absurd a
  search_one Unlisted None (Some other) a b = absurd b
  search_one place None None a b = tt

  pub lent_stem : (place : Place) (stem : Option (List ℕ)) (part : Bor (List ℕ)) → LentFrom list place (Some part)
      → Stands list.now stem place
      → stem ≡ some part.now
  lent_stem (Listed start end) stem part lent stands = stands.2 ∙ ap some (sym lent.0)
  lent_stem Unlisted stem part lent stands = absurd lent

  pub lent_at : (place : Place) (start : ℕ) (part : Bor (List ℕ)) → LentFrom list place (Some part) → AtPlace start place
      → part.ref_ptr ≡ (list.ref_ptr.0, start + list.ref_ptr.1)
  lent_at (Listed from end) start part lent is = lent.1 ∙ ap (λ (n : ℕ). (list.ref_ptr.0, n + list.ref_ptr.1)) is
  lent_at Unlisted start part lent is = absurd lent

  pub nothing_lent : (place : Place) (stem : Option (List ℕ)) → LentFrom list place None → Stands list.now stem place → stem ≡ none
  nothing_lent (Listed start end) stem lent stands = absurd lent
  nothing_lent Unlisted stem lent stands = stands
