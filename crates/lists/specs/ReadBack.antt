-- Words with their stems, written as records, are read back; and what stands behind the records is read after them.
use Rattle.std.specs.Prelude.{ℕ, zero, suc, ◌+◌, ◌≤◌, ◌≡◌, true, false, List, [], ◌∷◌, ◌++◌}
use Rattle.std.proofs.Math.Path.{refl}
use Rattle.std.proofs.Common.{sym, ap, ap₂, ◌∙◌, append_assoc, arith, le-ltb}
use Rattle.std.proofs.Math.ListN.{length, length-append}
use Rattle.std.proofs.Math.Seq.{drop-drop, take-append_seam, drop-append_seam}
use Rattle.paper.specs.ReadingLaws.{every}
use Rattle.paper.specs.TestLaws.{and_parts}
use Rattle.records.specs.Framing.{number, body_length, kind, record_length, after, cut, two, record_of}
use Rattle.records.specs.FramingLaws.{kind_read, record_length_read, body_read, after_read, whole_read, some_bytes}
use Rattle.records.specs.Records.{faulty_end}
use Rattle.records.specs.RecordLaws.{EndHere}
use Rattle.lists.specs.Lists.{Entry, allowed, word_in, stem_in, entry_in, faulty_entry}
use Rattle.lists.specs.Lists.{Listing, faulty_at_lem, holding, entry_then, read_rest}
use Rattle.lists.specs.ListBytes.{entry_body, records_of}
use Rattle.lists.specs.EntryLaws.{behind, Sound}
use Rattle.lists.specs.ListSteps.{EntryHere, entry-step}

-- ## A record written, and read

module _ (entry : Entry) where
  written_word : word_in (entry_body entry) ≡ entry.word
  unfolding word_in entry_body
  written_word = take-append_seam entry.word entry.stem

  written_stem : stem_in (entry_body entry) ≡ entry.stem
  unfolding stem_in entry_body
  written_stem = rw (← drop-drop (length entry.word) 1 (entry_body entry)) (drop-append_seam entry.word entry.stem)

  written_entry : entry_in (entry_body entry) ≡ entry
  written_entry = λ i. record { word = written_word i; stem = written_stem i }

  written_sound : allowed entry ≡ true → faulty_entry (entry_body entry) ≡ false
  unfolding faulty_entry entry_body
  written_sound is =
      let long : 1 + length entry.word ≤ length (entry_body entry) = simp length-append (omega arith) in
      rw (le-ltb _ _ long, written_entry, is) refl

-- a body that is not faulty is that of its word and stem
pub read_body : (own : List ℕ) → Sound own → own ≡ entry_body (entry_in own)
unfolding entry_body
read_body [] is = absurd (omega (arith, is.long))
read_body (n ∷ letters) is = ap₂ ◌∷◌ (sym is.word_size) (behind (n ∷ letters))

-- ## Words with their stems, read back from their bytes

here_written : (entry : Entry) (more : List ℕ) → allowed entry ≡ true → EntryHere (record_of 4 (entry_body entry) ++ more)
here_written entry more is =
    record {
      whole = whole_read 4 (entry_body entry) more;
      is_entry = kind_read 4 (entry_body entry) more;
      sound = rw (body_read 4 (entry_body entry) more) (written_sound entry is);
    }

pub close_here : EndHere (record_of 3 [])
unfolding record_of two cut body_length number kind faulty_end after record_length
close_here = record { whole = refl; is_end = refl; sound = refl }

-- the close, and a faulty record, behind any words
abbrev pub entries_then : List Entry → Listing → Listing
entries_then [] listing = listing
entries_then (entry ∷ entries) listing = entry_then entry (entries_then entries listing)

pub then-close : (entries : List Entry) → entries_then entries (holding []) ≡ holding entries
then-close [] = refl
then-close (entry ∷ entries) = ap (entry_then entry) (then-close entries)

pub then_fault : (entries : List Entry) (place : ℕ) → entries_then entries (faulty_at_lem place) ≡ faulty_at_lem place
then_fault [] place = refl
then_fault (entry ∷ entries) place = ap (entry_then entry) (then_fault entries place)

-- what stands behind records is read after them
pub record ReadOn (entries : List Entry) (more place : ℕ) (rest : List ℕ) : Type 0 where
  pub fewer : ℕ
  pub enough : length rest ≤ fewer
  pub read : read_rest more place (records_of entries ++ rest)
      ≡ entries_then entries (read_rest fewer (place + length (records_of entries)) rest)

pub read_on : (entries : List Entry) (more place : ℕ) (rest : List ℕ) → every allowed entries ≡ true
    → length (records_of entries ++ rest) ≤ more
    → ReadOn entries more place rest
unfolding records_of every
read_on [] more place rest all long = record { fewer = more; enough = long; read = ap (λ (n : ℕ). read_rest more n rest) (omega arith) }
read_on (entry ∷ entries) zero place rest all long =
    absurd (omega (arith, some_bytes 4 (entry_body entry), simp length-append at long))
read_on (entry ∷ entries) (suc more) place rest all long =
    let own = entry_body entry in
    let both = and_parts (allowed entry) (every allowed entries) all in
    let left : List ℕ = records_of entries ++ rest in
    let split : (record_of 4 own ++ records_of entries) ++ rest ≡ record_of 4 own ++ left =
    append_assoc (record_of 4 own) (records_of entries) rest
    in
    let size = length-append (record_of 4 own) left in
    let later = read_on entries more (place + length (record_of 4 own)) rest both.1
    (omega (arith, some_bytes 4 own, ap length split)) in
    let there : place + length (record_of 4 own) + length (records_of entries) ≡ place + length (record_of 4 own ++ records_of entries) =
    omega (arith, length-append (record_of 4 own) (records_of entries))
    in
    record {
      fewer = later.fewer;
      enough = later.enough;
      read = ap (read_rest (suc more) place) split
          ∙ entry-step more place (here_written entry left both.0)
          ∙ rw (body_read 4 own left, record_length_read 4 own left, after_read 4 own left, written_entry entry, later.read, there) refl;
    }
