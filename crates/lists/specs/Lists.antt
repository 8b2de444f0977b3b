-- Document 02, W-205: an exception list, read, and the word rule that asks it first. "Add a list of records of kind 4 (a byte n, n
-- letters of the word, the rest its stem), closed by kind 3."
use Rattle.std.specs.Prelude.{ℕ, zero, suc, ◌+◌, Bool, true, not, cond, ◌&&◌, ◌||◌, List, [], ◌∷◌, eqb, leb, ltb, length, get_or, take, drop}
use Rattle.std.proofs.Math.Option.{Option, none, some}
use Rattle.paper.specs.Groups.{same, Reading, done}
use Rattle.paper.specs.Words.{all_small}
use Rattle.records.specs.Framing.{kind, body, record_length, after, cut}
use Rattle.records.specs.Records.{faulty_end}

-- ## A record

pub record Entry : Type 0 where
  pub word : List ℕ
  pub stem : List ℕ

-- "Words have 1 to 64 small letters, stems small letters too, at least one and no more than the word"
unfoldable pub allowed : Entry → Bool
allowed entry =
    leb 1 (length entry.word)
    && leb (length entry.word) 64
    && all_small entry.word
    && leb 1 (length entry.stem)
    && leb (length entry.stem) (length entry.word)
    && all_small entry.stem

-- "a byte n, n letters of the word, the rest its stem"
abbrev pub word_length : List ℕ → ℕ
word_length body = get_or body 0 0

unfoldable pub word_in : List ℕ → List ℕ
word_in body = take (word_length body) (drop 1 body)

unfoldable pub stem_in : List ℕ → List ℕ
stem_in body = drop (1 + word_length body) body

abbrev pub entry_in : List ℕ → Entry
entry_in body = record { word = word_in body; stem = stem_in body }

-- a body that has no byte n, or fewer than n letters behind it, or what is not allowed
unfoldable pub faulty_entry : List ℕ → Bool
faulty_entry body = ltb (length body) (1 + word_length body) || not (allowed (entry_in body))

-- "heads and the close are judged as in 01, and any other record is faulty"
unfoldable pub faulty : List ℕ → Bool
faulty rest =
    cut rest || cond (eqb (kind rest) 4) (faulty_entry (body rest)) (cond (eqb (kind rest) 3) (faulty_end rest) true)

-- ## A list

-- what the bytes from some place on hold: a first faulty record, at its place; or records up to the close
pub data Listing : Type 0 where
  faulty_at_lem : ℕ → Listing
  holding : List Entry → Listing

abbrev pub entry_then : Entry → Listing → Listing
entry_then entry (faulty_at_lem place) = faulty_at_lem place
entry_then entry (holding entries) = holding (entry ∷ entries)

-- the rest of a list from a place on. The first number is at least the length of the rest: each record takes some of it. An empty
-- rest is a faulty record: fewer than 4 bytes remain for its head.
unfoldable pub read_rest : ℕ → ℕ → List ℕ → Listing
read_rest zero place rest = faulty_at_lem place
read_rest (suc more) place rest =
    let later = read_rest more (place + record_length rest) (after rest) in
    cond (faulty rest) (faulty_at_lem place) (cond (eqb (kind rest) 3) (holding []) (entry_then (entry_in (body rest)) later))

unfoldable pub read_list : List ℕ → Listing
read_list list = read_rest (length list) 0 list

-- ## A word

-- "The first record for a word counts."
unfoldable pub find : List Entry → List ℕ → Option (List ℕ)
find [] word = none
find (entry ∷ entries) word = cond (same entry.word word) (some entry.stem) (find entries word)

abbrev pub stem_or : Option (List ℕ) → Reading → Reading
stem_or (some stem) reading = done stem
stem_or none reading = reading

-- "a listed word has its listed stem, any other word as before", whatever reads the others
unfoldable pub excepting : List Entry → (List ℕ → Reading) → List ℕ → Reading
excepting entries rule word = stem_or (find entries word) (rule word)
