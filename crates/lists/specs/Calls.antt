-- Document 02, W-205: what the check of a list, the lookup and a call on a word with a list give.
use Rattle.std.specs.Prelude.{ℕ, ◌+◌, ◌≡◌, Bool, true, false, cond, List, [], ◌∷◌, length}
use Rattle.std.proofs.Math.Option.{Option, none, some}
use Rattle.std.specs.Borrow.{Bor}
use Rattle.paper.specs.Groups.{same, Reading}
use Rattle.paper.specs.Words.{Outcome, refused, word_outcome}
use Rattle.answers.specs.Answers.{Said}
use Rattle.lists.specs.Lists.{Entry, Listing, faulty_at_lem, holding, read_list, find, excepting}

-- ## The check: "10, a faulty list, with the offset of its first faulty record"; otherwise 0, with how many records of kind 4 there are

abbrev pub check_of : Listing → Said
check_of (faulty_at_lem place) = record { number = 10; value = place }
check_of (holding entries) = record { number = 0; value = length entries }

unfoldable pub checked : List ℕ → Said
checked list = check_of (read_list list)

-- ## The lookup

-- "a faulty list holds no word"
abbrev pub entries_of : Listing → List Entry
entries_of (faulty_at_lem place) = []
entries_of (holding entries) = entries

unfoldable pub held : List ℕ → List Entry
held list = entries_of (read_list list)

-- where the stem of a listed word stands: in its record behind the head, the byte n and the word
unfoldable pub stem_place : List Entry → List ℕ → ℕ
stem_place [] word = 0
stem_place (entry ∷ entries) word =
    cond (same entry.word word) (5 + length entry.word)
    (5 + (length entry.word + length entry.stem) + stem_place entries word)

-- "answers with a part of the exception list or a part of the word's own place: the listed stem, or the whole unlisted word"
abbrev pub Answers : Bor (List ℕ) → Bor (List ℕ) → Bor (List ℕ) → Option (List ℕ) → Type 0
Answers list word part (some stem) =
    (part.now ≡ stem) × (part.ref_ptr ≡ (list.ref_ptr.0, stem_place (held list.now) word.now + list.ref_ptr.1))
Answers list word part none = part ≡ word

abbrev pub LookedUp : Bor (List ℕ) → Bor (List ℕ) → Bor (List ℕ) → Type 0
LookedUp list word part = Answers list word part (find (held list.now) word.now)

-- "a second call says whether it is listed"
abbrev pub is_some : Option (List ℕ) → Bool
is_some (some stem) = true
is_some none = false

unfoldable pub is_listed : List ℕ → List ℕ → Bool
is_listed list word = is_some (find (held list) word)

-- ## A word with a list, whatever reads the words that are not listed

abbrev pub with_listing : (List ℕ → Reading) → Listing → List ℕ → Outcome
with_listing rule (faulty_at_lem place) word = refused 10 place word
with_listing rule (holding entries) word = word_outcome (excepting entries rule) word

-- "10 .. before 1"
unfoldable pub listed_outcome : (List ℕ → Reading) → List ℕ → List ℕ → Outcome
listed_outcome rule list word = with_listing rule (read_list list) word
