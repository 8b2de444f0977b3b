-- What the code of this crate tells of any bytes: the record at a place of a list, and where the first record for a word has its
-- stem, by frames alone. For a list that is accepted the laws say that this is what `Lists` and `Calls` define.
use Rattle.std.specs.Prelude.{ℕ, zero, suc, ◌+◌, ◌-◌, ◌≡◌, Bool, cond, Option, Some, None, ◌&&◌, List, [], ◌∷◌, eqb, leb, length, take, drop}
use Rattle.std.specs.Borrow.{Bor}
use Rattle.paper.specs.Groups.{same}
use Rattle.records.specs.Framing.{kind, body, record_length, after, cut, next_place}
use Rattle.lists.specs.Lists.{Entry, word_length, word_in, stem_in, entry_in, faulty, Listing, faulty_at_lem, holding, read_list}
use Rattle.lists.specs.declared.Item.{Item}
use Rattle.lists.specs.declared.Item.TheVariants.{Word, Close}

unfoldable pub item_at : List ℕ → ℕ → Option Item
item_at list at =
    cond (faulty (drop at list)) None (Some (cond (eqb (kind (drop at list)) 3) Close (Word (next_place list at))))

-- a body has the byte n, n bytes behind it, and no more than n behind these
unfoldable pub fits : List ℕ → Bool
fits body = leb (1 + word_length body) (length body) && leb (length (stem_in body)) (word_length body)

-- the records from some place on that fit, as words with their stems
unfoldable pub passed_rest : ℕ → List ℕ → List Entry
passed_rest zero rest = []
passed_rest (suc more) rest =
    let later = passed_rest more (after rest) in
    cond (cut rest) [] (cond (fits (body rest)) (entry_in (body rest) ∷ later) later)

unfoldable pub passed : List ℕ → List Entry
passed list = passed_rest (length list) list

-- where the stem of a word stands in a list
pub data Place : Type 0 where
  Listed : ℕ → ℕ → Place
  Unlisted : Place

-- the part of a list that starts and ends there
abbrev pub LentFrom : Bor (List ℕ) → Place → Option (Bor (List ℕ)) → Type 0
LentFrom list (Listed start end) (Some part) =
    (part.now ≡ take (end - start) (drop start list.now)) × (part.ref_ptr ≡ (list.ref_ptr.0, start + list.ref_ptr.1))
LentFrom list (Listed start end) None = ⊥
LentFrom list Unlisted (Some part) = ⊥
LentFrom list Unlisted None = Unit {0}

-- two answers that nobody can tell apart: the same bytes at the same place, or nothing both times
abbrev pub Alike : Option (Bor (List ℕ)) → Option (Bor (List ℕ)) → Type 0
Alike (Some one) (Some other) = (one.now ≡ other.now) × (one.ref_ptr ≡ other.ref_ptr)
Alike (Some one) None = ⊥
Alike None (Some other) = ⊥
Alike None None = Unit {0}

unfoldable pub is_for : List ℕ → List ℕ → Bool
is_for body word = fits body && same (word_in body) word

-- where the first of these records that is for the word has its stem
unfoldable pub search_rest : ℕ → ℕ → List ℕ → List ℕ → Place
search_rest zero at rest word = Unlisted
search_rest (suc more) at rest word =
    let next = at + record_length rest in
    cond (cut rest) Unlisted
    (cond (is_for (body rest) word) (Listed (at + (5 + length word)) next) (search_rest more next (after rest) word))

unfoldable pub searched : List ℕ → List ℕ → Place
searched list word = search_rest (length list) 0 list word

-- "a faulty list holds no word"
abbrev pub found_in : Listing → Place → Place
found_in (faulty_at_lem place) found = Unlisted
found_in (holding entries) found = found

unfoldable pub found : List ℕ → List ℕ → Place
found list word = found_in (read_list list) (searched list word)
