-- Document 02, W-205, from the other side: the bytes of words with their stems. Nothing here reads.
use Rattle.std.specs.Prelude.{ℕ, List, [], ◌∷◌, ◌++◌, length}
use Rattle.records.specs.Framing.{record_of}
use Rattle.lists.specs.Lists.{Entry}

-- "a byte n, n letters of the word, the rest its stem"
unfoldable pub entry_body : Entry → List ℕ
entry_body entry = length entry.word ∷ entry.word ++ entry.stem

-- "records of kind 4"
unfoldable pub records_of : List Entry → List ℕ
records_of [] = []
records_of (entry ∷ entries) = record_of 4 (entry_body entry) ++ records_of entries

-- "closed by kind 3"
unfoldable pub list_of : List Entry → List ℕ
list_of entries = records_of entries ++ record_of 3 []
