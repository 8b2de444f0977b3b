-- Document 01, "The sheet": the frame of a record, whatever its kind. A record is read from the bytes that remain where it
-- starts, and written as the bytes of its kind and its body.
use Rattle.std.specs.Prelude.{ℕ, ◌+◌, ◌*◌, ◌-◌, ◌/◌, ◌%◌, Bool, cond, ◌||◌, Option, Some, None}
use Rattle.std.specs.Prelude.{List, [], ◌∷◌, ◌++◌, ltb, length, get_or, take, drop}
use Rattle.records.specs.declared.framing.Frame.{Frame}

-- "numbers are little-endian": the two-byte number that starts at this place
unfoldable pub number : ℕ → List ℕ → ℕ
number place bytes = get_or bytes place 0 + 256 * get_or bytes (place + 1) 0

-- "Records, each a two-byte body length, a two-byte kind, then the body"
unfoldable pub body_length : List ℕ → ℕ
body_length rest = number 0 rest

unfoldable pub kind : List ℕ → ℕ
kind rest = number 2 rest

unfoldable pub body : List ℕ → List ℕ
body rest = take (body_length rest) (drop 4 rest)

-- the whole record's length, and what stands after it
unfoldable pub record_length : List ℕ → ℕ
record_length rest = 4 + body_length rest

unfoldable pub after : List ℕ → List ℕ
after rest = drop (record_length rest) rest

-- "fewer than 4 bytes remain for its head, or fewer than its body length remain after it"
unfoldable pub cut : List ℕ → Bool
cut rest = ltb (length rest) 4 || ltb (length rest - 4) (body_length rest)

-- of the record that starts at a place: where its body starts, and where the next record does
unfoldable pub body_place : ℕ → ℕ
body_place at = at + 4

unfoldable pub next_place : List ℕ → ℕ → ℕ
next_place bytes at = at + record_length (drop at bytes)

unfoldable pub frame_at : List ℕ → ℕ → Option Frame
frame_at bytes at =
    cond (cut (drop at bytes)) None
    (Some (record { kind = kind (drop at bytes); body = body_place at; next = next_place bytes at }))

-- a two-byte number, and the bytes of a record
unfoldable pub two : ℕ → List ℕ
two value = value % 256 ∷ value / 256 ∷ []

unfoldable pub record_of : ℕ → List ℕ → List ℕ
record_of kind body = two (length body) ++ (two kind ++ body)
