-- Laws of frames: what is read from the bytes of a record, that a record is the bytes of what is read, and where it stands.
use Rattle.std.specs.Prelude.{ℕ, ◌+◌, ◌*◌, ◌-◌, ◌/◌, ◌%◌, ◌≤◌, ◌<◌, ◌≡◌, true, false}
use Rattle.std.specs.Prelude.{Option, Some, None, List, [], ◌∷◌, ◌++◌, ltb, take, drop}
use Rattle.std.proofs.Math.Path.{refl, sym}
use Rattle.std.proofs.Common.{ap, subst, ◌∙◌, append_assoc, length-take, take-append-drop}
use native.Mathlib.Omega.{arith}
use Rattle.std.proofs.Math.ListN.{length, length-append, length-drop}
use Rattle.std.proofs.Math.Seq.{drop-drop, take-append_seam, drop-append_seam}
use borrow.Author.Tests.{ltb-false, le-ltb}
use Rattle.paper.specs.TestLaws.{by_test, neither_left, neither_right}
use Rattle.records.specs.Framing.{number, body_length, kind, body, record_length, after, cut, body_place, next_place, frame_at}
use Rattle.records.specs.Framing.{two, record_of}
use Rattle.records.specs.declared.framing.Frame.{Frame}

-- ## The bytes of a record, read
module _ (k : ℕ) (b more : List ℕ) where
  size_read : body_length (record_of k b ++ more) ≡ length b
  unfolding body_length number record_of two
  size_read = omega arith

  pub kind_read : kind (record_of k b ++ more) ≡ k
  unfolding kind number record_of two
  kind_read = omega arith

  pub record_length_read : record_length (record_of k b ++ more) ≡ length (record_of k b)
  unfolding record_length record_of two
  record_length_read = omega (arith, size_read)

  drop_head : drop 4 (record_of k b ++ more) ≡ b ++ more
  unfolding record_of two
  drop_head = refl

  pub body_read : body (record_of k b ++ more) ≡ b
  unfolding body
  body_read = rw (size_read, drop_head) (take-append_seam b more)

  pub after_read : after (record_of k b ++ more) ≡ more
  unfolding after
  after_read = rw record_length_read (drop-append_seam (record_of k b) more)

  length_read : length (record_of k b ++ more) ≡ 4 + (length b + length more)
  unfolding record_of two
  length_read = omega (arith, length-append b more)

  pub whole_read : cut (record_of k b ++ more) ≡ false
  unfolding cut
  whole_read = rw (size_read, length_read) (simp (
    le-ltb (4 + (length b + length more)) 4 (omega arith),
    le-ltb (4 + (length b + length more) - 4) (length b) (omega arith),
  ))

-- a record takes some bytes
pub some_bytes : (k : ℕ) (b : List ℕ) → 0 < length (record_of k b)
unfolding record_of two
some_bytes k b = omega arith

-- ## A record that is read is its bytes
module _ (rest : List ℕ) where
  pub length_after : length (after rest) ≡ length rest - record_length rest
  unfolding after
  length_after = simp length-drop

  parts : drop 4 rest ≡ body rest ++ after rest
  unfolding body after record_length
  parts = rw (← drop-drop (body_length rest) 4 rest) (sym (take-append-drop (body_length rest) (drop 4 rest)))

  module _ (whole : cut rest ≡ false) where
    long : 4 ≤ length rest
    unfolding cut
    long = ltb-false (length rest) 4 (neither_left (ltb (length rest) 4) (ltb (length rest - 4) (body_length rest)) whole)

    fitting : body_length rest ≤ length rest - 4
    unfolding cut
    fitting =
        ltb-false (length rest - 4) (body_length rest)
        (neither_right (ltb (length rest) 4) (ltb (length rest - 4) (body_length rest)) whole)

    pub within : (0 < record_length rest) × (record_length rest ≤ length rest)
    unfolding record_length
    within = (omega arith, omega (arith, long, fitting))

    pub length-body : length (body rest) ≡ body_length rest
    unfolding body
    length-body = let a = long in let b = fitting in simp (length-take, length-drop) (omega arith)

-- a number below 256 in two bytes
pub two_small : (n : ℕ) → n < 256 → two n ≡ n ∷ 0 ∷ []
unfolding two
two_small n small =
    let low : n % 256 ≡ n = omega arith in
    let high : n / 256 ≡ 0 = omega arith in
    rw (low, high)

head_is : (a b c d : ℕ) (l : List ℕ) (k size : ℕ) → a + 256 * b ≡ size → c + 256 * d ≡ k → size < 256 → k < 256
    → a ∷ b ∷ c ∷ d ∷ l ≡ two size ++ (two k ++ l)
head_is a b c d l k size size_is kind_is short small =
    let b-is : b ≡ 0 = omega arith in
    let a-is : a ≡ size = omega arith in
    let d-is : d ≡ 0 = omega arith in
    let c-is : c ≡ k = omega arith in
    rw (two_small size short, two_small k small, a-is, b-is, c-is, d-is)

by_bytes : (rest : List ℕ) (k : ℕ) → 4 ≤ length rest → kind rest ≡ k → body_length rest < 256 → k < 256
    → rest ≡ two (body_length rest) ++ (two k ++ drop 4 rest)
unfolding kind body_length number
by_bytes [] k long is short small = absurd (omega arith)
by_bytes (a ∷ []) k long is short small = absurd (omega arith)
by_bytes (a ∷ b ∷ []) k long is short small = absurd (omega arith)
by_bytes (a ∷ b ∷ c ∷ []) k long is short small = absurd (omega arith)
by_bytes (a ∷ b ∷ c ∷ d ∷ l) k long is short small = head_is a b c d l k (a + 256 * b) refl is short small

-- of a record whose kind and body are known, and small
pub record_is : (rest : List ℕ) (k : ℕ) {b : List ℕ} → cut rest ≡ false → kind rest ≡ k → k < 256
    → length (body rest) < 256 → body rest ≡ b → rest ≡ record_of k b ++ after rest
unfolding record_of
record_is rest k {b} whole is known short same =
    let size : body_length rest ≡ length b = sym (length-body rest whole) ∙ ap length same in
    by_bytes rest k (long rest whole) is (omega (arith, ap length same)) known
    ∙ rw (parts rest, same, size, append_assoc (two (length b)) (two k ++ b) (after rest), append_assoc (two k) b (after rest))

-- ## Its place
module _ (bytes : List ℕ) (at : ℕ) where
  pub body_there : take (next_place bytes at - body_place at) (drop (body_place at) bytes) ≡ body (drop at bytes)
  unfolding next_place body_place record_length body
  body_there =
      let size : at + (4 + body_length (drop at bytes)) - (at + 4) ≡ body_length (drop at bytes) = omega arith in
      rw (size, drop-drop 4 at bytes)

  pub beyond : drop (next_place bytes at) bytes ≡ after (drop at bytes)
  unfolding next_place after
  beyond = sym (drop-drop (record_length (drop at bytes)) at bytes)

  pub next_inside : cut (drop at bytes) ≡ false → (at < next_place bytes at) × (next_place bytes at ≤ length bytes)
  unfolding next_place
  next_inside whole =
      let inside = within (drop at bytes) whole in
      (omega arith, omega (arith, length-drop at bytes))

  -- the next record by the length of the body
  pub next_by_body : cut (drop at bytes) ≡ false → body_place at + length (body (drop at bytes)) ≡ next_place bytes at
  unfolding next_place body_place record_length
  next_by_body whole = omega (arith, length-body (drop at bytes) whole)

  body_inside : body_place at ≤ next_place bytes at
  unfolding body_place next_place record_length
  body_inside = omega arith

-- what a frame says of the record at a place
pub record FramedAt (bytes : List ℕ) (at k b next : ℕ) : Type 0 where
  pub whole : cut (drop at bytes) ≡ false
  pub kind_is : k ≡ kind (drop at bytes)
  pub place_is : b ≡ body_place at
  pub next_is : next ≡ next_place bytes at
  pub ahead : b ≤ next
  pub inside : next ≤ length bytes
  pub body_is : take (next - b) (drop b bytes) ≡ body (drop at bytes)

abbrev Framed : List ℕ → ℕ → Option Frame → Type 0
Framed bytes at (Some frame) = FramedAt bytes at frame.kind frame.body frame.next
Framed bytes at None = cut (drop at bytes) ≡ true

framed_by : (bytes : List ℕ) (at : ℕ) → Framed bytes at (frame_at bytes at)
unfolding frame_at
framed_by bytes at =
    by_test (cut (drop at bytes)) (λ short. rw short short)
    (λ whole.
    rw whole
    (record {
      whole = whole;
      kind_is = refl;
      place_is = refl;
      next_is = refl;
      ahead = body_inside bytes at;
      inside = (next_inside bytes at whole).1;
      body_is = body_there bytes at;
    }))

pub framed : (bytes : List ℕ) (at : ℕ) (frame : Option Frame) → frame_at bytes at ≡ frame → Framed bytes at frame
framed bytes at frame is = subst (Framed bytes at) is (framed_by bytes at)
