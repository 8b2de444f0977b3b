-- The body of one record: what its word and its stem are where it is long enough, and what it is known to have where it is not faulty.
use Prim.Native.Nat.{ℕ, zero, suc, ◌+◌, ◌-◌, ◌≤◌, ◌<◌}
use Rattle.std.specs.Prelude.{◌≡◌, Bool, true, false, not, ◌&&◌, List, [], ◌∷◌, ◌++◌, eqb, leb, ltb, take, drop}
use Rattle.std.proofs.Math.Path.{refl, ap, ap₂}
use Rattle.std.proofs.Common.{sym, ◌∙◌, take-append-drop, length-take, take-take}
use Rattle.std.proofs.Math.Bool.{and-false, and-true, and_assoc}
use Rattle.std.specs.List.{starts_with}
use lib.Pointwise.{pointwise}
use native.Mathlib.Omega.{arith}
use Rattle.std.proofs.Math.ListN.{length, length-drop}
use Rattle.std.proofs.Math.Seq.{drop-drop, length-take-le}
use borrow.Author.Tests.{eq-eqb, eqb-true, ltb-false, leb-true, not-false, le-leb}
use Rattle.paper.specs.Groups.{same, ends_with}
use Rattle.paper.specs.GroupsLaws.{same_equal}
use Rattle.paper.specs.ListLaws.{drop-take}
use Rattle.paper.specs.TestLaws.{by_test, test_ext, neither_left, neither_right, all_of_six, and_parts}
use Rattle.paper.specs.Words.{all_small}
use Rattle.lists.specs.Lists.{Entry, allowed, word_length, word_in, stem_in, entry_in, faulty_entry}
use Rattle.lists.specs.Searches.{fits, is_for}

-- ## Allowed

pub record Allowed (entry : Entry) : Type 0 where
  pub some_word : 1 ≤ length entry.word
  pub most : length entry.word ≤ 64
  pub small_word : all_small entry.word ≡ true
  pub some_stem : 1 ≤ length entry.stem
  pub no_more : length entry.stem ≤ length entry.word
  pub small_stem : all_small entry.stem ≡ true

pub is_allowed : (entry : Entry) → allowed entry ≡ true → Allowed entry
unfolding allowed
is_allowed entry is =
    let word : ℕ = length entry.word in
    let stem : ℕ = length entry.stem in
    let all = all_of_six (leb 1 word) (leb word 64) (all_small entry.word) (leb 1 stem) (leb stem word) (all_small entry.stem) is in
    record {
      some_word = leb-true 1 word all.0;
      most = leb-true word 64 all.1;
      small_word = all.2;
      some_stem = leb-true 1 stem all.3;
      no_more = leb-true stem word all.4;
      small_stem = all.5;
    }

pub allowed_is : (entry : Entry) → Allowed entry → allowed entry ≡ true
unfolding allowed
allowed_is entry is =
    let word : ℕ = length entry.word in
    let stem : ℕ = length entry.stem in
    rw (
      le-leb 1 word is.some_word,
      le-leb word 64 is.most,
      is.small_word,
      le-leb 1 stem is.some_stem,
      le-leb stem word is.no_more,
      is.small_stem,
    )

-- ## Word and stem, where the body has n bytes behind the byte n

module _ (body : List ℕ) where
  pub behind : drop 1 body ≡ word_in body ++ stem_in body
  unfolding word_in stem_in
  behind = rw (← drop-drop (word_length body) 1 body) (sym (take-append-drop (word_length body) (drop 1 body)))

  pub stem_length : length (stem_in body) ≡ length body - (1 + word_length body)
  unfolding stem_in
  stem_length = length-drop (1 + word_length body) body

  module _ (long : 1 + word_length body ≤ length body) where
    pub word_length_lem : length (word_in body) ≡ word_length body
    unfolding word_in
    word_length_lem = length-take-le (word_length body) (drop 1 body) (omega (arith, length-drop 1 body))

-- ## A body that is not faulty

pub record Sound (body : List ℕ) : Type 0 where
  pub long : 1 + word_length body ≤ length body
  pub is : Allowed (entry_in body)
  pub word_size : length (word_in body) ≡ word_length body
  pub stem_size : length (stem_in body) ≡ length body - (1 + word_length body)

pub sound : (body : List ℕ) → faulty_entry body ≡ false → Sound body
unfolding faulty_entry
sound body no-fault =
    let short = ltb (length body) (1 + word_length body) in
    let long = ltb-false _ _ (neither_left short (not (allowed (entry_in body))) no-fault) in
    let is = not-false (allowed (entry_in body)) (neither_right short (not (allowed (entry_in body))) no-fault) in
    record { long = long; is = is_allowed (entry_in body) is; word_size = word_length_lem body long; stem_size = stem_length body }

-- ## A record for a word

-- its byte n is the word's length, it is long enough, and its stem has room in the word's place
pub record Fitting (body word : List ℕ) : Type 0 where
  pub size : word_length body ≡ length word
  pub long : length word < length body
  pub room : length body - 1 - length word ≤ length word

module _ (body word : List ℕ) where
  pub fitting : is_for body word ≡ true → Fitting body word
  unfolding is_for fits
  fitting is =
      let both = and_parts (fits body) (same (word_in body) word) is in
      let lengths = and_parts (leb (1 + word_length body) (length body)) (leb (length (stem_in body)) (word_length body)) both.0 in
      let long = leb-true (1 + word_length body) (length body) lengths.0 in
      let room = leb-true (length (stem_in body)) (word_length body) lengths.1 in
      let same_length = ap length (same_equal (word_in body) word both.1) in
      let size = word_length_lem body long in
      let left = stem_length body in
      record { size = omega arith; long = omega arith; room = omega arith }

  pub not_fitting : (Fitting body word → ⊥) → false ≡ is_for body word
  not_fitting never = by_test (is_for body word) (λ is. absurd (never (fitting is))) (λ is-not. sym is-not)

either_way : (a b : ℕ) → eqb a b ≡ eqb b a
either_way a b =
    test_ext (eqb a b) (eqb b a) (λ e. eq-eqb b a (sym (eqb-true a b e))) (λ e. eq-eqb a b (sym (eqb-true b a e)))

-- the letters that stand first, compared
letters_same : (letters word : List ℕ) → pointwise eqb word letters ≡ same letters word
unfolding same
letters_same [] [] = refl
letters_same [] (y ∷ ys) = refl
letters_same (x ∷ xs) [] = refl
letters_same (x ∷ xs) (y ∷ ys) = ap₂ (λ (a b : Bool). a && b) (either_way y x) (letters_same xs ys)

-- those up to a place, and those behind it
same_parts : (k : ℕ) (xs ys : List ℕ) → same xs ys ≡ same (take k xs) (take k ys) && same (drop k xs) (drop k ys)
unfolding same
same_parts zero xs ys = refl
same_parts (suc k) [] [] = refl
same_parts (suc k) [] (y ∷ ys) = refl
same_parts (suc k) (x ∷ xs) [] = refl
same_parts (suc k) (x ∷ xs) (y ∷ ys) =
    ap (λ (b : Bool). eqb x y && b) (same_parts k xs ys)
    ∙ sym (and_assoc (eqb x y) (same (take k xs) (take k ys)) (same (drop k xs) (drop k ys)))

-- whether bytes begin with a word, which is no longer
module _ (bytes word : List ℕ) where
  pub begins_short : length bytes < length word → false ≡ starts_with eqb bytes word
  begins_short short =
      let first = take (length word) bytes in
      let never : same first word ≡ true → ⊥ =
      λ is. let so_long = ap length (same_equal first word is) in omega (arith, so_long, length-take (length word) bytes)
      in
      rw (letters_same first word) (by_test (same first word) (λ is. absurd (never is)) (λ is-not. sym is-not))

  pub begins_parts : (few : ℕ) → few ≤ length word → length word ≤ length bytes
      → starts_with eqb bytes word ≡ ends_with (take few bytes) (take few word) && starts_with eqb (drop few bytes) (drop few word)
  unfolding ends_with
  begins_parts few within long =
      let first : length (take few bytes) ≡ few = length-take-le few bytes (omega arith) in
      let its : length (take few word) ≡ few = length-take-le few word within in
      let left : length (drop few word) ≡ length word - few = length-drop few word in
      let none : length (take few bytes) - length (take few word) ≡ 0 = omega (arith, first, its) in
      letters_same (take (length word) bytes) word
      ∙ same_parts few (take (length word) bytes) word
      ∙ ap₂ (λ (a b : Bool). a && b)
      (ap (λ (l : List ℕ). same l (take few word)) (take-take few (length word) bytes within)
      ∙ ap (λ (n : ℕ). same (drop n (take few bytes)) (take few word)) (sym none))
      (ap (λ (l : List ℕ). same l (drop few word)) (drop-take few (length word) bytes ∙ ap (λ (n : ℕ). take n (drop few bytes)) (sym left))
      ∙ sym (letters_same (take (length (drop few word)) (drop few bytes)) (drop few word)))

  -- so where its first letters do not stand first, the bytes begin with another, and where they do the rest decides
  module _ (few : ℕ) (within : few ≤ length word) (long : length word ≤ length bytes) where
    pub begins_otherwise : ends_with (take few bytes) (take few word) ≡ false → false ≡ starts_with eqb bytes word
    begins_otherwise other =
        sym (begins_parts few within long ∙ ap (λ (b : Bool). b && starts_with eqb (drop few bytes) (drop few word)) other)

    pub begins_so : ends_with (take few bytes) (take few word) ≡ true
        → starts_with eqb (drop few bytes) (drop few word) ≡ starts_with eqb bytes word
    begins_so so =
        sym (begins_parts few within long ∙ ap (λ (b : Bool). b && starts_with eqb (drop few bytes) (drop few word)) so)

  -- or all of them decide at once
  pub begins_whole : length word ≤ length bytes → ends_with (take (length word) bytes) word ≡ starts_with eqb bytes word
  unfolding ends_with
  begins_whole long =
      let first : length (take (length word) bytes) ≡ length word = length-take-le (length word) bytes long in
      let none : length (take (length word) bytes) - length word ≡ 0 = omega (arith, first) in
      ap (λ (n : ℕ). same (drop n (take (length word) bytes)) word) none ∙ sym (letters_same (take (length word) bytes) word)

-- behind a byte n that is the word's length
module _ (body word : List ℕ) (size : word_length body ≡ length word) where
  same_letters : starts_with eqb (drop 1 body) word ≡ same (word_in body) word
  unfolding word_in
  same_letters = rw size (letters_same (take (length word) (drop 1 body)) word)

  pub other_letters : starts_with eqb (drop 1 body) word ≡ false → false ≡ is_for body word
  unfolding is_for
  other_letters other =
      let is : same (word_in body) word ≡ false = sym same_letters ∙ other in
      rw (is, and-false (fits body))

  word_inside : same (word_in body) word ≡ true → length word ≤ length (drop 1 body)
  unfolding word_in
  word_inside is =
      let so_long = ap length (same_equal (word_in body) word is) in
      omega (arith, so_long, length-take (word_length body) (drop 1 body))

  -- then only the room is left to judge
  pub by_room : 1 ≤ length body → starts_with eqb (drop 1 body) word ≡ true
      → leb (length (drop 1 body) - length word) (length word) ≡ is_for body word
  unfolding is_for fits
  by_room some starts =
      let is : same (word_in body) word ≡ true = sym same_letters ∙ starts in
      let behind_n = length-drop 1 body in
      let long : length word ≤ length (drop 1 body) = word_inside is in
      let left : length (stem_in body) ≡ length (drop 1 body) - length word = omega (arith, stem_length body) in
      rw (is, le-leb (1 + word_length body) (length body) (omega arith), left, size) (sym (and-true _))
