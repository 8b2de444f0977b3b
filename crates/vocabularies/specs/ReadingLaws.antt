-- A line is found exactly where one is printed with its line feed.
use Rattle.std.specs.Prelude.{ℕ, ◌+◌, ◌≤◌, ◌<◌, ◌≡◌, refl, true, false, not, ◌&&◌, Option, Some, None, List, [], ◌∷◌, ◌++◌, eqb, leb, ltb, length, take, drop, get_or}
use Rattle.std.proofs.Common.{sym, ap, ◌∙◌, append_assoc, arith, take-append-drop, length-append, length-drop, drop_of_length-le, drop-cons, drop-drop, length-take-le}
use Rattle.std.proofs.Math.Bool.{and-false}
use Rattle.std.proofs.lemmas.Bool.{false≢true}
use Rattle.std.proofs.Math.Seq.{drop-append_seam, take-append_seam}
use borrow.Author.Tests.{eqb-true, eqb-false, eq-eqb, ne_eqb, le-leb, lt-leb, leb-true, le-ltb, ltb-false}
use Rattle.paper.specs.Letters.{letters}
use Rattle.paper.specs.TestLaws.{by_test, and_parts, neither_left, neither_right, apart}
use Rattle.paper.specs.Words.{small, all_small, first_other, wrong_length}
use Rattle.paper.specs.WordsLaws.{first_small, first_inside, first_behind}
use Rattle.printed.specs.PrintedLaws.{got, Reads}
use Rattle.vocabularies.specs.Vocabularies.{Pair, print, form, taken}
use Rattle.vocabularies.specs.Reading.{begins_with, letters_before, by_stem, by_word, lengths, found_in, pair_in, size, told, read_line}
use Rattle.vocabularies.specs.declared.Lengths.{Lengths}

-- ## Letters, and the byte behind them
pub letters_read : (close : ℕ) (word more : List ℕ) → small close ≡ false → length word ≤ 64 → all_small word ≡ true
    → letters_before close (word ++ (close ∷ more)) ≡ Some (length word)
unfolding letters_before begins_with
letters_read close word more other few all =
    rw (first_behind word close more all other, le-leb (length word) 64 few, drop-append_seam word (close ∷ more), eq-eqb close close refl)

-- by the place of the first byte that is no small letter
module _ (close : ℕ) (rest : List ℕ) where
  pub too_many : 64 < first_other rest → letters_before close rest ≡ None
  unfolding letters_before
  too_many many = rw (lt-leb (first_other rest) 64 many)

  pub none_behind : length rest ≤ first_other rest → letters_before close rest ≡ None
  unfolding letters_before begins_with
  none_behind end = rw (drop_of_length-le rest end, and-false (leb (first_other rest) 64))

  module _ (inside : first_other rest < length rest) where
    pub close_behind : first_other rest ≤ 64 → get_or rest (first_other rest) 0 ≡ close → letters_before close rest ≡ Some (first_other rest)
    unfolding letters_before begins_with
    close_behind few is =
        rw (drop-cons rest (first_other rest) 0 inside, le-leb (first_other rest) 64 few, eq-eqb (get_or rest (first_other rest) 0) close is)

    pub other_behind : (get_or rest (first_other rest) 0 ≡ close → ⊥) → letters_before close rest ≡ None
    unfolding letters_before begins_with
    other_behind is =
        let n = first_other rest in
        rw (drop-cons rest n 0 inside, ne_eqb (get_or rest n 0) close is, and-false (leb n 64))

-- what stands there
pub record LettersHere (close : ℕ) (rest : List ℕ) (count : ℕ) : Type 0 where
  pub at_most : count ≤ 64
  pub inside : count < length rest
  pub small_there : all_small (take count rest) ≡ true
  pub rest_is : rest ≡ take count rest ++ (close ∷ drop (count + 1) rest)

begins : (byte : ℕ) (rest : List ℕ) → begins_with byte rest ≡ true → rest ≡ byte ∷ drop 1 rest
unfolding begins_with
begins byte [] is = apart (cc)
begins byte (first ∷ more) is = rw (eqb-true first byte is) refl

pub letters_here : (close : ℕ) (rest : List ℕ) (count : ℕ) → letters_before close rest ≡ Some count → LettersHere close rest count
unfolding letters_before
letters_here close rest count is =
    let n = first_other rest in
    by_test (leb n 64 && begins_with close (drop n rest))
    (λ so.
    let both = and_parts (leb n 64) (begins_with close (drop n rest)) so in
    let found : Some n ≡ Some count = sym (rw so refl) ∙ is in
    let same : n ≡ count = cc in
    let behind = begins close (drop n rest) both.1 in
    let whole : rest ≡ take n rest ++ (close ∷ drop (n + 1) rest) =
    sym (take-append-drop n rest) ∙ ap (λ (l : List ℕ). take n rest ++ l) (behind ∙ ap (λ (l : List ℕ). close ∷ l) (drop-drop 1 n rest)) in
    let long = length-take-le n rest (first_inside rest) in
    rw (← same)
    (record {
      at_most = leb-true n 64 both.0;
      inside = omega (arith, ap length whole, length-append (take n rest) (close ∷ drop (n + 1) rest));
      small_there = first_small rest;
      rest_is = whole;
    }))
    (λ is-not. let no : None ≡ Some count = sym (rw is-not refl) ∙ is in apart (cc))

-- ## A line
-- the form, by its parts
pub record OfForm (one : Pair) : Type 0 where
  pub some_letter : 0 < length one.word
  pub word_short : length one.word ≤ 64
  pub word_small : all_small one.word ≡ true
  pub stem_short : length one.stem ≤ 64
  pub stem_small : all_small one.stem ≡ true

positive : (n : ℕ) → (n ≡ 0 → ⊥) → 0 < n
positive n some = omega arith

pub form_parts : (one : Pair) → form one ≡ true → OfForm one
unfolding form wrong_length
form_parts one is =
    let w = one.word in
    let s = one.stem in
    let right = not (wrong_length w) in
    let four = and_parts (right && all_small w && leb (length s) 64) (all_small s) is in
    let three = and_parts (right && all_small w) (leb (length s) 64) four.0 in
    let two = and_parts right (all_small w) three.0 in
    by_test (wrong_length w) (λ wrong. let no : false ≡ true = sym (rw wrong refl) ∙ two.0 in absurd (false≢true no))
    (λ not_wrong.
    record {
      some_letter = positive (length w) (eqb-false (length w) 0 (neither_left (eqb (length w) 0) (ltb 64 (length w)) not_wrong));
      word_short = ltb-false 64 (length w) (neither_right (eqb (length w) 0) (ltb 64 (length w)) not_wrong);
      word_small = two.1;
      stem_short = leb-true (length s) 64 three.1;
      stem_small = four.1;
    })

pub parts_form : (one : Pair) → OfForm one → form one ≡ true
unfolding form wrong_length
parts_form one parts =
    rw (
      ne_eqb (length one.word) 0 (λ none. omega (arith, parts.some_letter)),
      le-ltb 64 (length one.word) parts.word_short,
      parts.word_small,
      le-leb (length one.stem) 64 parts.stem_short,
      parts.stem_small,
    )

-- a printed line, by its parts
by_parts : (word stem more : List ℕ) → (word ++ (letters " " ++ stem)) ++ (10 ∷ more) ≡ word ++ (32 ∷ (stem ++ (10 ∷ more)))
unfolding letters
by_parts word stem more = append_assoc word (32 ∷ stem) (10 ∷ more)

complete : (one : Pair) (more : List ℕ) → form one ≡ true → read_line (print one ++ (10 ∷ more)) ≡ got one more
unfolding read_line found_in print
complete one more is =
    let parts = form_parts one is in
    let w = one.word in
    let s = one.stem in
    let rest = w ++ (32 ∷ (s ++ (10 ∷ more))) in
    let behind : drop (length w + 1) rest ≡ s ++ (10 ∷ more) =
    sym (drop-drop 1 (length w) rest) ∙ ap (drop 1) (drop-append_seam w (32 ∷ (s ++ (10 ∷ more)))) in
    let left : drop (size (length w) (length s)) rest ≡ more =
    sym (drop-drop 1 (length w + 1 + length s) rest)
    ∙ ap (drop 1) (sym (drop-drop (length s) (length w + 1) rest) ∙ (ap (drop (length s)) behind ∙ drop-append_seam s (10 ∷ more))) in
    rw (
      by_parts w s more,
      letters_read 32 w (s ++ (10 ∷ more)) refl parts.word_short parts.word_small,
      ne_eqb (length w) 0 (λ none. omega (arith, parts.some_letter)),
      behind,
      letters_read 10 s more refl parts.stem_short parts.stem_small,
      left,
      behind,
      take-append_seam w (32 ∷ (s ++ (10 ∷ more))),
      take-append_seam s (10 ∷ more),
    )

-- by what stands before the space, and before the line feed
module _ (rest : List ℕ) where
  pub no_space : letters_before 32 rest ≡ None → found_in rest ≡ None
  unfolding found_in
  no_space is = rw is

  module _ {word : ℕ} (is : letters_before 32 rest ≡ Some word) where
    pub no_word : word ≡ 0 → found_in rest ≡ None
    unfolding found_in
    no_word none = rw (is, eq-eqb word 0 none)

    pub by_stem_lem : (word ≡ 0 → ⊥) → (found : Option ℕ) → letters_before 10 (drop (word + 1) rest) ≡ found → found_in rest ≡ by_stem word found
    unfolding found_in
    by_stem_lem is_one found stem_is = rw (is, ne_eqb word 0 is_one, stem_is)

-- what is found
pub record LineHere (rest : List ℕ) (word stem : ℕ) : Type 0 where
  pub of_form : OfForm (pair_in rest word stem)
  pub word_is : length (take word rest) ≡ word
  pub printed : rest ≡ print (pair_in rest word stem) ++ (10 ∷ drop (size word stem) rest)
  pub size_inside : size word stem ≤ length rest

both_here : (rest : List ℕ) (word stem : ℕ) → LettersHere 32 rest word → LettersHere 10 (drop (word + 1) rest) stem → (word ≡ 0 → ⊥)
    → LineHere rest word stem
unfolding print
both_here rest word stem one other is_one =
    let w = take word rest in
    let s = take stem (drop (word + 1) rest) in
    let long-w = length-take-le word rest (omega (arith, one.inside)) in
    let long-s = length-take-le stem (drop (word + 1) rest) (omega (arith, other.inside)) in
    let together : word + 1 + (stem + 1) ≡ size word stem = omega arith in
    let left : drop (stem + 1) (drop (word + 1) rest) ≡ drop (size word stem) rest =
    drop-drop (stem + 1) (word + 1) rest ∙ ap (λ (n : ℕ). drop n rest) together in
    let whole = one.rest_is ∙ ap (λ (l : List ℕ). w ++ (32 ∷ l)) (other.rest_is ∙ ap (λ (l : List ℕ). s ++ (10 ∷ l)) left) in
    record {
      of_form =
          record {
            some_letter = omega (arith, positive word is_one);
            word_short = omega (arith, one.at_most);
            word_small = one.small_there;
            stem_short = omega (arith, other.at_most);
            stem_small = other.small_there;
          };
      word_is = long-w;
      printed = whole ∙ sym (by_parts w s (drop (size word stem) rest));
      size_inside = omega (arith, one.inside, other.inside, length-drop (word + 1) rest);
    }

pub line_here : (rest : List ℕ) (word stem : ℕ) → found_in rest ≡ Some (lengths word stem) → LineHere rest word stem
unfolding found_in print
line_here rest word stem is = by (letters_before 32 rest) refl is
  where
    after : (n : ℕ) → letters_before 32 rest ≡ Some n → eqb n 0 ≡ false → (found : Option ℕ) → letters_before 10 (drop (n + 1) rest) ≡ found
        → by_stem n found ≡ Some (lengths word stem) → LineHere rest word stem
    after n first is_one (Some k) second e =
        let line : lengths n k ≡ lengths word stem = cc in
        let same : n ≡ word = ap (λ (l : Lengths). l.word) line in
        let also : k ≡ stem = ap (λ (l : Lengths). l.stem) line in
        let there = letters_here 10 (drop (n + 1) rest) k second in
        rw (← same, ← also) (both_here rest n k (letters_here 32 rest n first) there (eqb-false n 0 is_one))
    after n first is_one None second e = apart (cc)

    by : (found : Option ℕ) → letters_before 32 rest ≡ found → by_word rest found ≡ Some (lengths word stem) → LineHere rest word stem
    by (Some n) first e =
        by_test (eqb n 0) (λ none. let no : None ≡ Some (lengths word stem) = sym (rw none refl) ∙ e in apart (cc))
        (λ is_one. after n first is_one (letters_before 10 (drop (n + 1) rest)) refl (sym (rw is_one refl) ∙ e))
    by None first e = apart (cc)

sound : (rest : List ℕ) (one : Pair) (more : List ℕ) → read_line rest ≡ got one more
    → (form one ≡ true) × (rest ≡ print one ++ (10 ∷ more))
unfolding read_line
sound rest one more is = by (found_in rest) refl is
  where
    by : (found : Option Lengths) → found_in rest ≡ found → told rest found ≡ got one more → (form one ≡ true) × (rest ≡ print one ++ (10 ∷ more))
    by (Some line) found e =
        let here = line_here rest line.word line.stem found in
        let this : pair_in rest line.word line.stem ≡ one = cc in
        let behind : drop (size line.word line.stem) rest ≡ more = cc in
        (rw (← this) (parts_form _ here.of_form), rw (← this, ← behind) here.printed)
    by None found e = apart (cc)

-- the reader finds a line of the form exactly where its printed text and a line feed stand
pub reads : Reads print form read_line
reads = record { sound = sound; complete = complete }

pub of_form : (before : List Pair) (one : Pair) → taken before one ≡ true → form one ≡ true
unfolding taken
of_form before one is = is
