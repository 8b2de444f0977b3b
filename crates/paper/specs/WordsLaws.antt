-- Laws of a call on a word: the first byte outside a to z, what is said of a word before it is read, which words are their own
-- stem, and from the ways out of a call to its outcome, whatever reads the word.
use Prim.Native.Nat.compare
use Rattle.std.specs.Prelude.{ℕ, suc, ◌-◌, ◌≤◌, ◌<◌, ◌≡◌, Bool, not, ◌&&◌, List, [], ◌∷◌, ◌++◌, eqb, ltb, take, drop, get_or, replicate}
use native.Mathlib.Omega.{arith}
use Rattle.std.proofs.Math.Path.{refl, sym}
use Rattle.std.proofs.Common.{◌∙◌, true≢false, append-nil, drop-cons}
use Rattle.std.proofs.Math.Bool.{true, false, cond}
use Rattle.std.proofs.Math.ListN.{length}
use Rattle.std.proofs.Math.Seq.{length-take-le}
use borrow.Author.Tests.{eq-eqb, ne_eqb, lt-ltb, le-ltb, ltb-false, le-leb, lt-leb}
use Rattle.paper.specs.Groups.{Group, Reading, done, outgrown}
use Rattle.paper.specs.TestLaws.{by_test, and_parts, or_right, neither_right}
use Rattle.paper.specs.Words.{read_word, stem, placed, wrong_length, small, all_small, first_other, Gives}
use Rattle.paper.specs.Words.{taken, turned_down, judged, judged_by, reading_outcome, judged_outcome, word_outcome}

-- ## Small letters

-- one is no other byte
pub small_apart : (x y : ℕ) → small x ≡ true → small y ≡ false → eqb x y ≡ false
small_apart x y one other = ne_eqb x y (λ same. true≢false (sym one ∙ (rw same other)))

pub all_small_append : (one other : List ℕ) → all_small (one ++ other) ≡ (all_small one && all_small other)
unfolding all_small
all_small_append [] other = refl
all_small_append (byte ∷ bytes) other =
    by_test (small byte) (λ is. rw is (all_small_append bytes other)) (λ is-not. rw is-not)

-- ## The first byte outside a to z

pub other_here : (word : List ℕ) (i : ℕ) → i < length word → small (get_or word i 0) ≡ false → first_other (drop i word) ≡ 0
unfolding first_other
other_here word i h e = rw (drop-cons word i 0 h, e)

pub other_later :
    (word : List ℕ) (i : ℕ)
    → i < length word
    → small (get_or word i 0) ≡ true
    → first_other (drop i word) ≡ suc (first_other (drop (suc i) word))
unfolding first_other
other_later word i h e = rw (drop-cons word i 0 h, e)

-- before it all are from a to z
pub first_small : (word : List ℕ) → all_small (take (first_other word) word) ≡ true
unfolding all_small first_other
first_small [] = refl
first_small (x ∷ word) = by_test (small x) (λ is. rw (is, is, first_small word)) (λ is-not. rw is-not refl)

pub first_inside : (word : List ℕ) → first_other word ≤ length word
unfolding first_other
first_inside [] = omega arith
first_inside (x ∷ word) =
    let later = first_inside word in
    by_test (small x) (λ is. rw is (omega arith)) (λ is-not. rw is-not (omega arith))

-- small letters, and a byte behind them that is none
pub first_behind : (letters : List ℕ) (other : ℕ) (more : List ℕ) → all_small letters ≡ true → small other ≡ false
    → first_other (letters ++ (other ∷ more)) ≡ length letters
unfolding all_small first_other
first_behind [] other more all outside = rw outside refl
first_behind (x ∷ letters) other more all outside =
    let both = and_parts (small x) (all_small letters) all in
    rw (both.0, first_behind letters other more both.1 outside)

-- the first byte outside a to z stands in the word exactly if not every byte is from a to z
pub other_inside : (word : List ℕ) → ltb (first_other word) (length word) ≡ not (all_small word)
unfolding first_other all_small
other_inside [] = refl
other_inside (byte ∷ bytes) =
    by_test (small byte)
    (λ is. rw (is, compare.suc-suc) (other_inside bytes))
    (λ is. rw is (lt-ltb 0 (suc (length bytes)) (omega arith)))

-- ## What is said of a word before it is read

module _ (word : List ℕ) where
  pub judged-empty : length word ≡ 0 → judged word ≡ turned_down 1 0
  unfolding judged wrong_length
  judged-empty none = rw (eq-eqb (length word) 0 none)

  pub judged_long : 64 < length word → judged word ≡ turned_down 1 0
  unfolding judged wrong_length
  judged_long long = rw (or_right _ _ (lt-ltb 64 (length word) long))

  module _ (some : length word ≡ 0 → ⊥) (most : length word ≤ 64) where
    pub judged_other : all_small word ≡ false → judged word ≡ turned_down 2 (first_other word)
    unfolding judged wrong_length
    judged_other other = rw (ne_eqb (length word) 0 some, le-ltb 64 (length word) most, other)

    pub judged_taken : all_small word ≡ true → judged word ≡ taken
    unfolding judged wrong_length
    judged_taken all = rw (ne_eqb (length word) 0 some, le-ltb 64 (length word) most, all)

  pub judged_by_lem : judged_by (length word) (first_other word) ≡ judged word
  unfolding judged_by judged wrong_length
  judged_by_lem = rw (other_inside word) (go (wrong_length word) (all_small word))
    where
      go : (wrong all : Bool)
          → cond wrong (turned_down 1 0) (cond (not all) (turned_down 2 (first_other word)) taken)
          ≡ cond wrong (turned_down 1 0) (cond all taken (turned_down 2 (first_other word)))
      go true all = refl
      go false true = refl
      go false false = refl

pub taken_short : (word : List ℕ) → taken ≡ judged word → length word ≤ 64
unfolding judged wrong_length
taken_short word is =
    by_test (wrong_length word)
    (λ wrong. let refused : taken ≡ turned_down 1 0 = rw wrong at is in let no : ◌≡◌ {A = ℕ} 0 1 = cc in absurd (omega arith))
    (λ right. ltb-false 64 (length word) (neither_right (eqb (length word) 0) _ right))

-- ## The stem, by any groups

module _ (groups : List Group) (word : List ℕ) where
  -- a word of one or two letters is its own stem
  pub stem_short : length word ≤ 2 → stem groups word ≡ done word
  unfolding stem
  stem_short few = rw (le-leb (length word) 2 few)

  -- the stem of a longer word is what the groups leave of it, as before W-201
  pub stem_longer : 3 ≤ length word → stem groups word ≡ read_word groups word
  unfolding stem
  stem_longer many = rw (lt-leb (length word) 2 many)

-- ## The outcome, whatever reads the word

-- it asks a word rule of the word alone
pub outcome_same : (one other : List ℕ → Reading) (word : List ℕ) → one word ≡ other word → word_outcome one word ≡ word_outcome other word
unfolding word_outcome
outcome_same one other word same = rw same

module _ (reading : List ℕ → Reading) (word : List ℕ) where
  -- a refusal leaves the word as it came
  pub gives_refused : {number value : ℕ} → turned_down number value ≡ judged word → Gives (word_outcome reading word) number value word
  unfolding word_outcome judged_outcome
  gives_refused is = rw (← is) (record { number_is = refl; value_is = refl; place_is = refl })

  module _ (is-taken : taken ≡ judged word) where
    pub outcome_taken : word_outcome reading word ≡ reading_outcome word (reading word)
    unfolding word_outcome judged_outcome
    outcome_taken = rw (← is-taken)

    pub gives_outgrown : {after : List ℕ} → reading word ≡ outgrown → after ≡ word → Gives (word_outcome reading word) 4 0 after
    unfolding reading_outcome
    gives_outgrown e same = rw (outcome_taken, e) (record { number_is = refl; value_is = refl; place_is = same })

    -- the word is its own stem: no space is left to fill
    pub gives_whole : reading word ≡ done word → Gives (word_outcome reading word) 0 (length word) word
    unfolding reading_outcome placed
    gives_whole e =
        let none : length word - length word ≡ 0 = omega arith in
        rw (outcome_taken, e) (record { number_is = refl; value_is = refl; place_is = rw none (sym (append-nil word)) })

    -- the stem stands first, and spaces fill the rest
    pub gives_done : (left after : List ℕ) (size : ℕ) → reading word ≡ done (take size left)
        → size ≤ length left
        → length left ≡ length word
        → after ≡ take size left ++ replicate (length left - size) 32
        → Gives (word_outcome reading word) 0 size after
    unfolding reading_outcome placed
    gives_done left after size e short kept filled =
        let long = length-take-le size left short in
        rw (outcome_taken, e)
        (record { number_is = refl; value_is = sym long; place_is = rw (long, ← kept) filled })
