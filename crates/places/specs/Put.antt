-- Letters put into a list, and what that comes to where they fit.
use Rattle.std.specs.Prelude.{ℕ, ◌+◌, ◌≤◌, ◌≡◌, cond, List, ◌++◌, leb, length, take, drop}
use Rattle.std.proofs.Common.{arith, ◌∙◌, append-nil, drop_of_length-le, le-leb}
use Rattle.std.proofs.Math.Seq.{paste, take-append_seam, take-length}
use Rattle.std.proofs.lemmas.List.Edits.{take-paste}

-- the letters in the places from `at` on, if all of them fit; else the list as it is
unfoldable pub put_at : List ℕ → ℕ → List ℕ → List ℕ
put_at place at letters = cond (leb (at + length letters) (length place)) (paste place at letters (length letters)) place

pub put_fits :
    (place : List ℕ) (at : ℕ) (letters : List ℕ)
    → at + length letters ≤ length place
    → put_at place at letters ≡ paste place at letters (length letters)
unfolding put_at
put_fits place at letters fits = rw (le-leb (at + length letters) (length place) fits)

-- what is put behind a part follows it
pub put_behind :
    (place : List ℕ) (part : ℕ) (letters : List ℕ)
    → part + length letters ≤ length place
    → take (part + length letters) (put_at place part letters) ≡ take part place ++ letters
put_behind place part letters fits =
    rw (
      put_fits place part letters fits,
      take-paste place part letters (length letters) (omega arith) (omega arith),
      take-length letters,
    )

-- a word put into a place of its own length is all that stands there
pub put_whole : (place word : List ℕ) → length place ≡ length word → put_at place 0 word ≡ word
put_whole place word same =
    let over = drop_of_length-le place {i = 0 + length word} (omega arith) in
    put_fits place 0 word (omega arith) ∙ rw (take-length word, over, append-nil)

-- a word that was put elsewhere and is put back stands there as it came
pub put_back : (word zeros saved after back : List ℕ) (size : ℕ) → size ≡ length word → length word ≤ length zeros
    → saved ≡ put_at zeros 0 word
    → length after ≡ length word → back ≡ put_at after 0 (take size saved) → back ≡ word
put_back word zeros saved after back size s long kept same_long there =
    let put = put_fits zeros 0 word (omega arith) in
    let whole : take size saved ≡ word = rw (s, kept, put, take-length word) (take-append_seam word (drop (0 + length word) zeros)) in
    there ∙ rw whole (put_whole after word same_long)
