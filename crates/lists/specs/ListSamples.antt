-- Samples of W-205, each kind as one statement over a list: words with a list, and what a check of a list answers.
use Rattle.std.specs.Prelude.{ℕ, ◌≡◌, refl, List, [], ◌∷◌, ◌++◌, map, length, take, replicate}
use Prim.Native.String.{String}
use Rattle.paper.specs.Letters.{letters, among, vowel_after, class_after, inward, class_of, letter_at, class_at, rises, measure}
use Rattle.paper.specs.Conditions.{some_vowel, *v*, *d, *o, last_is, conditions, holds}
use Rattle.paper.specs.Groups.{same, ends_with, before, which, first, fitting, longest, chosen, obeyed, act, result, opens_next, steps}
use Rattle.paper.specs.Groups.{reading}
use Rattle.paper.specs.Shipped.{shipped}
use Rattle.paper.specs.Words.{read_word, stem, placed, wrong_length, all_small, first_other, Outcome, refused, judged, reading_outcome}
use Rattle.paper.specs.Words.{judged_outcome, word_outcome}
use Rattle.records.specs.Framing.{number, body_length, kind, body, record_length, after, cut, two, record_of}
use Rattle.records.specs.Records.{faulty_end}
use Rattle.answers.specs.Answers.{Said}
use Rattle.lists.specs.Lists.{Entry, allowed, word_in, stem_in, faulty_entry, faulty, read_rest, read_list, find, excepting}
use Rattle.lists.specs.ListBytes.{entry_body, records_of, list_of}
use Rattle.lists.specs.Calls.{checked, listed_outcome}

abbrev entry : String → String → Entry
entry word stem = record { word = letters word; stem = letters stem }

-- "\"Wolves\" should stem to \"wolf\" and \"indices\" to \"index\"": as bytes, 19 of them for the first alone
pub nineteen_is : list_of (entry "wolves" "wolf" ∷ []) ≡ 11 ∷ 0 ∷ 4 ∷ 0 ∷ 6 ∷ letters "wolveswolf" ++ 0 ∷ 0 ∷ 3 ∷ 0 ∷ []
unfolding letters entry_body records_of list_of record_of two
nineteen_is = refl

-- wolves is listed twice; "A listed word of one or two letters has its listed stem", so us and s are listed; hopings has a stem that the
-- rules would change
unfoldable pub exceptions : List ℕ
exceptions =
    list_of
    (entry "wolves" "wolf"
    ∷ entry "indices" "index"
    ∷ entry "wolves" "dog"
    ∷ entry "us" "we"
    ∷ entry "s" "x"
    ∷ entry "hopings" "hoping"
    ∷ [])

-- a word and its stem with this list; words that are not listed are among them
unfoldable pub samples : List (String × String)
samples =
    ("wolves", "wolf")
    ∷ ("indices", "index")
    ∷ ("us", "we")
    ∷ ("s", "x")
    ∷ ("hopings", "hoping")
    ∷ ("hoping", "hope")
    ∷ ("wolf", "wolf")
    ∷ ("feeds", "feed")
    ∷ ("as", "as")
    ∷ []

abbrev done_with : String × String → Outcome
done_with s = record { number = 0; value = length (letters s.1); place = placed (letters s.0) (letters s.1) }

pub samples_hold : map (λ s. listed_outcome (stem shipped) exceptions (letters s.0)) samples ≡ map done_with samples
unfolding letters among vowel_after class_after inward class_of letter_at class_at rises measure some_vowel *v* *d *o last_is conditions holds
    same ends_with before which first fitting longest chosen obeyed act result opens_next steps reading shipped read_word stem placed
    wrong_length all_small first_other judged reading_outcome judged_outcome word_outcome number body_length kind body record_length after cut two
    record_of faulty_end allowed word_in stem_in faulty_entry faulty read_rest read_list find excepting entry_body records_of list_of listed_outcome
    exceptions samples
samples_hold = refl

-- words that are refused as without a list: "1, 2, 4 for a word"
pub refusals_hold : (listed_outcome (stem shipped) exceptions [] ≡ refused 1 0 [])
    × (listed_outcome (stem shipped) exceptions (letters "wolve5") ≡ refused 2 5 (letters "wolve5"))
unfolding letters shipped read_word stem wrong_length all_small first_other judged reading_outcome judged_outcome word_outcome number body_length
    kind body record_length after cut two record_of faulty_end allowed word_in stem_in faulty_entry faulty read_rest read_list find excepting same
    entry_body records_of list_of listed_outcome exceptions
refusals_hold = (refl, refl)

-- ## Lists, and what a check answers

abbrev counting : ℕ → Said
counting count = record { number = 0; value = count }

abbrev faulty_there : ℕ → Said
faulty_there place = record { number = 10; value = place }

abbrev close : List ℕ
close = 0 ∷ 0 ∷ 3 ∷ 0 ∷ []

-- a record of wolves in front, which takes 15 bytes
abbrev behind : List ℕ → List ℕ
behind rest = record_of 4 (6 ∷ letters "wolveswolf") ++ rest

-- each fault that 02 names, first or behind a good record; and, in order, the bounds: a close alone, a word and a stem of 64 letters
unfoldable pub lists : List (List ℕ × Said)
lists =
    ([], faulty_there 0)
    ∷ (close, counting 0)
    ∷ (exceptions, counting 6)
    ∷ (behind [], faulty_there 15)
    ∷ (behind (take 3 close), faulty_there 15)
    ∷ (take 14 (behind []), faulty_there 0)
    ∷ (behind (record_of 2 [] ++ close), faulty_there 15)
    ∷ (behind (record_of 5 (1 ∷ letters "ab") ++ close), faulty_there 15)
    ∷ (behind (record_of 4 [] ++ close), faulty_there 15)
    ∷ (behind (record_of 4 (0 ∷ letters "a") ++ close), faulty_there 15)
    ∷ (behind (record_of 4 (3 ∷ letters "ab") ++ close), faulty_there 15)
    ∷ (behind (record_of 4 (2 ∷ letters "ab") ++ close), faulty_there 15)
    ∷ (behind (record_of 4 (2 ∷ letters "ababc") ++ close), faulty_there 15)
    ∷ (behind (record_of 4 (2 ∷ letters "aBab") ++ close), faulty_there 15)
    ∷ (behind (record_of 4 (2 ∷ letters "aba1") ++ close), faulty_there 15)
    ∷ (behind (record_of 4 (64 ∷ replicate 128 97) ++ close), counting 2)
    ∷ (behind (record_of 4 (65 ∷ replicate 128 97) ++ close), faulty_there 15)
    ∷ (record_of 3 (0 ∷ []), faulty_there 0)
    ∷ (close ++ 0 ∷ [], faulty_there 0)
    ∷ []

pub lists_hold : map (λ s. checked s.0) lists ≡ map (λ s. s.1) lists
unfolding letters wrong_length all_small number body_length kind body record_length after cut two record_of faulty_end allowed word_in stem_in
    faulty_entry faulty read_rest read_list entry_body records_of list_of exceptions lists checked
lists_hold = refl
