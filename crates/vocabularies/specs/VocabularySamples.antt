-- Lists with their answers, the incident's among them, and texts that are no line: each as one statement over a list.
use Rattle.std.specs.Prelude.{ℕ, ◌≡◌, refl, true, List, [], ◌∷◌, ◌++◌, map}
use Prim.Native.String.{String}
use Rattle.paper.specs.Letters.{letters, among, vowel_after, class_after, inward, class_of, letter_at, class_at, rises, measure}
use Rattle.paper.specs.Conditions.{some_vowel, *v*, *d, *o, last_is, conditions, holds}
use Rattle.paper.specs.Groups.{same, ends_with, before, which, first, fitting, longest, chosen, obeyed, act, result, opens_next, steps}
use Rattle.paper.specs.Groups.{reading}
use Rattle.paper.specs.Numbered.{number_of}
use Rattle.paper.specs.Shipped.{shipped}
use Rattle.paper.specs.Words.{read_word, stem, wrong_length, all_small, first_other}
use Rattle.printed.specs.Printed.{text_of}
use Rattle.printed.specs.PrintedLaws.{nothing, all_of}
use Rattle.vocabularies.specs.Vocabularies.{Pair, pair, print, form, wrong, said, Checks}
use Rattle.vocabularies.specs.Reading.{begins_with, letters_before, found_in, read_line}
use Rattle.vocabularies.specs.Answered.{lines_answered}

abbrev lines : List (String × String) → List Pair
lines = map (λ line. pair (letters line.0) (letters line.1))

-- the indexer of the incident tried a shorter ending after the longest was turned down
abbrev incident : List (String × String)
incident = ("pumps", "pump") ∷ ("feed", "fe") ∷ ("seals", "seal") ∷ []

-- lines, and the number of the first wrong one
unfoldable pub samples : List (List (String × String) × ℕ)
samples =
    ([], 0)
    ∷ (incident, 2)
    ∷ (("pumps", "pump") ∷ ("feed", "feed") ∷ ("seals", "seal") ∷ [], 0)
    ∷ (("hopping", "hop") ∷ ("hoping", "hope") ∷ ("s", "s") ∷ ("us", "us") ∷ [], 0)
    ∷ (("us", "us") ∷ ("us", "u") ∷ [], 2)
    ∷ (("feeds", "fee") ∷ [], 1)
    ∷ (("feeds", "feeds") ∷ [], 1)
    ∷ (("s", "") ∷ [], 1)
    ∷ (("cats", "cat") ∷ ("cats", "ca") ∷ ("cats", "c") ∷ [], 2)
    ∷ []

pub samples_hold : map (λ s. number_of wrong 1 (lines s.0)) samples ≡ map (λ s. s.1) samples
unfolding letters among vowel_after class_after inward class_of letter_at class_at rises measure some_vowel *v* *d *o last_is conditions holds
    same ends_with before which first fitting longest chosen obeyed act result opens_next steps reading shipped read_word stem number_of wrong
    samples
samples_hold = refl

pub samples_of_form : map (λ s. all_of form (lines s.0)) samples ≡ map (λ s. true) samples
unfolding letters wrong_length all_small all_of form samples
samples_of_form = refl

-- the incident's list, whole: 0, and the line of feed
pub incident-answered : Checks (letters "pumps pump" ++ (10 ∷ (letters "feed fe" ++ (10 ∷ (letters "seals seal" ++ (10 ∷ []))))))
    (said 0 2)
unfolding letters among vowel_after class_after inward class_of letter_at class_at rises measure some_vowel *v* *d *o last_is conditions holds
    same ends_with before which first fitting longest chosen obeyed act result opens_next steps reading shipped read_word stem number_of wrong
    wrong_length all_small form print text_of
incident-answered = lines_answered (lines incident) (refl, (refl, (refl, tt)))

-- texts up to their line feed that are no line: a part missing, another space or none, a byte that is no small letter
unfoldable pub others : List String
others =
    ""
    ∷ " "
    ∷ "feed"
    ∷ " feed"
    ∷ " feed feed"
    ∷ "feed  feed"
    ∷ "feed feed "
    ∷ "feed feed feed"
    ∷ "feed, feed"
    ∷ "Feed feed"
    ∷ "feed Feed"
    ∷ "feed f33d"
    ∷ "feed-pump feed"
    ∷ "abcdefghijklmnopqrstuvwxyzabcdefghijklmnopqrstuvwxyzabcdefghijklm a"
    ∷ "a abcdefghijklmnopqrstuvwxyzabcdefghijklmnopqrstuvwxyzabcdefghijklm"
    ∷ []

-- with a line feed behind them no line is read there, and so none is printed there
pub others_refused : map (λ s. read_line (letters s ++ (10 ∷ []))) others ≡ map (λ s. nothing) others
unfolding others letters first_other begins_with letters_before found_in read_line
others_refused = refl

-- "a line feed" ends a line
pub feed_asked : read_line (letters "feed feed") ≡ nothing
unfolding letters first_other begins_with letters_before found_in read_line
feed_asked = refl
