-- The samples of document 01 that are texts, and W-201's, as one statement over a single list.
use Rattle.std.specs.Prelude.{ℕ, ◌≡◌, refl, List, [], ◌∷◌, map}
use Prim.Native.String.{String}
use Rattle.paper.specs.Letters.{letters, among, vowel_after, class_after, inward, class_of, letter_at, class_at, rises, measure}
use Rattle.paper.specs.Conditions.{some_vowel, *v*, *d, *o, last_is, conditions, holds}
use Rattle.paper.specs.Groups.{same, ends_with, before, which, first, fitting, longest, chosen, obeyed, act}
use Rattle.paper.specs.Groups.{result, opens_next, steps, reading}
use Rattle.paper.specs.Shipped.{shipped}
use Rattle.paper.specs.Words.{read_word, stem, placed}
use Rattle.pieces.specs.Pieces.{is_letter, lowered, with_letter, pieces}
use Rattle.texts.specs.Texts.{Ran, answered, of_word, of_piece, of_pieces, run_text}

-- a text, what it is afterwards, and the two counts
abbrev Sample : Type 0
Sample = record { given : String; after : String; stemmed : ℕ; left : ℕ }

abbrev sample : String → String → ℕ → ℕ → Sample
sample given after stemmed left = record { given = given; after = after; stemmed = stemmed; left = left }

-- "Input `Feeds, hopping` and a line feed gives `feed , hop`, four spaces and a line feed."; W-201: "`S-type` gives `s-type`", and its
-- "US gallon"; "An empty text gives 0 and 0."; of 65 letters a "in a text: left, counted as a word left"; here with a capital
unfoldable pub samples : List Sample
samples =
    sample "Feeds, hopping\n" "feed , hop    \n" 2 0
    ∷ sample "S-type" "s-type" 2 0
    ∷ sample "US gallon" "us gallon" 2 0
    ∷ sample "" "" 0 0
    ∷ sample
    "Aaaaaaaaaaaaaaaaaaaaaaaaaaaaaaaaaaaaaaaaaaaaaaaaaaaaaaaaaaaaaaaaa cats"
    "Aaaaaaaaaaaaaaaaaaaaaaaaaaaaaaaaaaaaaaaaaaaaaaaaaaaaaaaaaaaaaaaaa cat "
    1
    1
    ∷ []

abbrev gives : Sample → Ran
gives s = record { text = letters s.after; stemmed = s.stemmed; left = s.left }

pub samples_hold : map (λ s. run_text (stem shipped) (letters s.given)) samples ≡ map gives samples
unfolding among vowel_after class_after inward class_of letter_at class_at rises measure some_vowel *v* *d *o last_is
    conditions holds same ends_with before which first fitting longest chosen obeyed act result opens_next steps reading shipped
    read_word stem placed is_letter with_letter pieces lowered answered of_word of_piece of_pieces run_text samples
samples_hold = refl
