-- Lines of W-202 and their texts, and texts that begin with no line: each as one statement over a list.
use Rattle.std.specs.Prelude.{ℕ, ◌≡◌, refl, Bool, true, false, List, [], ◌∷◌, ◌++◌, map}
use Prim.Native.String.{String}
use Rattle.paper.specs.Letters.{letters}
use Rattle.paper.specs.Groups.{Action, replace, single_letter, always, if_opened}
use Rattle.paper.specs.Words.{all_small, first_other}
use Rattle.printed.specs.PrintedLaws.{nothing}
use Rattle.lines.specs.Lines.{Line, group, rule, spellings, spelling, part, action, print, form}
use Rattle.lines.specs.Reading.{starts_with, spelled, spelled_in, head_in, part_in, close_in, closed_in, after_arrow, after_condition}
use Rattle.lines.specs.Reading.{found_in, read_line}

-- condition, ending, what is done, whether it opens
abbrev one : ℕ → String → Action → Bool → Line
one condition s1 does opens = rule (record { condition = condition; ending = letters s1; action = does; opens = opens })

abbrev by : String → Action
by s2 = replace (letters s2)

-- a line, and its text
unfoldable pub samples : List (Line × String)
samples =
    (group always, "group")
    ∷ (group if_opened, "group opened")
    ∷ (one 0 "x" (by "opens") false, "none x -> opens")
    ∷ (one 0 "x" (by "opens") true, "none x -> opens opens")
    ∷ (one 2 "and" (by "x") false, "m>1 and -> x")
    ∷ (one 4 "ion" (by "") false, "m>1 and (*S or *T) ion -> -")
    ∷ (one 3 "ed" (by "") true, "*v* ed -> - opens")
    ∷ (one 0 "x" (by "single") false, "none x -> single")
    ∷ (one 5 "" single_letter false, "*d and not (*L or *S or *Z) - -> single letter")
    ∷ (one 8 "" single_letter true, "m>1 and *d and *L - -> single letter opens")
    ∷ (one 7 "e" (by "") false, "m=1 and not *o e -> -")
    ∷ []

pub samples_hold : map (λ s. print s.0) samples ≡ map (λ s. letters s.1) samples
unfolding samples letters spellings spelling part action print
samples_hold = refl

pub samples_of_form : map (λ s. form s.0) samples ≡ map (λ s. true) samples
unfolding samples letters all_small spellings form
samples_of_form = refl

-- texts up to their line feed that are no line: a part missing, two spaces, a space at an end, a capital, a condition's beginning
unfoldable pub others : List String
others =
    ""
    ∷ "groups"
    ∷ "group "
    ∷ "group  opened"
    ∷ "none x ->"
    ∷ "none  x -> y"
    ∷ "none x -> y "
    ∷ " none x -> y"
    ∷ "none x -> Y"
    ∷ "none x->y"
    ∷ "none -> x"
    ∷ "m>1 and *d x -> y"
    ∷ "m>1 and (*S or *T) -> y"
    ∷ "m=1 x -> y"
    ∷ "none x -> y opened"
    ∷ "none - -> single  letter"
    ∷ []

-- with a line feed behind them no line is read there, and so none is printed there
pub others_refused : map (λ s. read_line (letters s ++ (10 ∷ []))) others ≡ map (λ s. nothing) others
unfolding others letters read_line found_in head_in spelled_in spelled spelling spellings starts_with part_in first_other close_in closed_in
    after_arrow after_condition
others_refused = refl

-- "`group` without its line feed is not of this form"
pub feed_asked : read_line (letters "group") ≡ nothing
unfolding letters read_line found_in head_in spelled_in spelled spelling spellings starts_with
feed_asked = refl
