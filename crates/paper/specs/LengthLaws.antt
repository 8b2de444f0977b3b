-- When a group's result is no longer than its word, and when no word outgrows its place, over any rule list.
use Rattle.std.specs.Prelude.{ℕ, ◌+◌, ◌≤◌, ◌≡◌, refl, Bool, true, cond, ◌&&◌, List, [], ◌∷◌, map, leb, length}
use Rattle.std.proofs.Common.{arith, ap, length-append, length-take, le-leb, leb-true, leb-false}
use Rattle.std.proofs.Math.Bool.{false}
use Rattle.std.proofs.Math.Option.{Option, none, some}
use Rattle.paper.specs.Groups.{Action, replace, single_letter, written, Rule, Gate, always, if_opened, Group}
use Rattle.paper.specs.Groups.{before, obeyed, act, runs, read_turn, result, opens_next, Step, steps, Reading, done, reading}
use Rattle.paper.specs.TestLaws.{one_if, and_parts, by_test}
use Rattle.paper.specs.GroupsLaws.{before_length, ending_short}
use Rattle.paper.specs.ReadingLaws.{every, every_in, obeyed_first}
use Rattle.paper.specs.Words.{read_word, stem}
use Rattle.paper.specs.WordsLaws.{stem_short, stem_longer}

-- a rule with so much room to add takes away at least what it writes, and one letter more where it opens the next group
unfoldable pub tame_rule : ℕ → Rule → Bool
tame_rule room rule = leb (length (written rule.action) + one_if rule.opens) (length rule.ending + room)

-- a group that is run only if opened has one letter of room: the rule that opened it took one away
abbrev pub room : Gate → ℕ
room always = 0
room if_opened = 1

unfoldable pub tame : List Group → Bool
tame [] = true
tame (group ∷ groups) = every (tame_rule (room group.gate)) group.rules && tame groups

act_length : (action : Action) (part : List ℕ) → length (act action part) ≤ length part + length (written action)
unfolding act
act_length (replace s2) part = omega (arith, length-append part s2)
act_length single_letter part = simp length-take (omega arith)

-- the result of a group of tame rules, with the letter that an opening rule keeps back
pub group_length :
    (n : ℕ) (word : List ℕ) (rules : List Rule)
    → every (tame_rule n) rules ≡ true
    → length (result word (obeyed word rules)) + one_if (opens_next (obeyed word rules)) ≤ length word + n
unfolding result opens_next tame_rule
group_length n word rules t = go (obeyed word rules) refl
  where
    go : (choice : Option Rule) → obeyed word rules ≡ choice
        → length (result word choice) + one_if (opens_next choice) ≤ length word + n
    go none e = omega arith
    go (some one) e =
        let found = (obeyed_first word rules one e).chosen_one in
        let short = ending_short word one.ending found.ends in
        let bound : length (written one.action) + one_if one.opens ≤ length one.ending + n
        = leb-true _ _ (every_in (tame_rule n) rules t found.stands) in
        let acted = act_length one.action (before word one.ending) in
        omega (arith, before_length word one.ending)

-- a group that is always run and whose rules are tame gives a word no longer than its own
pub group_no_longer :
    (word : List ℕ) (rules : List Rule) → every (tame_rule 0) rules ≡ true → length (result word (obeyed word rules)) ≤ length word
group_no_longer word rules t = let n = group_length 0 word rules t in omega arith

-- ## After each group

-- after each step the word fits its place
abbrev pub EachFits : ℕ → List Step → Type 0
EachFits place [] = Unit {0}
EachFits place (step ∷ later) = (length step.word ≤ place) × EachFits place later

-- an opened group has the letter that the rule which opened it took away
left_length :
    (gate : Gate) (opened : Bool) (word : List ℕ) (choice : Option Rule)
    → length (result word choice) + one_if (opens_next choice) ≤ length word + room gate
    → length (result word (cond (runs gate opened) choice none)) + one_if (opens_next (cond (runs gate opened) choice none))
    ≤ length word + one_if opened
unfolding result opens_next
left_length always opened word choice grown = omega arith
left_length if_opened true word choice grown = omega arith
left_length if_opened false word choice grown = omega arith

pub tame_fits :
    (place : ℕ) (groups : List Group) (opened : Bool) (word : List ℕ)
    → tame groups ≡ true
    → length word + one_if opened ≤ place
    → EachFits place (steps (map read_turn groups) opened word)
unfolding steps tame
tame_fits place [] opened word t fits = tt
tame_fits place (group ∷ groups) opened word t fits =
    let both = and_parts (every (tame_rule (room group.gate)) group.rules) (tame groups) t in
    let left = left_length group.gate opened word (obeyed word group.rules) (group_length _ word group.rules both.0) in
    (omega arith, tame_fits place groups _ _ both.1 (omega arith))

-- what going through groups gives is done, with a word that fits its place
abbrev pub Done : ℕ → Reading → Type 0
Done place given = (stem : List ℕ) × (given ≡ done stem) × (length stem ≤ place)

pub fits_done :
    (place : ℕ) (word : List ℕ) (given : List Step) → length word ≤ place → EachFits place given → Done place (reading place word given)
unfolding reading
fits_done place word [] fits each = (word, refl, fits)
fits_done place word (step ∷ later) fits each =
    rw (le-leb (length step.word) place each.0) (fits_done place step.word later each.0 each.1)

-- ## Every word

-- a word rule that answers every word with a stem no longer than the word
abbrev pub Stems : (List ℕ → Reading) → Type 0
Stems rule = (letters : List ℕ) → Done (length letters) (rule letters)

-- and one that, where it answers with a stem, never gives more letters than it was given
abbrev pub NeverLengthens : (List ℕ → Reading) → Type 0
NeverLengthens rule = (letters left : List ℕ) → rule letters ≡ done left → length left ≤ length letters

pub never_lengthens : (rule : List ℕ → Reading) → Stems rule → NeverLengthens rule
never_lengthens rule stems letters left leaves =
    let found = stems letters in
    let same : found.0 ≡ left = cc in
    omega (arith, found.2, ap length same)

-- reading by tame groups is such a rule, and so is the stem by them
module _ (groups : List Group) (is-tame : tame groups ≡ true) where
  pub tame_reads : Stems (read_word groups)
  unfolding read_word
  tame_reads word = fits_done (length word) word _ (omega arith) (tame_fits (length word) groups false word is-tame (omega arith))

  pub tame_stems : Stems (stem groups)
  tame_stems word =
      by_test (leb (length word) 2)
      (λ few. (word, stem_short groups word (leb-true (length word) 2 few), omega arith))
      (λ many. rw (stem_longer groups word (leb-false (length word) 2 many)) (tame_reads word))
