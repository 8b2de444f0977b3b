-- Document 01, "How a group is read", and of "The sheet" what a gate is: the rule that is obeyed in a group, and the one way
-- through the groups, whoever says which rule is obeyed in each.
use Rattle.std.specs.Prelude.{ℕ, ◌-◌, max, Bool, true, false, cond, ◌&&◌, List, [], ◌∷◌, ◌++◌, eqb, leb, length, take, drop}
use Rattle.std.proofs.Math.Option.{Option, none, some}
use Rattle.paper.specs.Conditions.{holds}

-- what a rule does: S2 follows the part, or the part loses its last letter
pub data Action : Type 0 where
  replace : List ℕ → Action
  single_letter : Action

-- what it writes behind the part: S2, or nothing where a single letter is left
abbrev pub written : Action → List ℕ
written (replace s2) = s2
written single_letter = []

-- "action (0 replace, 1 single letter)"
abbrev pub number_of_action : Action → ℕ
number_of_action (replace s2) = 0
number_of_action single_letter = 1

-- the action of a number, with these letters for S2
abbrev pub action_of : ℕ → List ℕ → Action
action_of number s2 = cond (eqb number 0) (replace s2) single_letter

-- "A group is a list of rules: condition, ending S1, replacement S2." A rule may open the next group.
pub record Rule : Type 0 where
  pub condition : ℕ
  pub ending : List ℕ
  pub action : Action
  pub opens : Bool

-- "0: always run. 1: run only if the group just before was run and obeyed a rule that opens."
pub data Gate : Type 0 where
  always if_opened : Gate

abbrev pub number_of_gate : Gate → ℕ
number_of_gate always = 0
number_of_gate if_opened = 1

-- the gate of a number
abbrev pub gate_of : ℕ → Gate
gate_of number = cond (eqb number 0) always if_opened

pub record Group : Type 0 where
  pub gate : Gate
  pub rules : List Rule

-- two lists of letters are the same
unfoldable pub same : List ℕ → List ℕ → Bool
same [] [] = true
same [] (y ∷ ys) = false
same (x ∷ xs) [] = false
same (x ∷ xs) (y ∷ ys) = eqb x y && same xs ys

-- the word ends with S1: its last letters are S1. "the empty S1 ends every word and S1 may be the whole word"
unfoldable pub ends_with : List ℕ → List ℕ → Bool
ends_with word s1 = same (drop (length word - length s1) word) s1

-- "the part before S1"
unfoldable pub before : List ℕ → List ℕ → List ℕ
before word s1 = take (length word - length s1) word

-- the rules that pass a test, in their order
unfoldable pub which : (Rule → Bool) → List Rule → List Rule
which test [] = []
which test (rule ∷ rules) = cond (test rule) (rule ∷ which test rules) (which test rules)

-- the first rule that passes a test
unfoldable pub first : (Rule → Bool) → List Rule → Option Rule
first test [] = none
first test (rule ∷ rules) = cond (test rule) (some rule) (first test rules)

-- the rules of the group whose S1 the word ends with
unfoldable pub fitting : List ℕ → List Rule → List Rule
fitting word rules = which (λ rule. ends_with word rule.ending) rules

-- how long the longest S1 of these rules is
unfoldable pub longest : List Rule → ℕ
longest [] = 0
longest (rule ∷ rules) = max (length rule.ending) (longest rules)

-- "Take the longest S1 of the group that the word ends with": the rules with that S1
unfoldable pub chosen : List ℕ → List Rule → List Rule
chosen word rules = let n = longest (fitting word rules) in which (λ rule. eqb (length rule.ending) n) (fitting word rules)

-- "Of the rules with that S1, the first in sheet order whose condition holds is obeyed"; "If none of them holds, the group
-- changes nothing; no shorter S1 is tried."
unfoldable pub obeyed : List ℕ → List Rule → Option Rule
obeyed word rules = first (λ rule. holds rule.condition (before word rule.ending)) (chosen word rules)

-- "the result is the part before S1 followed by S2"; "'Single letter' drops the last letter of the part"
unfoldable pub act : Action → List ℕ → List ℕ
act (replace s2) part = part ++ s2
act single_letter part = take (length part - 1) part

-- ## Going through the groups

abbrev pub runs : Gate → Bool → Bool
runs always opened = true
runs if_opened opened = opened

-- a group as one who goes through it needs it: its gate, and which of its rules a word obeys
pub record Turn : Type 0 where
  pub gate : Gate
  pub obeys : List ℕ → Option Rule

-- a group that is read
abbrev pub read_turn : Group → Turn
read_turn group = record { gate = group.gate; obeys = λ word. obeyed word group.rules }

-- "the result is the part before S1 followed by S2"; where no rule is obeyed "the group changes nothing"
unfoldable pub result : List ℕ → Option Rule → List ℕ
result word none = word
result word (some rule) = act rule.action (before word rule.ending)

-- the rule that was obeyed opens the next group
unfoldable pub opens_next : Option Rule → Bool
opens_next none = false
opens_next (some rule) = rule.opens

-- what a group leaves: the rule that was obeyed, and the word
pub record Step : Type 0 where
  pub obeyed : Option Rule
  pub word : List ℕ

abbrev pub step_of : List ℕ → Option Rule → Step
step_of word obeyed = record { obeyed = obeyed; word = result word obeyed }

-- what each group leaves, in their order; a group that is not run obeys no rule. `opened` says whether "the group just before
-- was run and obeyed a rule that opens".
unfoldable pub steps : List Turn → Bool → List ℕ → List Step
steps [] opened word = []
steps (turn ∷ turns) opened word =
    let step = step_of word (cond (runs turn.gate opened) (turn.obeys word) none) in
    step ∷ steps turns (opens_next step.obeyed) step.word

-- what going through groups gives: the word they leave, or that "some group's result is longer than the word's place"
pub data Reading : Type 0 where
  done : List ℕ → Reading
  outgrown : Reading

-- that of a word and the steps from it, in a place of so many bytes
unfoldable pub reading : ℕ → List ℕ → List Step → Reading
reading place word [] = done word
reading place word (step ∷ later) = cond (leb (length step.word) place) (reading place step.word later) outgrown

-- that of a word and groups
abbrev pub through : ℕ → List Turn → Bool → List ℕ → Reading
through place turns opened word = reading place word (steps turns opened word)
