-- What the program writes.
use Rattle.std.specs.Prelude.{ℕ, ◌==◌, cond, List, [], ◌∷◌, ◌++◌, codes}
use Rattle.texts.specs.Texts.{Outcome}

-- the line of a text that is refused
abbrev pub refusal : List ℕ
refusal = codes "refused 5" ++ 10 ∷ []

-- of a text, by what the text run gives: the text after the run, or the refusal
abbrev pub written : Outcome → List ℕ
written outcome = cond (outcome.number == 5) refusal outcome.text
