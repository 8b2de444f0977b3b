-- Document 02, W-202: the lines of a sheet written as in the paper, as data, and the text of each by printing it. Nothing here reads.
use Rattle.std.specs.Prelude.{ℕ, Bool, true, cond, ◌&&◌, List, [], ◌∷◌, ◌++◌, map, ltb, length, get_or}
use Prim.Native.String.{String}
use Rattle.paper.specs.Letters.{letters}
use Rattle.paper.specs.Groups.{Rule, Action, replace, single_letter, written, Gate, always, if_opened}
use Rattle.paper.specs.Words.{all_small}

-- "a line `group` (gate 0) or `group opened` (gate 1), and rule lines"
pub data Line : Type 0 where
  group : Gate → Line
  rule : Rule → Line

-- "one of the nine conditions spelled as 01's table prints it without its ticks", by its number
unfoldable pub spellings : List String
spellings =
    "none"
    ∷ "m>0"
    ∷ "m>1"
    ∷ "*v*"
    ∷ "m>1 and (*S or *T)"
    ∷ "*d and not (*L or *S or *Z)"
    ∷ "m=1 and *o"
    ∷ "m=1 and not *o"
    ∷ "m>1 and *d and *L"
    ∷ []

unfoldable pub spelling : ℕ → List ℕ
spelling number = get_or (map letters spellings) number []

-- "Endings and replacements are small letters, or `-` where empty."
unfoldable pub part : List ℕ → List ℕ
part [] = letters "-"
part (letter ∷ more) = letter ∷ more

-- "the replacement or `single letter`"
unfoldable pub action : Action → List ℕ
action (replace s2) = part s2
action single_letter = letters "single letter"

-- "the ending, `->`, the replacement or `single letter`, and optionally `opens`"; "One space stands between parts"
unfoldable pub print : Line → List ℕ
print (group always) = letters "group"
print (group if_opened) = letters "group opened"
print (rule one) =
    spelling one.condition
    ++ (letters " "
    ++ (part one.ending
    ++ (letters " -> " ++ (action one.action ++ cond one.opens (letters " opens") []))))

-- a line of this form has one of the nine conditions, and small letters
unfoldable pub form : Line → Bool
form (group gate) = true
form (rule one) =
    ltb one.condition (length spellings) && all_small one.ending && all_small (written one.action)
