-- What a look through the rules of a group finds of a tail: the first rule whose ending it is, and for each letter a place of the sheet
-- where an ending ends that has the letter before the tail.
use Rattle.std.specs.Prelude.{ℕ, ◌+◌, ◌-◌, ◌≤◌, ◌<◌, ◌≡◌, true, cond, List, [], ◌∷◌, eqb, length, take, drop, get_or}
use Rattle.paper.specs.Groups.{Rule, Group, ends_with}
use Rattle.paper.specs.Nodes.{tails_of, member}
use Rattle.paper.specs.Numbered.{first_with}
use Rattle.sheets.specs.SheetPlaces.{Holding}

-- from a place of the sheet on, behind so many rules, these rules stand up to the next group
pub record Reads (sheet : List ℕ) (at before : ℕ) (list : List Rule) : Type 0 where
  pub groups : ℕ
  pub more : List Group
  pub holds : Holding sheet at groups before list more

pub record SomeRules (sheet : List ℕ) (at before : ℕ) : Type 0 where
  pub list : List Rule
  pub reads : Reads sheet at before list

-- these letters stand in the sheet, and end at this place
pub record EndsAt (sheet : List ℕ) (end : ℕ) (letters : List ℕ) : Type 0 where
  pub long : length letters ≤ end
  pub inside : end ≤ length sheet
  pub letters_are : take (length letters) (drop (end - length letters) sheet) ≡ letters

-- an ending that ends at `end` is noted at the letter that it has before the tail, unless something is noted there already
abbrev pub Noted : List ℕ → ℕ → List ℕ → List ℕ → List ℕ → Type 0
Noted ending end tail old new = (k : ℕ) → k < length old
    → get_or new k 0 ≡ cond (ends_with ending ((97 + k) ∷ tail)) (cond (eqb (get_or old k 0) 0) end (get_or old k 0)) (get_or old k 0)

-- what is noted for these letters says whether they are a tail of an ending of the list, but for what the rules that are left say
pub record Says (sheet letters : List ℕ) (list left : List Rule) (end : ℕ) : Type 0 where
  pub known : cond (eqb end 0) (member letters (tails_of left)) true ≡ member letters (tails_of list)
  pub there : (end ≡ 0 → ⊥) → EndsAt sheet end letters

-- midway: these rules are left, from this place on
pub record Looking (sheet : List ℕ) (before : ℕ) (list : List Rule) (tail : List ℕ) (at number rule : ℕ) (ends : List ℕ) : Type 0 where
  pub left : List Rule
  pub reads : Reads sheet at number left
  pub decides : cond (eqb rule 0) (first_with (number + 1) left tail) rule ≡ first_with (before + 1) list tail
  pub says : (k : ℕ) → k < 26 → Says sheet ((97 + k) ∷ tail) list left (get_or ends k 0)

-- at the end
pub record Looked (sheet : List ℕ) (before : ℕ) (list : List Rule) (tail : List ℕ) (rule : ℕ) (ends : List ℕ) : Type 0 where
  pub rule_is : rule ≡ first_with (before + 1) list tail
  pub says : (k : ℕ) → k < 26 → Says sheet ((97 + k) ∷ tail) list [] (get_or ends k 0)
