-- A text of lines, whatever its lines are: each line is printed, and a line feed stands behind it. Nothing here reads a text.
use Rattle.std.specs.Prelude.{ℕ, suc, ◌<◌, ◌≡◌, Bool, true, false, ◌&&◌, List, [], ◌∷◌, ◌++◌, length}

-- "a line feed ends every line"
unfoldable pub text_of : {A : Type 0} → (A → List ℕ) → List A → List ℕ
text_of print [] = []
text_of print (line ∷ lines) = print line ++ (10 ∷ text_of print lines)

-- each of the lines is taken, after those before it
unfoldable pub all_taken : {A : Type 0} → (List A → A → Bool) → List A → List A → Bool
all_taken taken before [] = true
all_taken taken before (line ∷ lines) = taken before line && all_taken taken (before ++ (line ∷ [])) lines

-- the text begins with these lines, each of them is taken, and no line with which the rest of the text begins is
pub record TakenTo {A : Type 0} (print : A → List ℕ) (taken : List A → A → Bool) (text : List ℕ) (lines : List A)
    (rest : List ℕ) : Type 0 where
  pub text_is : text ≡ text_of print lines ++ rest
  pub all_taken_lem : all_taken taken [] lines ≡ true
  pub stops : (line : A) (more : List ℕ) → rest ≡ print line ++ (10 ∷ more) → taken lines line ≡ false

-- the text is these lines, and each of them is taken
abbrev pub Whole : {A : Type 0} → (A → List ℕ) → (List A → A → Bool) → List ℕ → List A → Type 0
Whole print taken text lines = TakenTo print taken text lines []

-- the first line at fault has this number, from 1: the lines before it are taken, and the text goes on with no line that is
pub record FirstFault {A : Type 0} (print : A → List ℕ) (taken : List A → A → Bool) (text : List ℕ) (number : ℕ) : Type 0 where
  pub before : List A
  pub rest : List ℕ
  pub to_it : TakenTo print taken text before rest
  pub some_line : 0 < length rest
  pub number_is : number ≡ suc (length before)
