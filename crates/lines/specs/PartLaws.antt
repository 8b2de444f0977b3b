-- The parts of a line: each is found where it is printed, and what is found is printed there.
use Prim.Native.Nat.{ℕ, zero, suc, ◌+◌, ◌-◌, ◌≤◌, ◌<◌}
use Rattle.std.specs.Prelude.{◌≡◌, refl, true, false, ◌&&◌, List, [], ◌∷◌, ◌++◌, eqb, ◌==◌, ltb, length, take, drop, Option, Some, None}
use Rattle.std.proofs.Common.{sym, ap, subst, ◌∙◌, true≢false, append_assoc, arith, take-append-drop, length-take, drop-drop}
use Rattle.std.proofs.Math.Bool.{and-false}
use Rattle.std.proofs.Math.ListN.{length-append, length-drop}
use borrow.Author.Tests.{eqb-true, eq-eqb, ne_eqb, lt-ltb, ltb-true}
use Rattle.std.specs.List.{list_all, zip}
use Rattle.paper.specs.Letters.{letters}
use Rattle.paper.specs.Groups.{gate_of}
use Rattle.paper.specs.TestLaws.{by_test, and_parts}
use Rattle.paper.specs.Words.{small, all_small, first_other}
use Rattle.paper.specs.WordsLaws.{small_apart, first_small, first_inside, first_behind}
use Rattle.lines.specs.Lines.{group, spellings, part, print}
use Rattle.lines.specs.Reading.{starts_with, spelled, spelled_in, head_in, letters_in, part_in, close_in}
use Rattle.lines.specs.declared.parts.Head.{Head}
use Rattle.lines.specs.declared.parts.Head.TheVariants.{Group as GroupHead, Condition}
use Rattle.lines.specs.declared.parts.Letters.{Letters}
use Rattle.lines.specs.declared.parts.Close.{Close}
use Rattle.lines.specs.declared.parts.Close.TheVariants.{Plain, Opens}

-- ## What the bytes begin with
-- the bytes begin with these, which are so many
pub record Begins (front rest : List ℕ) (size : ℕ) : Type 0 where
  pub size_is : size ≡ length front
  pub rest_is : rest ≡ front ++ drop size rest

module _ {front rest : List ℕ} {size : ℕ} (begins : Begins front rest size) where
  pub inside : size ≤ length rest
  inside = omega (arith, begins.size_is, ap length begins.rest_is, length-append front (drop size rest))

  pub then : {more : List ℕ} {further : ℕ} → Begins more (drop size rest) further → Begins (front ++ more) rest (size + further)
  then {more} {further} later =
      record {
        size_is = omega (arith, begins.size_is, later.size_is, length-append front more);
        rest_is =
            begins.rest_is
            ∙ (ap (λ (l : List ℕ). front ++ l) later.rest_is
            ∙ (rw (drop-drop further size rest) (sym (append_assoc front more (drop (size + further) rest)))));
      }

pub starts-append : (front rest : List ℕ) → starts_with front (front ++ rest) ≡ true
unfolding starts_with
starts-append [] rest = refl
starts-append (x ∷ front) rest = rw (eq-eqb x x refl, starts-append front rest)

pub starts_front : (front rest : List ℕ) → starts_with front rest ≡ true → Begins front rest (length front)
unfolding starts_with
starts_front [] rest is = record { size_is = refl; rest_is = refl }
starts_front (x ∷ front) [] is = absurd (true≢false (sym is))
starts_front (x ∷ front) (y ∷ rest) is =
    let both = and_parts (eqb x y) (starts_with front rest) is in
    record {
      size_is = refl;
      rest_is = rw (eqb-true x y both.0) (ap (λ (l : List ℕ). y ∷ l) (starts_front front rest both.1).rest_is);
    }

-- what the bytes begin with at a place stands inside them
pub front_inside : (front rest : List ℕ) (at : ℕ) → at ≤ length rest → starts_with front (drop at rest) ≡ true
    → at + length front ≤ length rest
front_inside front rest at low is = omega (arith, inside (starts_front front (drop at rest) is), length-drop at rest)

-- as the code asks it, pair by pair
pub starts_short : (front rest : List ℕ) → length rest < length front → starts_with front rest ≡ false
unfolding starts_with
starts_short [] rest short = absurd (omega arith)
starts_short (x ∷ front) [] short = refl
starts_short (x ∷ front) (y ∷ rest) short = rw (starts_short front rest (omega arith)) (and-false (eqb x y))

pub starts_paired : (front rest : List ℕ) → length front ≤ length rest
    → list_all (λ (p : ℕ × ℕ). p.0 == p.1) (zip front (take (length front) rest)) ≡ starts_with front rest
unfolding starts_with
starts_paired [] rest long = refl
starts_paired (x ∷ front) [] long = absurd (omega arith)
starts_paired (x ∷ front) (y ∷ rest) long = rw (starts_paired front rest (omega arith))

other_apart : (x y : ℕ) → small x ≡ false → small y ≡ true → eqb x y ≡ false
other_apart x y other one = ne_eqb x y (λ same. true≢false (sym one ∙ (rw (← same) other)))

-- letters with another byte behind them, where the bytes are other letters, or another byte or other bytes stand behind them
pub starts_otherwise : (front : List ℕ) (s : ℕ) (more word : List ℕ) (t : ℕ) (rest : List ℕ)
    → all_small front ≡ true → small s ≡ false → all_small word ≡ true → small t ≡ false
    → (eqb s t && starts_with more rest) ≡ false
    → starts_with (front ++ (s ∷ more)) (word ++ (t ∷ rest)) ≡ false
unfolding starts_with all_small
starts_otherwise [] s more [] t rest a b c d otherwise = otherwise
starts_otherwise [] s more (y ∷ word) t rest a b c d otherwise = rw (other_apart s y b (and_parts (small y) (all_small word) c).0)
starts_otherwise (x ∷ front) s more [] t rest a b c d otherwise = rw (small_apart x t (and_parts (small x) (all_small front) a).0 d)
starts_otherwise (x ∷ front) s more (y ∷ word) t rest a b c d otherwise =
    rw (starts_otherwise front s more word t rest (and_parts (small x) (all_small front) a).1 b
    (and_parts (small y) (all_small word) c).1 d otherwise) (and-false (eqb x y))

-- ## Conditions
-- the number below
below : (n : ℕ) → suc n - 1 ≡ n
below n = omega arith

module _ (rest : List ℕ) where
  pub spelled_here : (n : ℕ) → 0 < n → starts_with (spelled (n - 1)) rest ≡ true
      → spelled_in n rest ≡ Some (Condition (n - 1) (length (spelled (n - 1))))
  unfolding spelled_in
  spelled_here zero some is = absurd (omega arith)
  spelled_here (suc n) some is = rw (below n, rw below at is)

  pub spelled_later : (n : ℕ) → 0 < n → starts_with (spelled (n - 1)) rest ≡ false → spelled_in n rest ≡ spelled_in (n - 1) rest
  unfolding spelled_in
  spelled_later zero some is = absurd (omega arith)
  spelled_later (suc n) some is = rw (below n, rw below at is)

-- what a head tells of the bytes
pub record ConditionHere (rest : List ℕ) (number taken : ℕ) : Type 0 where
  pub spells : Begins (spelled number) rest taken
  pub one_of_nine : number < length spellings

pub record GroupHere (rest : List ℕ) (gate taken : ℕ) : Type 0 where
  pub line : Begins (print (group (gate_of gate)) ++ (10 ∷ [])) rest taken
  pub gate_low : gate ≤ 1

abbrev pub HeadHere : List ℕ → Option Head → Type 0
HeadHere rest (Some (GroupHead gate taken)) = GroupHere rest gate taken
HeadHere rest (Some (Condition number taken)) = ConditionHere rest number taken
HeadHere rest None = Unit

spelled-found : (number : ℕ) (rest : List ℕ) → number ≤ 9 → HeadHere rest (spelled_in number rest)
unfolding spelled_in spellings
spelled-found zero rest low = tt
spelled-found (suc number) rest low =
    by_test (starts_with (spelled number) rest)
    (λ is. rw is (record { spells = starts_front (spelled number) rest is; one_of_nine = low }))
    (λ is-not. rw is-not (spelled-found number rest (omega arith)))

head_here : (rest : List ℕ) → HeadHere rest (head_in rest)
unfolding head_in print letters
head_here rest =
    by_test (starts_with (letters "group" ++ (10 ∷ [])) rest)
    (λ is. rw is (record { line = starts_front (letters "group" ++ (10 ∷ [])) rest is; gate_low = omega arith }))
    (λ is-not.
    by_test (starts_with (letters "group opened" ++ (10 ∷ [])) rest)
    (λ is. rw (is-not, is) (record { line = starts_front (letters "group opened" ++ (10 ∷ [])) rest is; gate_low = omega arith }))
    (λ neither. rw (is-not, neither) (spelled-found 9 rest (omega arith))))

pub head-found : (rest : List ℕ) (head : Option Head) → head_in rest ≡ head → HeadHere rest head
head-found rest head is = subst (HeadHere rest) is (head_here rest)

-- ## Letters
pub record LettersHere (rest : List ℕ) (count taken : ℕ) : Type 0 where
  pub letters_there : Begins (part (take count rest)) rest taken
  pub small_there : all_small (take count rest) ≡ true
  pub at_most : count ≤ taken

abbrev pub PartHere : List ℕ → Option Letters → Type 0
PartHere rest (Some one) = LettersHere rest one.count one.taken
PartHere rest None = Unit

part_some : (letters : List ℕ) → 0 < length letters → part letters ≡ letters
unfolding part
part_some [] some = absurd (omega arith)
part_some (x ∷ letters) some = refl

part_here : (rest : List ℕ) → PartHere rest (part_in rest)
unfolding part_in letters part all_small
part_here rest =
    let count = first_other rest in
    by_test (ltb 0 count)
    (λ is.
    let some = ltb-true 0 count is in
    let long : length (take count rest) ≡ count = omega (arith, length-take count rest, first_inside rest) in
    let same = part_some (take count rest) (omega arith) in
    rw is
    (record {
      letters_there = rw same (record { size_is = sym long; rest_is = sym (take-append-drop count rest) });
      small_there = first_small rest;
      at_most = omega arith;
    }))
    (λ is-not.
    by_test (starts_with (45 ∷ []) rest)
    (λ is. rw (is-not, is) (record { letters_there = starts_front (45 ∷ []) rest is; small_there = refl; at_most = omega arith }))
    (λ neither. rw (is-not, neither) tt))

pub part-found : (rest : List ℕ) (found : Option Letters) → part_in rest ≡ found → PartHere rest found
part-found rest found is = subst (PartHere rest) is (part_here rest)

-- letters found at a place stand inside the bytes
pub part_inside : (rest : List ℕ) (at : ℕ) {one : Letters} → at ≤ length rest → part_in (drop at rest) ≡ Some one
    → (one.count ≤ one.taken) × (at + one.taken ≤ length rest)
part_inside rest at {one} low is =
    let here : LettersHere (drop at rest) one.count one.taken = part-found (drop at rest) (Some one) is in
    (here.at_most, omega (arith, inside here.letters_there, length-drop at rest))

pub part_read : (word : List ℕ) (other : ℕ) (more : List ℕ) → all_small word ≡ true → small other ≡ false
    → part_in (part word ++ (other ∷ more)) ≡ Some (letters_in (length word) (length (part word)))
unfolding part_in part letters starts_with first_other
part_read [] other more all outside = refl
part_read (x ∷ word) other more all outside =
    rw (first_behind (x ∷ word) other more all outside, lt-ltb 0 (suc (length word)) (omega arith)) refl

-- ## The close
abbrev pub CloseHere : List ℕ → Option Close → Type 0
CloseHere rest (Some Plain) = Begins (10 ∷ []) rest 1
CloseHere rest (Some Opens) = Begins (letters " opens" ++ (10 ∷ [])) rest 7
CloseHere rest None = Unit

close_here : (rest : List ℕ) → CloseHere rest (close_in rest)
unfolding close_in letters
close_here rest =
    by_test (starts_with (10 ∷ []) rest) (λ is. rw is (starts_front (10 ∷ []) rest is))
    (λ is-not.
    by_test (starts_with (letters " opens" ++ (10 ∷ [])) rest)
    (λ is. rw (is-not, is) (starts_front (letters " opens" ++ (10 ∷ [])) rest is)) (λ neither. rw (is-not, neither) tt))

pub close-found : (rest : List ℕ) (found : Option Close) → close_in rest ≡ found → CloseHere rest found
close-found rest found is = subst (CloseHere rest) is (close_here rest)
