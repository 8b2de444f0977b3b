-- Laws of storing rows.
use Rattle.std.specs.Prelude.{ℕ, suc, ◌+◌, ◌*◌, ◌≤◌, ◌<◌, ◌≡◌, refl, Bool, true, false, cond, List, [], ◌∷◌, ◌++◌, eqb, length, drop, get_or, set}
use Rattle.std.proofs.Common.{sym, ap, ◌∙◌, append_assoc, arith, length-set, drop_of_length-le, drop-cons}
use Rattle.std.proofs.Math.Numerals.{add-one}
use borrow.Author.Tests.{eq-eqb, ne_eqb}
use Rattle.paper.specs.TestLaws.{by_test}
use Rattle.translations.specs.Storing.{put_row, how_many, put_each}

-- ## One row

pub row_stores : (row a b c d : ℕ) (t₀ t₁ t₂ t₃ : List ℕ) (t₄ : List ℕ) → t₁ ≡ set t₀ (4 * row) a → t₂ ≡ set t₁ (4 * row + 1) b
    → t₃ ≡ set t₂ (4 * row + 2) c → t₄ ≡ set t₃ (4 * row + 3) d → t₄ ≡ put_row row a b c d t₀
unfolding put_row
row_stores row a b c d t₀ t₁ t₂ t₃ t₄ e f g h = rw (h, g, f, e)

pub row_length : (row a b c d : ℕ) (table : List ℕ) → length (put_row row a b c d table) ≡ length table
unfolding put_row
row_length row a b c d table = simp length-set

put_four : (front : List ℕ) (a b c d w x y z : ℕ) (rest : List ℕ)
    → set (set (set (set (front ++ w ∷ x ∷ y ∷ z ∷ rest) (length front) a) (length front + 1) b) (length front + 2) c) (length front + 3) d
    ≡ front ++ a ∷ b ∷ c ∷ d ∷ rest
put_four [] a b c d w x y z rest = refl
put_four (one ∷ front) a b c d w x y z rest =
    let n = length front in
    let one_on : suc n + 1 ≡ suc (n + 1) = omega arith in
    let two-on : suc n + 2 ≡ suc (n + 2) = omega arith in
    let three-on : suc n + 3 ≡ suc (n + 3) = omega arith in
    rw (one_on, two-on, three-on) (ap (λ (list : List ℕ). one ∷ list) (put_four front a b c d w x y z rest))

-- a row that is stored takes the place of the four numbers that stood there
pub row_put : (front : List ℕ) (row a b c d w x y z : ℕ) (rest : List ℕ) → length front ≡ 4 * row
    → put_row row a b c d (front ++ w ∷ x ∷ y ∷ z ∷ rest) ≡ front ++ a ∷ b ∷ c ∷ d ∷ rest
unfolding put_row
row_put front row a b c d w x y z rest long = rw long at (put_four front a b c d w x y z rest)

-- four numbers that stand first in a list
pub record Four (list : List ℕ) : Type 0 where
  pub first : ℕ
  pub second : ℕ
  pub third : ℕ
  pub fourth : ℕ
  pub rest : List ℕ
  pub parts : list ≡ first ∷ second ∷ third ∷ fourth ∷ rest
  pub long : length list ≡ 4 + length rest

pub four : (list : List ℕ) → 4 ≤ length list → Four list
four [] h = absurd (omega arith)
four (a ∷ []) h = absurd (omega arith)
four (a ∷ b ∷ []) h = absurd (omega arith)
four (a ∷ b ∷ c ∷ []) h = absurd (omega arith)
four (a ∷ b ∷ c ∷ d ∷ rest) h = record { first = a; second = b; third = c; fourth = d; rest = rest; parts = refl; long = omega arith }

-- a row that is stored behind the front
pub row_behind : (front spare : List ℕ) (row a b c d : ℕ) → length front ≡ 4 * row → (behind : Four spare)
    → put_row row a b c d (front ++ spare) ≡ (front ++ a ∷ b ∷ c ∷ d ∷ []) ++ behind.rest
row_behind front spare row a b c d long behind =
    rw behind.parts
    (row_put front row a b c d behind.first behind.second behind.third behind.fourth behind.rest long
    ∙ sym (append_assoc front (a ∷ b ∷ c ∷ d ∷ []) behind.rest))

-- ## A row for each end

pub none_or : (test : Bool) (number : ℕ) → cond test 0 number ≤ number
none_or true number = omega arith
none_or false number = omega arith

pub at_most_each : (ends : List ℕ) → how_many ends ≤ length ends
unfolding how_many
at_most_each [] = omega arith
at_most_each (end ∷ ends) =
    let rest = at_most_each ends in
    by_test (eqb end 0) (λ e. rw e (omega arith)) (λ e. rw e (omega arith))

module _ (depth from before : ℕ) (ends : List ℕ) (k : ℕ) (inside : k < length ends) where
  pub each_skip : (at : ℕ) (table : List ℕ) → get_or ends k 0 ≡ 0
      → (put_each depth from before (drop k ends) at table ≡ put_each depth from before (drop (k + 1) ends) at table)
      × (how_many (drop k ends) ≡ how_many (drop (k + 1) ends))
  unfolding put_each how_many
  each_skip at table none =
      let test = eq-eqb (get_or ends k 0) 0 none in
      (rw (drop-cons ends k 0 inside, add-one k, test), rw (drop-cons ends k 0 inside, add-one k, test))

  pub each_put : (at : ℕ) (table : List ℕ) → (get_or ends k 0 ≡ 0 → ⊥)
      → (put_each depth from before (drop k ends) at table
      ≡ put_each depth from before (drop (k + 1) ends) (at + 1) (put_row at depth from (get_or ends k 0) before table))
      × (how_many (drop k ends) ≡ suc (how_many (drop (k + 1) ends)))
  unfolding put_each how_many
  each_put at table one =
      let test = ne_eqb (get_or ends k 0) 0 one in
      (rw (drop-cons ends k 0 inside, add-one k, test), rw (drop-cons ends k 0 inside, add-one k, test))

pub each_over : (depth from before : ℕ) (ends : List ℕ) (k : ℕ) → length ends ≤ k → (at : ℕ) (table : List ℕ)
    → (put_each depth from before (drop k ends) at table ≡ table) × (how_many (drop k ends) ≡ 0)
unfolding put_each how_many
each_over depth from before ends k over at table =
    (rw (drop_of_length-le ends over), rw (drop_of_length-le ends over))
