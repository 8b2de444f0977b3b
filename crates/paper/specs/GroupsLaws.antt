-- Laws of endings.
use Rattle.std.specs.Prelude.{ℕ, suc, ◌+◌, ◌-◌, ◌≤◌, ◌<◌, ◌≡◌, refl, true, false, List, [], ◌∷◌, ◌++◌, eqb, leb, length, take, drop, get_or}
use Rattle.std.proofs.Math.Nat.{sub_self}
use Rattle.std.proofs.Common.{arith, ap, sym, ◌∙◌, length-take, length-drop, length-append, take-append-drop, ext_get_or, get_or-drop, eq-eqb, eqb-true, leb-true, leb-false}
use Rattle.std.proofs.lemmas.Bool.{false≢true}
use Rattle.std.proofs.Math.Seq.{drop-nil}
use Rattle.paper.specs.TestLaws.{by_test, and_parts, test_ext}
use Rattle.paper.specs.Groups.{same, ends_with, before}

-- ## Two lists of letters are the same

pub same_equal : (xs ys : List ℕ) → same xs ys ≡ true → xs ≡ ys
unfolding same
same_equal [] [] e = refl
same_equal [] (y ∷ ys) e = cc
same_equal (x ∷ xs) [] e = cc
same_equal (x ∷ xs) (y ∷ ys) e =
    let both = and_parts (eqb x y) (same xs ys) e in
    let head : x ≡ y = eqb-true x y both.0 in
    let tail : xs ≡ ys = same_equal xs ys both.1 in
    cc

pub same_itself : (xs : List ℕ) → same xs xs ≡ true
unfolding same
same_itself [] = refl
same_itself (x ∷ xs) = rw (eq-eqb x x refl, same_itself xs)

pub equal_same : {xs ys : List ℕ} → xs ≡ ys → same xs ys ≡ true
equal_same {xs} {ys} e = rw (← e) (same_itself xs)

pub differ_same : (xs ys : List ℕ) → (xs ≡ ys → ⊥) → same xs ys ≡ false
differ_same xs ys apart = by_test (same xs ys) (λ e. absurd (apart (same_equal xs ys e))) (λ e. e)

pub same_sym : (a b : List ℕ) → same a b ≡ same b a
same_sym a b = test_ext _ _ (λ e. equal_same (sym (same_equal a b e))) (λ e. equal_same (sym (same_equal b a e)))

pub same_long : (one other : List ℕ) → (length one ≡ length other → ⊥) → same one other ≡ false
same_long one other h = differ_same one other (λ e. h (ap length e))

-- ## A word and its ending

-- what a word ends with, it is the part before followed by
pub ends_split : (word s1 : List ℕ) → ends_with word s1 ≡ true → before word s1 ++ s1 ≡ word
unfolding ends_with before
ends_split word s1 e =
    ap (λ (s : List ℕ). take (length word - length s1) word ++ s) (sym (same_equal _ s1 e))
    ∙ take-append-drop (length word - length s1) word

pub ending_short : (word s1 : List ℕ) → ends_with word s1 ≡ true → length s1 ≤ length word
ending_short word s1 e =
    let whole : length (before word s1 ++ s1) ≡ length word = ap length (ends_split word s1 e) in
    omega (arith, whole, length-append (before word s1) s1)

pub before_length : (word s1 : List ℕ) → length (before word s1) ≡ length word - length s1
unfolding before
before_length word s1 = simp length-take (omega arith)

-- a word ends with S1 exactly where it is long enough and has the letters of S1 at its end
pub ends_short : (word s1 : List ℕ) → length word < length s1 → ends_with word s1 ≡ false
unfolding ends_with
ends_short word s1 short =
    differ_same _ s1
    (λ e. let whole : length (drop (length word - length s1) word)
    ≡ length s1 = ap length e in omega (arith, length-drop (length word - length s1) word))

pub ends_yes :
    (word s1 : List ℕ)
    → length s1 ≤ length word
    → ((k : ℕ) → k < length s1 → get_or word (length word - length s1 + k) 0 ≡ get_or s1 k 0)
    → ends_with word s1 ≡ true
unfolding ends_with
ends_yes word s1 long all =
    let n : length (drop (length word - length s1) word) ≡ length s1 = simp length-drop (omega arith) in
    equal_same (ext_get_or 0 _ s1 n (λ k h. get_or-drop (length word - length s1) word k 0 ∙ all k (rw n at h)))

pub ends_no :
    (word s1 : List ℕ) (k : ℕ)
    → (get_or word (length word - length s1 + k) 0 ≡ get_or s1 k 0 → ⊥)
    → ends_with word s1 ≡ false
unfolding ends_with
ends_no word s1 k other =
    differ_same _ s1 (λ e. other (sym (get_or-drop (length word - length s1) word k 0) ∙ ap (λ (l : List ℕ). get_or l k 0) e))

-- ## A word and what stands behind its first letter

pub ends_itself : (word : List ℕ) → ends_with word word ≡ true
unfolding ends_with
ends_itself word = rw sub_self (same_itself word)

-- an ending as long as the word is the word
pub ends_whole : (word s1 : List ℕ) → ends_with word s1 ≡ true → length s1 ≡ length word → s1 ≡ word
unfolding ends_with
ends_whole word s1 e long = sym (same_equal word s1 (rw (long, sub_self) at e))

pub ends_empty : (s1 : List ℕ) → ends_with [] s1 ≡ same s1 []
unfolding ends_with
ends_empty s1 = rw (drop-nil, same_sym [] s1)

ends_within : (letter : ℕ) (rest s1 : List ℕ) → length s1 ≤ length rest → ends_with (letter ∷ rest) s1 ≡ ends_with rest s1
unfolding ends_with
ends_within letter rest s1 short =
    let passed : suc (length rest) - length s1 ≡ suc (length rest - length s1) = omega arith in
    rw passed

-- what is not the whole word ends it exactly if it ends the rest
pub ends_rest : (letter : ℕ) (rest s1 : List ℕ) → same s1 (letter ∷ rest) ≡ false → ends_with (letter ∷ rest) s1 ≡ ends_with rest s1
ends_rest letter rest s1 other =
    by_test (leb (length s1) (length rest)) (λ p. ends_within letter rest s1 (leb-true (length s1) (length rest) p))
    (λ p.
    let long = leb-false (length s1) (length rest) p in
    by_test (ends_with (letter ∷ rest) s1)
    (λ q.
    let whole = ends_whole (letter ∷ rest) s1 q (omega (arith, ending_short (letter ∷ rest) s1 q)) in
    absurd (false≢true (sym other ∙ equal_same whole)))
    (λ q. q ∙ sym (ends_short rest s1 (omega arith))))
