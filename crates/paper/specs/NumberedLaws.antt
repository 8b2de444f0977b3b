-- Laws of `number_of`, the number of the first that passes a test.
use Prim.Native.Nat.{ℕ, zero, suc, ◌+◌, ◌<◌, ◌≤◌}
use Rattle.std.specs.Prelude.{◌≡◌, Bool, true, false}
use Rattle.std.proofs.Math.Path.{refl, sym}
use Rattle.std.proofs.Common.{ap, ◌∙◌, add-zero}
use mathlib.Core.List.{List, [], ◌∷◌, ◌++◌}
use native.Mathlib.Omega.{arith}
use Rattle.std.proofs.Math.ListN.{length}
use Rattle.paper.specs.Numbered.{number_of}
use Rattle.paper.specs.TestLaws.{by_test}

module _ {A : Type 0} where
  pub number_cong : (f g : A → Bool) → ((one : A) → f one ≡ g one) → (k : ℕ) (list : List A) → number_of f k list ≡ number_of g k list
  unfolding number_of
  number_cong f g e k [] = refl
  number_cong f g e k (one ∷ more) = rw (e one, number_cong f g e (suc k) more)

  -- counted from k, a number is 0 or at least k
  pub number_least : (f : A → Bool) (k : ℕ) (list : List A) → (number_of f k list ≡ 0 → ⊥) → k ≤ number_of f k list
  unfolding number_of
  number_least f k [] e = absurd (e refl)
  number_least f k (one ∷ more) e =
      by_test (f one) (λ p. rw p (omega arith))
      (λ p. rw p (let l = number_least f (suc k) more (rw p at e) in omega arith))

  -- counted from 1 or more, the number is 0 only where nothing passes
  pub number_none : (f : A → Bool) (k : ℕ) (one : A) (more : List A) → 0 < k → number_of f k (one ∷ more) ≡ 0 → f one ≡ false
  unfolding number_of
  number_none f k one more h e =
      by_test (f one) (λ p. let z : k ≡ 0 = rw p at e in absurd (omega arith)) (λ p. p)

  -- ## One more at the end

  pub number_kept : (f : A → Bool) (k : ℕ) (list : List A) (last : A) → f last ≡ false
      → number_of f k (list ++ last ∷ []) ≡ number_of f k list
  unfolding number_of
  number_kept f k [] last e = rw e
  number_kept f k (one ∷ more) last e = rw (number_kept f (suc k) more last e)

  pub number_found : (f : A → Bool) (k : ℕ) (list : List A) (last : A) → (number_of f k list ≡ 0 → ⊥)
      → number_of f k (list ++ last ∷ []) ≡ number_of f k list
  unfolding number_of
  number_found f k [] last e = absurd (e refl)
  number_found f k (one ∷ more) last e =
      by_test (f one) (λ p. rw p) (λ p. rw p (number_found f (suc k) more last (rw p at e)))

  pub number_some : (f : A → Bool) (k : ℕ) (front : List A) (one : A) (back : List A) → f one ≡ true → 0 < k
      → number_of f k (front ++ one ∷ back) ≡ 0 → ⊥
  unfolding number_of
  number_some f k [] one back t h e = let z : k ≡ 0 = rw t at e in omega arith
  number_some f k (first ∷ front) one back t h e =
      let p = number_none f k first (front ++ one ∷ back) h e in
      number_some f (suc k) front one back t (omega arith) (rw p at e)

  -- ## Of all in a list

  abbrev pub Every : (A → Type 0) → List A → Type 0
  Every P [] = Unit {0}
  Every P (one ∷ more) = P one × Every P more

  pub every_false : (f : A → Bool) (k : ℕ) (list : List A) → 0 < k → number_of f k list ≡ 0 → Every (λ one. f one ≡ false) list
  unfolding number_of
  every_false f k [] h e = tt
  every_false f k (one ∷ more) h e =
      let p = number_none f k one more h e in
      (p, every_false f (suc k) more (omega arith) (rw p at e))

  pub every_map : (P Q : A → Type 0) → ((one : A) → P one → Q one) → (list : List A) → Every P list → Every Q list
  every_map P Q f [] e = tt
  every_map P Q f (one ∷ more) e = (f one e.0, every_map P Q f more e.1)

  pub every-both : (P Q R : A → Type 0) → ((one : A) → P one → Q one → R one) → (list : List A) → Every P list → Every Q list → Every R list
  every-both P Q R f [] p q = tt
  every-both P Q R f (one ∷ more) p q = (f one p.0 q.0, every-both P Q R f more p.1 q.1)

  pub every_append : (P : A → Type 0) (front back : List A) → Every P (front ++ back) → Every P front × Every P back
  every_append P [] back e = (tt, e)
  every_append P (one ∷ front) back e = let rest = every_append P front back e.1 in ((e.0, rest.0), rest.1)

  pub number_nowhere : (f : A → Bool) (k : ℕ) (list : List A) → Every (λ one. f one ≡ false) list → number_of f k list ≡ 0
  unfolding number_of
  number_nowhere f k [] e = refl
  number_nowhere f k (one ∷ more) e = rw e.0 (number_nowhere f (suc k) more e.1)

  -- the first that passes, behind others that do not
  pub number_at : (f : A → Bool) (k : ℕ) (front : List A) (one : A) (back : List A) → Every (λ other. f other ≡ false) front → f one ≡ true
      → number_of f k (front ++ one ∷ back) ≡ k + length front
  unfolding number_of
  number_at f k [] one back e t = rw (t, add-zero)
  number_at f k (first ∷ front) one back e t =
      let next : suc k + length front ≡ k + suc (length front) = omega arith in
      rw e.0 (number_at f (suc k) front one back e.1 t ∙ next)

  pub number_last : (f : A → Bool) (k : ℕ) (list : List A) (last : A) → Every (λ one. f one ≡ false) list → f last ≡ true
      → number_of f k (list ++ last ∷ []) ≡ k + length list
  number_last f k list last e t = number_at f k list last [] e t

  -- a list parted at the first that passes
  pub record Parted (f : A → Bool) (list : List A) (n : ℕ) : Type 0 where
    pub front : List A
    pub one : A
    pub back : List A
    pub list_is : list ≡ front ++ one ∷ back
    pub none_before : Every (λ other. f other ≡ false) front
    pub passes : f one ≡ true
    pub place_is : n ≡ length front

  parted_later : (f : A → Bool) (first : A) {more : List A} {n : ℕ} → f first ≡ false → Parted f more n → Parted f (first ∷ more) (suc n)
  parted_later f first e later =
      record {
        front = first ∷ later.front;
        one = later.one;
        back = later.back;
        list_is = ap (λ (l : List A). first ∷ l) later.list_is;
        none_before = (e, later.none_before);
        passes = later.passes;
        place_is = ap suc later.place_is;
      }

  pub number_parts : (f : A → Bool) (k : ℕ) (list : List A) (n : ℕ) → 0 < k → number_of f k list ≡ k + n → Parted f list n
  unfolding number_of
  number_parts f k [] n some is = absurd (omega (arith, is))
  number_parts f k (one ∷ more) zero some is =
      by_test (f one)
      (λ t. record { front = []; one = one; back = more; list_is = refl; none_before = tt; passes = t; place_is = refl })
      (λ e.
      let there : number_of f (suc k) more ≡ k + 0 = sym (rw e refl) ∙ is in
      absurd (omega (arith, there, number_least f (suc k) more (λ none. omega (arith, none, there)))))
  number_parts f k (one ∷ more) (suc n) some is =
      by_test (f one)
      (λ t. let here : k ≡ k + suc n = sym (rw t refl) ∙ is in absurd (omega (arith, here)))
      (λ e.
      let there : number_of f (suc k) more ≡ k + suc n = sym (rw e refl) ∙ is in
      parted_later f one e (number_parts f (suc k) more n (omega arith) (omega (arith, there))))

  -- counted from 1, a number is at most how many there are
  pub number_most : (f : A → Bool) (k : ℕ) (list : List A) → number_of f (suc k) list ≤ k + length list
  unfolding number_of
  number_most f k [] = omega arith
  number_most f k (one ∷ more) =
      let later = number_most f (suc k) more in
      by_test (f one) (λ p. rw p (omega arith)) (λ p. rw p (omega arith))

  pub every_last : (P : A → Type 0) (list : List A) (last : A) → Every P list → P last → Every P (list ++ last ∷ [])
  every_last P [] last e h = (h, tt)
  every_last P (one ∷ list) last e h = (e.0, every_last P list last e.1 h)
