-- Laws of how a group is read, over any rule list: which ending is chosen, and which rule is obeyed.
use Rattle.std.specs.Prelude.{ℕ, ◌-◌, ◌≤◌, ◌≡◌, refl, Bool, true, false, ◌&&◌, eqb, length, take}
use Rattle.std.proofs.Common.{arith, ap, sym, subst, ◌∙◌, ⊎_elim, eqb-true, eq-eqb, ne_eqb}
use Rattle.std.proofs.Math.Bool.{and-false}
use mathlib.Core.List.{List, [], ◌∷◌, ◌++◌}
use mathlib.Core.List.{Memᴰ}
use Rattle.std.proofs.Math.Option.{some}
use Rattle.paper.specs.Conditions.{holds}
use Rattle.paper.specs.TestLaws.{by_test, and_parts}
use Rattle.paper.specs.Groups.{Rule, ends_with, before, which, first, fitting, longest, chosen, obeyed}

-- ## The rules that pass a test, and the first of them

-- every element of a list, as every rule, passes the test
unfoldable pub every : {A : Type 0} → (A → Bool) → List A → Bool
every test [] = true
every test (one ∷ others) = test one && every test others

pub every_in :
    {A : Type 0} (test : A → Bool) (list : List A) {one : A} → every test list ≡ true → Memᴰ one list → test one ≡ true
unfolding every
every_in test [] all m = absurd (mathlib.Core.List.Memᴰ.not-nil m)
every_in test (first ∷ others) all m =
    let both = and_parts (test first) (every test others) all in
    ⊎_elim (λ same. ap test same ∙ both.0) (λ later. every_in test others both.1 later) (mathlib.Core.List.Memᴰ.cases_cons m)

-- no rule of the list passes the test
pub data NonePass (test : Rule → Bool) : List Rule → Type 0 where
  none_left : NonePass test []
  one_more : {rule : Rule} {rules : List Rule} → test rule ≡ false → NonePass test rules → NonePass test (rule ∷ rules)

pub which_in :
    (test : Rule → Bool) (rules : List Rule) {rule : Rule}
    → Memᴰ rule (which test rules)
    → Memᴰ rule rules × (test rule ≡ true)
unfolding which
which_in test [] m = absurd (mathlib.Core.List.Memᴰ.not-nil m)
which_in test (one ∷ rules) {rule} m =
    let on : Memᴰ rule (which test rules) → Memᴰ rule (one ∷ rules) × (test rule ≡ true)
    = λ later. let rest = which_in test rules later in (mathlib.Core.List.Memᴰ.tail rest.0, rest.1) in
    by_test (test one)
    (λ p.
    let here : Memᴰ rule (one ∷ which test rules) = rw p at m in
    ⊎_elim (λ same. (mathlib.Core.List.Memᴰ.head same, ap test same ∙ p)) on (mathlib.Core.List.Memᴰ.cases_cons here))
    (λ p. on (rw p at m))

pub in_which :
    (test : Rule → Bool) (rules : List Rule) {rule : Rule}
    → Memᴰ rule rules
    → test rule ≡ true
    → Memᴰ rule (which test rules)
unfolding which
in_which test [] m e = absurd (mathlib.Core.List.Memᴰ.not-nil m)
in_which test (one ∷ rules) {rule} m e =
    ⊎_elim (λ same. let here : test one ≡ true = sym (ap test same) ∙ e in rw here (mathlib.Core.List.Memᴰ.head same))
    (λ later.
    let rest = in_which test rules later e in
    by_test (test one) (λ p. rw p (mathlib.Core.List.Memᴰ.tail rest)) (λ p. rw p rest))
    (mathlib.Core.List.Memᴰ.cases_cons m)

-- tests that agree pass the same rules
pub which_cong : (f g : Rule → Bool) → ((rule : Rule) → f rule ≡ g rule) → (rules : List Rule) → which f rules ≡ which g rules
unfolding which
which_cong f g e [] = refl
which_cong f g e (rule ∷ rules) = rw (e rule, which_cong f g e rules)

-- those that pass another test, in one test, and the first of them
pub which-which :
    (test other : Rule → Bool) (rules : List Rule) → which test (which other rules) ≡ which (λ rule. other rule && test rule) rules
unfolding which
which-which test other [] = refl
which-which test other (rule ∷ rules) =
    by_test (other rule) (λ p. rw (p, which, which-which test other rules)) (λ p. rw (p, which-which test other rules))

first_which :
    (test other : Rule → Bool) (rules : List Rule) → first test (which other rules) ≡ first (λ rule. other rule && test rule) rules
unfolding first which
first_which test other [] = refl
first_which test other (rule ∷ rules) =
    by_test (other rule) (λ p. rw (p, first, first_which test other rules)) (λ p. rw (p, first_which test other rules))

-- of the rules that pass, `first` gives the one that stands first
pub first_split :
    (test : Rule → Bool) (rules : List Rule) (rule : Rule)
    → first test rules ≡ some rule
    → (earlier : List Rule)
    × (later : List Rule)
    × (rules ≡ earlier ++ rule ∷ later)
    × NonePass test earlier
    × (test rule ≡ true)
unfolding first
first_split test [] rule e = let clash : ◌≡◌ {A = ℕ} 0 1 = cc in absurd (omega arith)
first_split test (one ∷ rules) rule e =
    by_test (test one)
    (λ p.
    let here : some one ≡ some rule = rw p at e in
    let same : one ≡ rule = cc in
    ([], rules, ap (λ (r : Rule). r ∷ rules) same, none_left, rw same at p))
    (λ p.
    let found = first_split test rules rule (rw p at e) in
    (one ∷ found.0, found.1, ap (λ (rs : List Rule). one ∷ rs) found.2, one_more p found.3, found.4))

-- ## The ending chosen is the longest

pub longest_of : (rules : List Rule) {rule : Rule} → Memᴰ rule rules → length rule.ending ≤ longest rules
unfolding longest
longest_of [] m = absurd (mathlib.Core.List.Memᴰ.not-nil m)
longest_of (one ∷ rules) {rule} m =
    ⊎_elim (λ same. let n : length rule.ending ≡ length one.ending = ap (λ (r : Rule). length r.ending) same in omega arith)
    (λ later. let n = longest_of rules later in omega arith) (mathlib.Core.List.Memᴰ.cases_cons m)

pub longest_at_most :
    (rules : List Rule) (n : ℕ) → ((rule : Rule) → Memᴰ rule rules → length rule.ending ≤ n) → longest rules ≤ n
unfolding longest
longest_at_most [] n all = omega arith
longest_at_most (rule ∷ rules) n all =
    let here = all rule (mathlib.Core.List.Memᴰ.head refl) in
    let rest = longest_at_most rules n (λ later m. all later (mathlib.Core.List.Memᴰ.tail m)) in
    omega arith

-- a rule that is chosen stands in the group, ends the word, and no ending of the group that ends the word is longer
pub record Chosen (word : List ℕ) (rules : List Rule) (rule : Rule) : Type 0 where
  pub stands : Memᴰ rule rules
  pub ends : ends_with word rule.ending ≡ true
  pub most : (other : Rule) → Memᴰ other rules → ends_with word other.ending ≡ true → length other.ending ≤ length rule.ending

pub chosen-longest : (word : List ℕ) (rules : List Rule) {rule : Rule} → Memᴰ rule (chosen word rules) → Chosen word rules rule
unfolding chosen fitting
chosen-longest word rules {rule} m =
    let picked = which_in (λ r. eqb (length r.ending) (longest (fitting word rules))) (fitting word rules) m in
    let fits = which_in (λ r. ends_with word r.ending) rules picked.0 in
    let most-is : length rule.ending ≡ longest (fitting word rules) = eqb-true _ _ picked.1 in
    record {
      stands = fits.0;
      ends = fits.1;
      most = λ other stands ends. let n = longest_of (fitting word rules) (in_which (λ r. ends_with word
          r.ending) rules stands ends) in omega arith;
    }

-- ## Of the rules with that ending, the first that holds is obeyed

-- the rule's condition, on the part before its ending
abbrev pub applies : List ℕ → Rule → Bool
applies word rule = holds rule.condition (before word rule.ending)

pub record Obeyed (word : List ℕ) (rules : List Rule) (rule : Rule) : Type 0 where
  pub chosen_one : Chosen word rules rule
  pub earlier : List Rule
  pub later : List Rule
  pub order : chosen word rules ≡ earlier ++ rule ∷ later
  pub none_earlier : NonePass (applies word) earlier
  pub its_own : applies word rule ≡ true

pub obeyed_first : (word : List ℕ) (rules : List Rule) (rule : Rule) → obeyed word rules ≡ some rule → Obeyed word rules rule
unfolding obeyed
obeyed_first word rules rule e =
    let split = first_split (applies word) (chosen word rules) rule e in
    let in-chosen : Memᴰ rule (chosen word rules) = subst (λ (rs : List Rule). Memᴰ rule rs) (sym split.2)
    (mathlib.Core.List.Memᴰ.append_right split.0 (mathlib.Core.List.Memᴰ.head refl)) in
    record {
      chosen_one = chosen-longest word rules in-chosen;
      earlier = split.0;
      later = split.1;
      order = split.2;
      none_earlier = split.3;
      its_own = split.4;
    }

-- the same choice, as one test of each rule in turn
unfoldable pub obeys : List ℕ → ℕ → Rule → Bool
obeys word n rule = ends_with word rule.ending && (eqb (length rule.ending) n && applies word rule)

pub obeyed_in_turn : (word : List ℕ) (rules : List Rule) → obeyed word rules ≡ first (obeys word (longest (fitting word rules))) rules
unfolding obeyed chosen fitting obeys
obeyed_in_turn word rules =
    first_which (applies word) (λ rule. eqb (length rule.ending) (longest (fitting word rules))) (fitting word rules)
    ∙ first_which _ (λ rule. ends_with word rule.ending) rules

-- ## Which rules need to be looked at

-- what is obeyed depends only on the rules whose S1 the word ends with
pub same_fitting :
    (word : List ℕ) (rules others : List Rule) → fitting word rules ≡ fitting word others → obeyed word rules ≡ obeyed word others
unfolding obeyed chosen
same_fitting word rules others e = rw e

-- ## One rule, as a loop over the rules goes

-- what one test of a rule comes to
pub obeys_size :
    (word : List ℕ) (n : ℕ) (rule : Rule) → (length rule.ending ≡ n → ⊥) → obeys word n rule ≡ false
unfolding obeys
obeys_size word n rule other = rw (ne_eqb (length rule.ending) n other) (and-false (ends_with word rule.ending))

pub obeys_ends : (word : List ℕ) (n : ℕ) (rule : Rule) → ends_with word rule.ending ≡ false → obeys word n rule ≡ false
unfolding obeys
obeys_ends word n rule other = rw other

pub obeys_holds :
    (word : List ℕ) (n : ℕ) (rule : Rule)
    → length rule.ending ≡ n
    → ends_with word rule.ending ≡ true
    → obeys word n rule ≡ holds rule.condition (take (length word - n) word)
unfolding obeys before
obeys_holds word n rule size ends = rw (ends, eq-eqb (length rule.ending) n size, size)
