-- A list of tails that names none twice is as long as another list with its members has distinct ones. Rising letters before one tail
-- are such a list.
use Rattle.std.specs.Prelude.{ℕ, suc, ◌≡◌, refl, Bool, true, false, not, cond, ◌&&◌, ◌||◌, List, [], ◌∷◌, ◌++◌, map, eqb, ltb, length}
use Rattle.std.proofs.Common.{sym, ap, ◌∙◌, arith}
use Rattle.std.proofs.Math.Bool.{and-false, and-or_distrib_right}
use Rattle.std.proofs.lemmas.Bool.{false≢true}
use Rattle.paper.specs.Letters.{among}
use Rattle.paper.specs.Groups.{same}
use Rattle.paper.specs.Nodes.{member, distinct}
use Rattle.paper.specs.TestLaws.{by_test, and_right, or_left, or_right, neither_left, neither_right}
use Rattle.paper.specs.GroupsLaws.{same_equal, same_itself}
use Rattle.paper.specs.MemberLaws.{member-append, Alike}
use Rattle.levels.specs.RisingLaws.{rising, rising_past}

-- ## No tail twice

-- each tail differs from all behind it
unfoldable pub Unlike : List (List ℕ) → Type 0
Unlike [] = Unit {0}
Unlike (tail ∷ more) = (member tail more ≡ false) × Unlike more

-- two lists share no tail
abbrev pub Apart : List (List ℕ) → List (List ℕ) → Type 0
Apart xs ys = (tail : List ℕ) → member tail xs ≡ true → member tail ys ≡ false

member_first : (one : List ℕ) (more : List (List ℕ)) → member one (one ∷ more) ≡ true
unfolding member
member_first one more = or_left (same one one) (member one more) (same_itself one)

member_later : (tail one : List ℕ) (more : List (List ℕ)) → member tail more ≡ true → member tail (one ∷ more) ≡ true
unfolding member
member_later tail one more is = or_right (same tail one) (member tail more) is

pub unlike-append : (xs ys : List (List ℕ)) → Unlike xs → Unlike ys → Apart xs ys → Unlike (xs ++ ys)
unfolding Unlike
unlike-append [] ys first second apart = second
unlike-append (x ∷ xs) ys first second apart = (
  rw (member-append x xs ys, first.0) (apart x (member_first x xs)),
  unlike-append xs ys first.1 second (λ tail is. apart tail (member_later tail x xs is)),
)

-- ## Letters before one tail

-- each of these letters followed by the tail
abbrev pub joined : List ℕ → List ℕ → List (List ℕ)
joined tail list = map (λ letter. letter ∷ tail) list

pub joined_empty : (tail list : List ℕ) → member [] (joined tail list) ≡ false
unfolding member same
joined_empty tail [] = refl
joined_empty tail (letter ∷ list) = joined_empty tail list

pub member_joined : (letter : ℕ) (parent tail list : List ℕ)
    → member (letter ∷ parent) (joined tail list) ≡ (among letter list && same parent tail)
unfolding member among same
member_joined letter parent tail [] = refl
member_joined letter parent tail (one ∷ list) =
    rw (member_joined letter parent tail list) (sym (and-or_distrib_right (eqb letter one) (among letter list) (same parent tail)))

pub unlike_joined : (tail : List ℕ) (least : ℕ) (list : List ℕ) → rising least list ≡ true → Unlike (joined tail list)
unfolding Unlike rising
unlike_joined tail least [] e = tt
unlike_joined tail least (one ∷ list) e =
    let later = and_right (ltb least one) (rising one list) e in (
      rw (member_joined one tail tail list, rising_past one one list (omega arith) later),
      unlike_joined tail one list later,
    )

-- ## Without one tail

without : List ℕ → List (List ℕ) → List (List ℕ)
without tail [] = []
without tail (one ∷ more) = cond (same tail one) (without tail more) (one ∷ without tail more)

without_none : (tail : List ℕ) (xs : List (List ℕ)) → member tail xs ≡ false → without tail xs ≡ xs
unfolding member without
without_none tail [] none = refl
without_none tail (x ∷ xs) none =
    rw (neither_left (same tail x) (member tail xs) none, without_none tail xs (neither_right (same tail x) (member tail xs) none))

length_without : (tail : List ℕ) (xs : List (List ℕ)) → Unlike xs → member tail xs ≡ true → length xs ≡ suc (length (without tail xs))
unfolding member Unlike without
length_without tail [] unlike is = absurd (false≢true is)
length_without tail (x ∷ xs) unlike is =
    by_test (same tail x)
    (λ p. rw (p, without_none tail xs (rw (same_equal tail x p) unlike.0)))
    (λ p. rw p (ap suc (length_without tail xs unlike.1 (rw p at is))))

member-without : (tail one : List ℕ) (xs : List (List ℕ)) → member tail (without one xs) ≡ (not (same tail one) && member tail xs)
unfolding member without
member-without tail one [] = sym (and-false (not (same tail one)))
member-without tail one (x ∷ xs) =
    by_test (same one x)
    (λ p. rw (p, member-without tail one xs, same_equal one x p) (both (same tail x) (member tail xs)))
    (λ p. rw p (by_test (same tail one)
    (λ q. rw (q, member-without tail one xs, q, same_equal tail one q, p))
    (λ q. rw (q, member-without tail one xs, q))))
  where
    both : (a b : Bool) → (not a && b) ≡ (not a && (a || b))
    both true b = refl
    both false b = refl

unlike-without : (tail : List ℕ) (xs : List (List ℕ)) → Unlike xs → Unlike (without tail xs)
unfolding Unlike without
unlike-without tail [] unlike = unlike
unlike-without tail (x ∷ xs) unlike =
    by_test (same tail x)
    (λ p. rw p (unlike-without tail xs unlike.1))
    (λ p. rw p (
      rw (member-without x tail xs, unlike.0) (and-false (not (same x tail))),
      unlike-without tail xs unlike.1,
    ))

-- ## Counted

counted : (xs seen other : List (List ℕ)) → Unlike xs
    → ((tail : List ℕ) → member tail xs ≡ (not (member tail seen) && member tail other))
    → length xs ≡ distinct seen other
unfolding distinct member
counted [] seen [] unlike alike = refl
counted (x ∷ xs) seen [] unlike alike =
    absurd (false≢true (sym (and-false (not (member x seen))) ∙ (sym (alike x) ∙ member_first x xs)))
counted xs seen (one ∷ other) unlike alike =
    by_test (member one seen)
    (λ p. rw p (counted xs seen other unlike (λ tail. alike tail ∙ known tail p (same tail one) refl)))
    (λ p. rw p
    (length_without one xs unlike (rw (alike one, p) (or_left (same one one) (member one other) (same_itself one)))
    ∙ ap suc (counted (without one xs) (one ∷ seen) other (unlike-without one xs unlike) (λ tail.
    member-without tail one xs ∙ rw (alike tail) (new (same tail one) (member tail seen) (member tail other))))))
  where
    known : (tail : List ℕ) → member one seen ≡ true → (b : Bool) → same tail one ≡ b
        → (not (member tail seen) && (same tail one || member tail other)) ≡ (not (member tail seen) && member tail other)
    known tail p true is = rw (same_equal tail one is, p)
    known tail p false is = rw is

    new : (a b c : Bool) → (not a && (not b && (a || c))) ≡ (not (a || b) && c)
    new true b c = refl
    new false b c = refl

pub counted_all : (xs other : List (List ℕ)) → Unlike xs → Alike xs other → length xs ≡ distinct [] other
unfolding member
counted_all xs other unlike alike = counted xs [] other unlike alike
