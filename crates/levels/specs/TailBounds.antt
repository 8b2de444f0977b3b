-- The tails of bounded endings have at most 12 letters, all of them small; and no tail is empty.
use Rattle.std.specs.Prelude.{ℕ, ◌≤◌, ◌≡◌, refl, true, false, List, [], ◌∷◌, length}
use Rattle.std.proofs.lemmas.Bool.{false≢true}
use Rattle.std.proofs.Common.{arith}
use Rattle.paper.specs.Groups.{Rule, same}
use Rattle.paper.specs.GroupsLaws.{same_equal}
use Rattle.paper.specs.MemberLaws.{member-append}
use Rattle.paper.specs.Nodes.{tails, tails_of, member}
use Rattle.paper.specs.TestLaws.{and_left, and_right, or_cases}
use Rattle.paper.specs.Words.{small, all_small}
use Rattle.records.specs.RecordBytes.{allowed}
use Rattle.records.specs.WrittenRules.{bounds}
use Rattle.sheets.specs.SheetBytes.{all_allowed}

pub record Fit (tail : List ℕ) : Type 0 where
  pub short : length tail ≤ 12
  pub small_letters : all_small tail ≡ true

pub fit_empty : Fit []
unfolding all_small
fit_empty = record { short = omega arith; small_letters = refl }

pub fit_first : (letter : ℕ) (tail : List ℕ) → Fit (letter ∷ tail) → small letter ≡ true
unfolding all_small
fit_first letter tail fit = and_left (small letter) (all_small tail) fit.small_letters

fit_rest : (letter : ℕ) (tail : List ℕ) → Fit (letter ∷ tail) → Fit tail
unfolding all_small
fit_rest letter tail fit =
    let long = fit.short in
    record { short = omega arith; small_letters = and_right (small letter) (all_small tail) fit.small_letters }

tails_fit : (ending tail : List ℕ) → Fit ending → member tail (tails ending) ≡ true → Fit tail
unfolding tails member
tails_fit [] tail fit e = absurd (false≢true e)
tails_fit (letter ∷ ending) tail fit e =
    or_cases (same tail (letter ∷ ending)) (member tail (tails ending)) e
    (λ whole. rw (same_equal tail (letter ∷ ending) whole) fit)
    (λ further. tails_fit ending tail (fit_rest letter ending fit) further)

pub member_fits : (rules : List Rule) → all_allowed rules ≡ true → (tail : List ℕ) → member tail (tails_of rules) ≡ true → Fit tail
unfolding all_allowed tails_of member
member_fits [] all tail e = absurd (false≢true e)
member_fits (rule ∷ rules) all tail e =
    let is = bounds rule (and_left (allowed rule) (all_allowed rules) all) in
    or_cases (member tail (tails rule.ending)) (member tail (tails_of rules)) (rw member-append at e)
    (λ here. tails_fit rule.ending tail (record { short = is.short_ending; small_letters = is.ending_letters }) here)
    (λ later. member_fits rules (and_right (allowed rule) (all_allowed rules) all) tail later)

tails_some : (ending : List ℕ) → member [] (tails ending) ≡ false
unfolding tails member same
tails_some [] = refl
tails_some (letter ∷ ending) = tails_some ending

pub members_some : (rules : List Rule) → member [] (tails_of rules) ≡ false
unfolding tails_of member
members_some [] = refl
members_some (rule ∷ rules) = rw (member-append [] (tails rule.ending) (tails_of rules), tails_some rule.ending, members_some rules)
