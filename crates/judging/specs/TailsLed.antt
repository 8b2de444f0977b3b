-- The tails of endings: each is the tail of an ending that some rule has, and one letter more is a tail too, or it is the whole ending.
use Rattle.std.specs.Prelude.{ℕ, suc, ◌<◌, ◌≡◌, refl, true, List, [], ◌∷◌, ◌++◌}
use Rattle.std.proofs.Common.{sym, ap, ◌∙◌, arith}
use Rattle.std.proofs.lemmas.Bool.{false≢true}
use Rattle.paper.specs.Groups.{Rule, same}
use Rattle.paper.specs.GroupsLaws.{same_equal, same_itself}
use Rattle.paper.specs.Nodes.{tails, tails_of, member}
use Rattle.paper.specs.MemberLaws.{member-append, member_self}
use Rattle.paper.specs.Numbered.{number_of, first_with}
use Rattle.paper.specs.TestLaws.{by_test, or_left, or_right, or_cases}
use Rattle.walks.specs.Faithful.{leads}

-- ## The whole ending of which a tail is one

pub record Whole (tail ending : List ℕ) : Type 0 where
  pub front : List ℕ
  pub split : front ++ tail ≡ ending

whole_of : (letter : ℕ) (parent ending : List ℕ) → member (letter ∷ parent) (tails ending) ≡ true → Whole (letter ∷ parent) ending
unfolding member tails
whole_of letter parent [] is = absurd (false≢true is)
whole_of letter parent (first ∷ rest) is =
    or_cases (same (letter ∷ parent) (first ∷ rest)) (member (letter ∷ parent) (tails rest)) is
    (λ here. record { front = []; split = same_equal (letter ∷ parent) (first ∷ rest) here })
    (λ later. let inner = whole_of letter parent rest later in
    record { front = first ∷ inner.front; split = ap (λ (list : List ℕ). first ∷ list) inner.split })

-- a rule of these has this ending
pub record Ending (rules : List Rule) (tail : List ℕ) : Type 0 where
  pub ending : List ℕ
  pub whole : Whole tail ending
  pub held : (number : ℕ) → 0 < number → first_with number rules ending ≡ 0 → ⊥

later_held : (rule : Rule) (rules : List Rule) (ending : List ℕ) → ((number : ℕ) → 0 < number → first_with number rules ending ≡ 0 → ⊥)
    → (number : ℕ) → 0 < number → first_with number (rule ∷ rules) ending ≡ 0 → ⊥
unfolding first_with number_of
later_held rule rules ending held number h e =
    by_test (same rule.ending ending) (λ p. let zero : number ≡ 0 = rw p at e in omega arith)
    (λ p. held (suc number) (omega arith) (rw p at e))

pub first_held : (rule : Rule) (rules : List Rule) (number : ℕ) → 0 < number → first_with number (rule ∷ rules) rule.ending ≡ 0 → ⊥
unfolding first_with number_of
first_held rule rules number h e = let zero : number ≡ 0 = rw (same_itself rule.ending) at e in omega arith

pub ending_of : (rules : List Rule) (letter : ℕ) (parent : List ℕ) → member (letter ∷ parent) (tails_of rules) ≡ true
    → Ending rules (letter ∷ parent)
unfolding tails_of member
ending_of [] letter parent is = absurd (false≢true is)
ending_of (rule ∷ rules) letter parent is =
    or_cases (member (letter ∷ parent) (tails rule.ending)) (member (letter ∷ parent) (tails_of rules))
    (sym (member-append (letter ∷ parent) (tails rule.ending) (tails_of rules)) ∙ is)
    (λ here. record { ending = rule.ending; whole = whole_of letter parent rule.ending here; held = first_held rule rules })
    (λ later. let rest = ending_of rules letter parent later in
    record { ending = rest.ending; whole = rest.whole; held = later_held rule rules rest.ending rest.held })

-- ## An ending that some rule has leads, and so does each of its tails

pub ending_leads : (rules : List Rule) (number : ℕ) (ending : List ℕ) → 0 < number → (first_with number rules ending ≡ 0 → ⊥)
    → leads rules ending ≡ true
unfolding leads first_with number_of tails_of
ending_leads rules number [] h e = refl
ending_leads [] number (letter ∷ parent) h e = absurd (e refl)
ending_leads (rule ∷ rules) number (letter ∷ parent) h e =
    member-append (letter ∷ parent) (tails rule.ending) (tails_of rules)
    ∙ by_test (same rule.ending (letter ∷ parent))
    (λ p. or_left (member (letter ∷ parent) (tails rule.ending)) (member (letter ∷ parent) (tails_of rules))
    (rw (same_equal rule.ending (letter ∷ parent) p) (member_self letter parent)))
    (λ p. or_right (member (letter ∷ parent) (tails rule.ending)) (member (letter ∷ parent) (tails_of rules))
    (ending_leads rules (suc number) (letter ∷ parent) (omega arith) (rw p at e)))
