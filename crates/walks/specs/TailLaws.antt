-- Where the tails of endings lead.
use Rattle.std.specs.Prelude.{ℕ, suc, ◌≡◌, refl, true, false, List, [], ◌∷◌}
use Rattle.std.proofs.Common.{sym}
use Rattle.std.proofs.lemmas.Bool.{false≢true}
use Rattle.paper.specs.Groups.{Rule, same}
use Rattle.paper.specs.Nodes.{tails, tails_of, member}
use Rattle.paper.specs.MemberLaws.{member-append, member_self, closed_rules}
use Rattle.paper.specs.Numbered.{number_of}
use Rattle.walks.specs.Faithful.{leads}
use Rattle.paper.specs.Numbered.{first_with}
use Rattle.paper.specs.TestLaws.{by_test, neither_right}
use Rattle.paper.specs.GroupsLaws.{same_equal}

-- where a path leads, it leads through its parent
pub leads-parent : (rules : List Rule) (letter : ℕ) (parent : List ℕ) → leads rules (letter ∷ parent) ≡ true → leads rules parent ≡ true
unfolding leads
leads-parent rules letter [] e = refl
leads-parent rules letter (next ∷ rest) e = closed_rules rules letter next rest e

-- where no path leads, no rule has that ending
pub leads-nowhere : (rules : List Rule) (k : ℕ) (tail : List ℕ) → leads rules tail ≡ false → first_with k rules tail ≡ 0
unfolding leads first_with number_of tails_of
leads-nowhere rules k [] e = absurd (false≢true (sym e))
leads-nowhere [] k (letter ∷ parent) e = refl
leads-nowhere (rule ∷ rules) k (letter ∷ parent) e =
    let parted = rw member-append at e in
    by_test (same rule.ending (letter ∷ parent))
    (λ p. absurd (false≢true (sym (rw (same_equal rule.ending (letter ∷ parent) p, member_self letter parent) at parted))))
    (λ p. rw p (leads-nowhere rules (suc k) (letter ∷ parent)
    (neither_right (member (letter ∷ parent) (tails rule.ending)) (member (letter ∷ parent) (tails_of rules)) parted)))
