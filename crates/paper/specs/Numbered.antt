-- Things counted from a number on: the number of the first that passes a test, and of the first rule with an ending.
use Rattle.std.specs.Prelude.{ℕ, suc, Bool, cond, List, [], ◌∷◌}
use Rattle.paper.specs.Groups.{Rule, same}

-- the number of the first that passes a test, counted from `number`; "0 for none"
unfoldable pub number_of : {A : Type 0} → (A → Bool) → ℕ → List A → ℕ
number_of test number [] = 0
number_of test number (one ∷ more) = cond (test one) number (number_of test (suc number) more)

-- the first rule whose ending is this, of rules that are counted from `number`; 0 for none
unfoldable pub first_with : ℕ → List Rule → List ℕ → ℕ
first_with number rules s1 = number_of (λ rule. same rule.ending s1) number rules
