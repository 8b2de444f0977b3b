-- The two examples of a table that document 01 had before W-206.
use Rattle.std.specs.Prelude.{◌≡◌, refl, [], ◌∷◌}
use Rattle.walks.specs.Samples.{one_rule, eed_then_ed}
use Rattle.siblings.specs.Layout.{table_of, computed}

-- "Sheet G(gate 0), s→, end .. its table is (0,1,0,0) (115,0,0,1)."
pub one_rule_before : table_of one_rule ≡ (0 ∷ 1 ∷ 0 ∷ 0 ∷ 115 ∷ 0 ∷ 0 ∷ 1 ∷ [])
unfolding one_rule computed
one_rule_before = refl

-- "One group with rules eed, then ed: (0,1,0,0) (100,2,0,0) (101,3,0,2) (101,0,0,1)."
pub eed_then_ed_before : table_of eed_then_ed ≡ (0 ∷ 1 ∷ 0 ∷ 0 ∷ 100 ∷ 2 ∷ 0 ∷ 0 ∷ 101 ∷ 3 ∷ 0 ∷ 2 ∷ 101 ∷ 0 ∷ 0 ∷ 1 ∷ [])
unfolding eed_then_ed computed
eed_then_ed_before = refl
