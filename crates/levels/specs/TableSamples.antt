-- Document 01's two examples of a table, as W-206 amends them, and the length of the shipped sheet's.
use Rattle.std.specs.Prelude.{ℕ, ◌*◌, ◌≡◌, refl, [], ◌∷◌, length}
use Rattle.std.proofs.Common.{ap, ◌∙◌}
use Rattle.paper.specs.Shipped.{shipped}
use Rattle.sheets.specs.ShippedSheet.{nodes, reads}
use Rattle.sheets.specs.WriteBack.{write_back}
use Rattle.walks.specs.Samples.{one_rule, eed_then_ed}
use Rattle.levels.specs.Layout.{table_of, computed}
use Rattle.levels.specs.CountLaws.{table-length}

-- "Sheet G(gate 0), s→, end .. its table is (0,1,1,0) (115,0,0,1)."
pub one_rule_table : table_of one_rule ≡ (0 ∷ 1 ∷ 1 ∷ 0 ∷ 115 ∷ 0 ∷ 0 ∷ 1 ∷ [])
unfolding one_rule computed
one_rule_table = refl

-- "One group with rules eed, then ed: (0,1,1,0) (100,2,1,0) (101,3,1,2) (101,0,0,1)."
pub eed_then_ed_table : table_of eed_then_ed ≡ (0 ∷ 1 ∷ 1 ∷ 0 ∷ 100 ∷ 2 ∷ 1 ∷ 0 ∷ 101 ∷ 3 ∷ 1 ∷ 2 ∷ 101 ∷ 0 ∷ 0 ∷ 1 ∷ [])
unfolding eed_then_ed computed
eed_then_ed_table = refl

-- "a constant of several hundred numbers": four for each node that the shipped sheet's count has
pub shipped-length : length (table_of shipped) ≡ 648
shipped-length = table-length shipped (write_back _ shipped reads).1 ∙ ap (λ (n : ℕ). 4 * n) nodes
