-- The groups of document 01's two examples of a table.
use Rattle.std.specs.Prelude.{List, [], ◌∷◌}
use Rattle.paper.specs.Letters.{letters}
use Rattle.paper.specs.Groups.{Group, always}
use Rattle.paper.specs.Shipped.{rule}

-- "Sheet G(gate 0), s→, end"
unfoldable pub one_rule : List Group
unfolding letters rule
one_rule = record { gate = always; rules = rule 0 "s" "" ∷ [] } ∷ []

-- "One group with rules eed, then ed"
unfoldable pub eed_then_ed : List Group
unfolding letters rule
eed_then_ed = record { gate = always; rules = rule 0 "eed" "" ∷ rule 0 "ed" "" ∷ [] } ∷ []
