-- The endings of the rules of a group that were read before, found again in the sheet's bytes.
use Rattle.std.specs.Prelude.{ℕ, zero, suc, cond, List, [], ◌++◌}
use Rattle.paper.specs.Nodes.{tails}
use Rattle.records.specs.Framing.{body, after, cut}
use Rattle.records.specs.Records.{ending}

-- the tails of the endings of so many rules, which stand one after the other
unfoldable pub tails_in : ℕ → List ℕ → List (List ℕ)
tails_in zero bytes = []
tails_in (suc count) bytes = cond (cut bytes) [] (tails (ending (body bytes)) ++ tails_in count (after bytes))
