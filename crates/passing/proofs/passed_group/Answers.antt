-- `passing::passed_group` meets its contract.
use borrow.Author.Tests.{lt-ltb, le-ltb}
use Rattle.records.specs.Framing.{number}
use Rattle.records.specs.Records.{gate_number}
use Rattle.passing.specs.Passed.{passed_group}
use Rattle.passing.proofs.passed_group.Goals as goal

pub returns-in_default : goal.returns-in_default
unfolding passed_group
returns-in_default c = simp (lt-ltb _ _ c.in_default.len_below)

pub returns : goal.returns
unfolding passed_group gate_number number
returns c = simp (le-ltb _ _ c.in-len2-up.len_at_least, ← c.pair-gate.ensures.value)
