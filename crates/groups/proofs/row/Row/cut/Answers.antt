-- `groups::row::Row::cut` meets its contract.
use native.Mathlib.Omega.{arith}
use mathlib.Core.Path.{sym, ◌∙◌}
use Rattle.groups.specs.Reads.{cut_at}
use Rattle.groups.proofs.row.Row.cut.Goals as goal

pub returns-then-single : goal.returns-then-single
unfolding cut_at
returns-then-single c =
    rw (sym c.single.ensures ∙ c.if-single.true)
    (omega (arith, c.saturating_sub.ensures, c.saturating_sub-part.ensures, c.size.ensures.value))

pub returns : goal.returns
unfolding cut_at
returns c =
    rw (sym c.single.ensures ∙ c.if-single.false)
    (omega (arith, c.saturating_sub-part.ensures, c.size.ensures.value, c.added.ensures.value))
