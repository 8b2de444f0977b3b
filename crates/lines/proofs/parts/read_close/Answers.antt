-- `lines::parts::read_close` meets its contract.
use mathlib.Core.Path.{sym, ◌∙◌}
use Rattle.paper.specs.Letters.{letters}
use Rattle.lines.specs.Reading.{close_in}
use Rattle.lines.proofs.parts.read_close.Goals as goal

pub returns-then-starts : goal.returns-then-starts
unfolding close_in letters
returns-then-starts c = rw (sym c.starts.ensures ∙ c.if-starts.true)

pub returns-then-starts-2 : goal.returns-then-starts-2
unfolding close_in letters
returns-then-starts-2 c = rw (sym c.starts.ensures ∙ c.if-starts.false, sym c.starts-2.ensures ∙ c.if-starts-2.true)

pub returns : goal.returns
unfolding close_in letters
returns c = rw (sym c.starts.ensures ∙ c.if-starts.false, sym c.starts-2.ensures ∙ c.if-starts-2.false)
