-- `lines::parts::read_part` meets its contract.
use borrow.Author.Tests.{lt-ltb, le-ltb}
use mathlib.Core.Path.{sym, ◌∙◌}
use Rattle.paper.specs.Letters.{letters}
use Rattle.lines.specs.Reading.{part_in}
use Rattle.lines.proofs.parts.read_part.Goals as goal

pub returns-then-count-gt0 : goal.returns-then-count-gt0
unfolding part_in
returns-then-count-gt0 c = rw (← c.first_other-count.ensures, lt-ltb _ _ c.if-count-gt0.true)

pub returns-then-starts : goal.returns-then-starts
unfolding part_in letters
returns-then-starts c =
    rw (← c.first_other-count.ensures, le-ltb _ _ c.if-count-gt0.false, sym c.starts.ensures ∙ c.if-starts.true)

pub returns : goal.returns
unfolding part_in letters
returns c =
    rw (← c.first_other-count.ensures, le-ltb _ _ c.if-count-gt0.false, sym c.starts.ensures ∙ c.if-starts.false)
