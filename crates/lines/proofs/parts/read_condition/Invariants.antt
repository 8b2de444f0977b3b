-- `lines::parts::read_condition` meets its contract: at the loop's head no condition of `number` or a higher number begins the bytes.
use mathlib.Core.Path.{◌≡◌}
use Rattle.lines.specs.Reading.{spelled_in}
use Rattle.lines.proofs.parts.read_condition.Given as goal

abbrev pub invariant-loop-number : goal.invariant-loop-number
invariant-loop-number l = spelled_in 9 l.rest ≡ spelled_in l.number l.rest
