-- `lines::parts::starts` meets its contract: each byte of the front is compared with the byte at its place.
use native.Mathlib.Omega.{arith}
use mathlib.Core.Path.{sym, ◌∙◌}
use Rattle.lines.specs.PartLaws.{starts_short, starts_paired}
use Rattle.lines.proofs.parts.starts.Goals as goal

pub returns-then-rest-front : goal.returns-then-rest-front
returns-then-rest-front c = sym (starts_short _ _ c.if-rest-front.true)

pub returns : goal.returns
returns c = let s = c.args in
    c.alike.ensures ∙ starts_paired s.front.now s.rest.now (omega (arith, c.if-rest-front.false))
