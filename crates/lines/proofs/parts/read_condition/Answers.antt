use mathlib.Core.Path.{◌≡◌, sym, ◌∙◌}
use native.Mathlib.Omega.{arith}
use Rattle.lines.specs.Reading.{starts_with, spelled_in}
use Rattle.lines.specs.PartLaws.{spelled_here, spelled_later}
use Rattle.lines.proofs.parts.read_condition.Goals as goal
use Rattle.lines.proofs.parts.read_condition.Goals.{After-starts}

-- what was asked of the bytes
answer : (c : After-starts) → starts_with c.spelling-spelled.result.now c.args.rest.now ≡ c.starts.result
answer c = sym c.starts.ensures

pub returns-then-starts : goal.returns-then-starts
returns-then-starts c = let here = answer (goal.at.returns-then-starts c).After-starts ∙ c.if-starts.true in
    let spelling = c.spelling-spelled.ensures in
    rw spelling (sym (c.loop-number.invariant ∙ spelled_here c.args.rest.now _ c.loop-number-test.true (rw spelling at here)))

pub loop-number-preserved : goal.loop-number-preserved
loop-number-preserved c = let here = answer (goal.at.loop-number-preserved c).After-starts ∙ c.if-starts.false in
    let spelling = c.spelling-spelled.ensures in
    c.loop-number.invariant ∙ spelled_later c.args.rest.now _ c.loop-number-test.true (rw spelling at here)

pub returns : goal.returns
unfolding spelled_in
returns c = let over : c.loop-number.number ≡ 0 = omega arith in
    sym (c.loop-number.invariant ∙ rw over)
