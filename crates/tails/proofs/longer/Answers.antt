-- `tails::longer` meets its contract: where the letters before the last `least` differ, or one ending has no more,
-- no longer tail is shared.
use Rattle.std.proofs.Common.{max, ◌∙◌, ap, arith}
use Rattle.paper.specs.SharedTails.{Stop, shared-below}
use Rattle.tails.proofs.FromTheEnd.{tail_is}
use Rattle.tails.proofs.longer.Goals as goal
use Rattle.tails.proofs.longer.Goals.{then-least-one-via-then-least-one, then-least-one-via-else-least-one+then-least-other}
use Rattle.tails.proofs.longer.Goals.{then-least-one-via-else-least-one+else-least-other+then-one-least}

pub returns-then-least-one : goal.returns-then-least-one
returns-then-least-one c =
    let one = c.args.one.now in
    let other = c.args.other.now in
    let least = c.args.least in
    let stop : Stop one other least =
    elim c.then-least-one.branch [
      | then-least-one-via-then-least-one w ↦ (λ first second equal. omega (arith, w.if-least-one.true))
      | then-least-one-via-else-least-one+then-least-other w ↦ (λ first second equal. omega (arith, w.if-least-other.true))
      | then-least-one-via-else-least-one+else-least-other+then-one-least w ↦ (λ first second. w.if-one-least.true)
    ] in
    omega (arith, shared-below one other least stop)

pub returns : goal.returns
returns c = c.max.ensures ∙ ap (max c.args.least) (c.shared_tail.ensures ∙ tail_is c.args.one.now c.args.other.now)
