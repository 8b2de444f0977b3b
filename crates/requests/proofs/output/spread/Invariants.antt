use Rattle.std.proofs.Common.{◌≡◌, take, ◌*◌}
use Rattle.requests.specs.Parts.{coded_table}
use Rattle.requests.proofs.output.spread.Given as goal

abbrev pub invariant-loop-i : goal.invariant-loop-i
invariant-loop-i l = take (2 * l.i) l.space ≡ coded_table (take l.i l.numbers)
