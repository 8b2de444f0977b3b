use Rattle.std.proofs.Common.{◌≡◌, take, ◌*◌}
use Rattle.requests.specs.Parts.{coded_table}
use Rattle.requests.proofs.input.numbers.Given as goal

abbrev pub invariant-loop-i : goal.invariant-loop-i
invariant-loop-i l = coded_table (take l.i l.space) ≡ take (2 * l.i) l.bytes
