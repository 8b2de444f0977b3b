use Rattle.std.proofs.Common.{◌≡◌, ◌+◌, ◌*◌, ◌<◌, get_or, arith}
use Rattle.requests.proofs.Tables.{one_read}
use Rattle.requests.proofs.input.numbers.Goals as goal

pub loop-i-preserved : goal.loop-i-preserved
loop-i-preserved c =
    let i = c.loop-i.i in
    let bytes = c.args.bytes.now in
    let low : get_or bytes (2 * i) 0 < 256 = omega (arith, c.type_inv.bytes (2 * i)) in
    let high : get_or bytes (2 * i + 1) 0 < 256 = omega (arith, c.type_inv.bytes (2 * i + 1)) in
    let n = c.from_le_bytes.result in
    let is : n ≡ get_or bytes (2 * i) 0 + 256 * get_or bytes (2 * i + 1) 0 = omega (arith, c.from_le_bytes.ensures) in
    one_read c.loop-i.space bytes i n (omega arith) (omega arith) low high is c.loop-i.invariant
