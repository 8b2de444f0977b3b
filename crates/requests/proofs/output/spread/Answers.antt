use Rattle.std.proofs.Common.{◌≡◌, ◌++◌, [], ◌∷◌, ◌/◌, ◌%◌, arith, slice_index_or, get_or, sym, ap, ◌∙◌}
use Rattle.requests.proofs.Tables.{one_more, two_more}
use Rattle.requests.proofs.output.spread.Goals as goal

pub loop-i-preserved : goal.loop-i-preserved
loop-i-preserved c =
    let i = c.loop-i.i in
    let n = get_or c.args.numbers.now i 0 in
    let low : slice_index_or c.to_le_bytes.result 0 0 ≡ n % 256 = rw c.to_le_bytes.ensures in
    let high : slice_index_or c.to_le_bytes.result 1 0 ≡ n / 256 % 256 = rw c.to_le_bytes.ensures in
    rw (low, high) (two_more c.loop-i.space i (n % 256) (n / 256 % 256) (omega arith)
    ∙ ap (λ bytes. bytes ++ (n % 256 ∷ n / 256 % 256 ∷ [])) c.loop-i.invariant
    ∙ sym (one_more c.args.numbers.now i (omega arith)))
