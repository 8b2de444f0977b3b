use Rattle.std.proofs.Common.{ℕ, ◌<◌, ◌≡◌, sym, ap, ◌∙◌, true, length, get_or, arith}
use Rattle.pieces.specs.Pieces.{is_letter}
use Rattle.pieces.specs.LetterBits.{small_by_bit}
use Rattle.texts.proofs.Small.{small_none, small_at, small_more, small_all, letter_at}
use Rattle.texts.proofs.make_small.Goals as goal

pub loop-byte-init : goal.loop-byte-init
loop-byte-init c = sym (small_none _)

pub loop-byte-preserved : goal.loop-byte-preserved
loop-byte-preserved c =
    let word = c.args.word.now in
    let at : ℕ = c.loop-byte.byte-index in
    let inside : at < length word = omega arith in
    let byte : get_or c.loop-byte.word at 0 ≡ get_or word at 0 = ap (λ l. get_or l at 0) c.loop-byte.invariant ∙ small_at word at inside in
    let letter : is_letter (get_or c.loop-byte.word at 0) ≡ true = ap is_letter byte ∙ letter_at word at c.requires inside in
    let below : get_or c.loop-byte.word at 0 < 256 = omega arith in
    rw (small_by_bit (get_or c.loop-byte.word at 0) below letter, c.loop-byte.invariant) (small_more word at inside)

pub returns : goal.returns
returns c = c.loop-byte.invariant ∙ small_all _ _ (omega arith)
