use Rattle.std.proofs.Common.{sym, ◌∙◌, arith}
use Rattle.pieces.specs.Next.{next_word_at}
use Rattle.pieces.proofs.Scan.{gap_at_letter, gap_at_other, gap_at_end}
use Rattle.pieces.proofs.next_word_at.Goals as goal

pub returns-then-is_letter : goal.returns-then-is_letter
unfolding next_word_at
returns-then-is_letter c =
    omega (arith, gap_at_letter c.args.text.now c.loop-at.at c.loop-at-test.true (sym c.is_letter.ensures ∙ c.if-is_letter.true))

pub loop-at-preserved : goal.loop-at-preserved
unfolding next_word_at
loop-at-preserved c =
    omega (arith, gap_at_other c.args.text.now c.loop-at.at c.loop-at-test.true (sym c.is_letter.ensures ∙ c.if-is_letter.false))

pub returns : goal.returns
unfolding next_word_at
returns c = omega (arith, gap_at_end c.args.text.now c.loop-at.at c.loop-at-test.false)
