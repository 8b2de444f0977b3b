use Rattle.std.proofs.Common.{◌≡◌, ◌+◌, true, ◌&&◌, sym, ap, ◌∙◌, length, drop, length-drop, get_or, leb, arith}
use Rattle.std.proofs.Math.Bool.{and-true, and_assoc}
use Rattle.paper.specs.Words.{all_small}
use Rattle.pieces.specs.Pieces.{is_letter, leading}
use Rattle.pieces.specs.PiecesLaws.{leading_within}
use Rattle.pieces.specs.Lowered.{small_letter}
use Rattle.pieces.proofs.Scan.{leading_at_letter, leading_at_other, leading_at_end}
use Rattle.pieces.proofs.word_run.Goals as goal

pub returns-then-not-is_letter : goal.returns-then-not-is_letter
unfolding all_small
returns-then-not-is_letter c =
    let loop = c.loop-end in
    let none = leading_at_other c.args.text.now loop.end c.loop-end-test.true (sym c.is_letter.ensures ∙ c.if-not-is_letter.true) in
    record {
      end_value = omega (arith, ap length none);
      small_value = rw (none, and-true) at loop.invariant.smalls;
    }

pub loop-end-preserved : goal.loop-end-preserved
unfolding all_small
loop-end-preserved c =
    let text = c.args.text.now in
    let loop = c.loop-end in
    let byte = get_or text loop.end 0 in
    let behind = leading (drop (loop.end + 1) text) in
    let letter : is_letter byte ≡ true = sym c.is_letter.ensures ∙ c.if-not-is_letter.false in
    let step = leading_at_letter text loop.end c.loop-end-test.true letter in
    record {
      ends = omega (arith, ap length step);
      smalls = and_assoc loop.small (leb 97 byte) (all_small behind)
          ∙ ap (λ b. loop.small && (b && all_small behind)) (sym (small_letter byte letter))
          ∙ ap (λ l. loop.small && all_small l) (sym step)
          ∙ loop.invariant.smalls;
    }

pub returns : goal.returns
unfolding all_small
returns c =
    let text = c.args.text.now in
    let none = leading_at_end text c.loop-end.end c.loop-end-test.false in
    record {
      end_value = omega (arith, ap length none, leading_within (drop c.args.from text), length-drop c.args.from text);
      small_value = rw (none, and-true) at c.loop-end.invariant.smalls;
    }
