-- `pieces::next_word` meets its contract: the part from the offset to the end of the letters there is the next word.
use Prim.Native.Nat.{◌+◌}
use mathlib.Core.Path.{sym, ap, ◌∙◌}
use native.Mathlib.Omega.{arith}
use lib.ListN.{drop}
use Rattle.pieces.specs.Pieces.{leading}
use Rattle.pieces.specs.NextLaws.{next_within, next_leading, part_within, part-leading}
use Rattle.pieces.proofs.next_word.Goals as goal

pub slice_bounds-result-end : goal.slice_bounds-result-end
slice_bounds-result-end c = let text = c.args.text.now in
    part_within text c.next_word_at-start.result _ c.word_run-end.ensures.end_value
    (omega (arith, next_within text c.args.from))

pub returns : goal.returns
returns c = let args = c.args in
    let offset = c.next_word_at-start.ensures in
    record {
      letters =
          part-leading args.text.now _ _ c.word_run-end.ensures.end_value
          ∙ ap (λ n. leading (drop n args.text.now)) offset
          ∙ sym (next_leading args.text.now args.from);
      place = ap (λ n. (args.text.ref_ptr.0, n + args.text.ref_ptr.1)) offset;
    }
