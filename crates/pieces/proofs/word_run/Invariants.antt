-- `pieces::word_run` meets its contract. The loop's invariant: the leading letters behind `end` end where those from the place
-- that was given end, and with `small` they tell whether all of those are small.
use Rattle.std.proofs.Common.{◌≡◌, ◌&&◌, drop}
use Rattle.paper.specs.Words.{all_small}
use Rattle.pieces.specs.Pieces.{leading}
use Rattle.pieces.specs.Next.{word_end}
use Rattle.pieces.proofs.word_run.Given as goal

abbrev pub invariant-loop-end : goal.invariant-loop-end
invariant-loop-end l = record {
  ends : word_end l.text l.end ≡ word_end l.text l.from;
  smalls : l.small && all_small (leading (drop l.end l.text)) ≡ all_small (leading (drop l.from l.text));
}
