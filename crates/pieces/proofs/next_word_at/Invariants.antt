-- `pieces::next_word_at` meets its contract. The loop's invariant: the next word from `at` is the one from the place that was given.
use Rattle.std.proofs.Common.{◌≡◌}
use Rattle.pieces.specs.Next.{next_word_at}
use Rattle.pieces.proofs.next_word_at.Given as goal

abbrev pub invariant-loop-at : goal.invariant-loop-at
invariant-loop-at l = next_word_at l.text l.at ≡ next_word_at l.text l.from
