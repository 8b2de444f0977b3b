-- `texts::make_small` meets its contract. The loop's invariant: the letters before this one have been made small.
use Rattle.std.proofs.Common.{◌≡◌}
use Rattle.texts.proofs.Small.{small_to}
use Rattle.texts.proofs.make_small.Given as goal

abbrev pub invariant-loop-byte : goal.invariant-loop-byte
invariant-loop-byte l = l.word ≡ small_to l.initial.word l.byte-index
