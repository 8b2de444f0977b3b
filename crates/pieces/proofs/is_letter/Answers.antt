-- `pieces::is_letter` meets its contract: the library's letters, with the capitals named first, are those that words are made of.
use Rattle.std.proofs.Common.{◌∙◌}
use Rattle.std.proofs.Math.Bool.{or_comm}
use Rattle.paper.specs.Words.{small}
use Rattle.pieces.specs.Pieces.{capital, is_letter}
use Rattle.pieces.proofs.is_letter.Goals as goal

pub returns : goal.returns
unfolding is_letter
returns c = c.is_ascii_alphabetic.ensures.value ∙ or_comm (capital c.args.byte) (small c.args.byte)
