-- `letters::vowel_after` meets its contract: outside a to z there is no vowel, and within it the table says.
use native.Mathlib.Omega.{arith}
use mathlib.Core.Path.{sym}
use Rattle.paper.specs.Letters.{letters}
use Rattle.paper.specs.Noted.{class_before}
use Rattle.letters.specs.Scan.{class_table}
use Rattle.letters.proofs.Classes.{below_a, above_z, in_table}
use Rattle.letters.proofs.vowel_after.Goals as goal

pub returns-then-letter-lt97 : goal.returns-then-letter-lt97
returns-then-letter-lt97 c = sym (below_a (class_before c.args.consonant) c.args.letter c.if-letter-lt97.true)

pub returns-then-letter-gt122 : goal.returns-then-letter-gt122
returns-then-letter-gt122 c = sym (above_z (class_before c.args.consonant) c.args.letter c.if-letter-gt122.true)

-- what the table holds is the table of the definitions, by computation
pub returns : goal.returns
unfolding class_table letters
returns c = rw c.from-column.ensures (in_table c.args.consonant c.args.letter (omega arith) (omega arith))
