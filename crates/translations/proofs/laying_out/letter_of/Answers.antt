-- `translations::laying_out::letter_of` meets its contract, case by case.
use native.Mathlib.Omega.{arith}
use mathlib.Core.Path.{◌∙◌}
use Rattle.translations.specs.EndingLaws.{letter_none, letter_beyond, letter_here}
use Rattle.translations.proofs.laying_out.letter_of.Goals as goal

pub returns-then-end-start : goal.returns-then-end-start
returns-then-end-start c = (letter_none _ _ _ c.if-end-start.true, omega arith)

pub returns-then-sheet-start : goal.returns-then-sheet-start
returns-then-sheet-start c = (letter_beyond _ _ _ c.if-sheet-start.true, omega arith)

pub returns : goal.returns
returns c = (c.from.ensures ∙ letter_here _ _ _ c.if-end-start.false c.if-sheet-start.false, omega arith)
