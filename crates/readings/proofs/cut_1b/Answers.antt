-- `readings::cut_1b` meets its contract: every ending of group 1b has a d or a g last.
use mathlib.Core.Path.{◌≡◌}
use mathlib.Core.Bool.{false}
use lib.Dec.{eqb}
use Rattle.paper.specs.Letters.{letters, among, letter_at}
use Rattle.paper.specs.TestLaws.{neither_left, neither_right}
use Rattle.paper.specs.Groups.{opens_next}
use Rattle.paper.specs.Shipped.{group_1b}
use Rattle.groups.specs.ReadsLaws.{kept_whole}
use Rattle.readings.proofs.Narrow.{none_last, whole}
use Rattle.readings.proofs.Tests.{reads_1b, cuts_1b, last_1b}
use Rattle.readings.proofs.cut_1b.Goals as goal

pub returns-then-last : goal.returns-then-last
returns-then-last c = c.cut_by.ensures group_1b c.args.word.noted (whole (reads_1b _ c.table-rules.ensures)) cuts_1b

pub returns : goal.returns
unfolding letters among opens_next
returns c = let word = c.args.word.letters.now in
    let last = c.letter_at-last.result in
    let d = neither_left (eqb last 100) (eqb last 103) c.if-last.false in
    let g = neither_right (eqb last 100) (eqb last 103) c.if-last.false in
    let other : among (letter_at 0 word) (letters "dg") ≡ false = rw (← c.letter_at-last.ensures, d, g) in
    let none-obeyed = none_last word (letters "dg") group_1b last_1b other in
    record { cut = kept_whole group_1b word none-obeyed; opens = rw none-obeyed }
