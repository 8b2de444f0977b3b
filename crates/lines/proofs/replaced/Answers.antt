-- `lines::replaced` meets its contract.
use native.Mathlib.Omega.{arith}
use mathlib.Core.Path.{◌≡◌, sym, ap, ◌∙◌}
use lib.ListN.{drop}
use Rattle.paper.specs.Letters.{letters}
use Rattle.lines.specs.Reading.{starts_with, part_in, after_arrow}
use Rattle.lines.specs.PartLaws.{front_inside, part_inside}
use Rattle.paper.specs.ListLaws.{to_the_end}
use Rattle.lines.proofs.replaced.Goals as goal
use Rattle.lines.proofs.replaced.Goals.{After-read_part, After-starts}

-- what was asked of the part that was lent, said of the rest of the bytes
single : (c : After-starts) → starts_with (letters "single letter") (drop c.args.from c.args.rest.now) ≡ c.starts.result
unfolding letters
single c =
    let s = c.args in
    ap (starts_with (letters "single letter")) (sym (to_the_end s.rest.now s.from))
    ∙ sym c.starts.ensures

part : (c : After-read_part) → part_in (drop c.args.from c.args.rest.now) ≡ c.read_part.result
part c =
    let s = c.args in
    ap part_in (sym (to_the_end s.rest.now s.from)) ∙ sym c.read_part.ensures

pub closed-requires : goal.closed-requires
unfolding letters
closed-requires c =
    front_inside (letters "single letter") c.args.rest.now c.args.from c.requires
    (single (goal.at.closed-requires c).After-starts ∙ c.if-starts.true)

pub returns-then-starts : goal.returns-then-starts
unfolding after_arrow
returns-then-starts c =
    rw (single (goal.at.returns-then-starts c).After-starts ∙ c.if-starts.true) c.closed.ensures

pub returns-in_err-letters : goal.returns-in_err-letters
unfolding after_arrow
returns-in_err-letters c = let at = goal.at.returns-in_err-letters c in
    rw (single at.After-starts ∙ c.if-starts.false, part at.After-read_part ∙ c.in_err-letters.was, c.from_residual.ensures)

pub overflow_add-line-2 : goal.overflow_add-line-2
overflow_add-line-2 c = let at = goal.at.overflow_add-line-2 c in
    omega (arith, part_inside c.args.rest.now c.args.from c.requires (part at.After-read_part ∙ c.in_ok-letters.was))

pub overflow_add-line-3 : goal.overflow_add-line-3
overflow_add-line-3 c = let at = goal.at.overflow_add-line-3 c in
    omega (arith, part_inside c.args.rest.now c.args.from c.requires (part at.After-read_part ∙ c.in_ok-letters.was))

pub closed-requires-2 : goal.closed-requires-2
closed-requires-2 c = let at = goal.at.closed-requires-2 c in
    (part_inside c.args.rest.now c.args.from c.requires (part at.After-read_part ∙ c.in_ok-letters.was)).1

pub returns : goal.returns
unfolding after_arrow
returns c = let at = goal.at.returns c in
    rw (single at.After-starts ∙ c.if-starts.false, part at.After-read_part ∙ c.in_ok-letters.was) c.closed-2.ensures
