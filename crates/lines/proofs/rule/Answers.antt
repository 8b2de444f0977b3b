-- `lines::rule` meets its contract.
use Prim.Native.Nat.{◌+◌, ◌≤◌}
use native.Mathlib.Omega.{arith}
use mathlib.Core.Path.{◌≡◌, sym, ap, ◌∙◌}
use lib.ListN.{length, drop}
use Rattle.paper.specs.Letters.{letters}
use Rattle.lines.specs.Reading.{starts_with, part_in, after_condition}
use Rattle.lines.specs.PartLaws.{front_inside, part_inside}
use Rattle.paper.specs.ListLaws.{to_the_end}
use Rattle.lines.proofs.rule.Goals as goal
use Rattle.lines.proofs.rule.Goals.{After-read_part, After-starts, In_ok-letters, Then-starts}

-- what was asked of the part that was lent, said of the rest of the bytes
part : (c : After-read_part) → part_in (drop c.args.start c.args.rest.now) ≡ c.read_part.result
part c =
    let s = c.args in
    ap part_in (sym (to_the_end s.rest.now s.start)) ∙ sym c.read_part.ensures

arrow : (c : After-starts)
    → starts_with (letters " -> ") (drop (c.args.start + c.in_ok-letters.letters.taken) c.args.rest.now) ≡ c.starts.result
unfolding letters
arrow c =
    let s = c.args in
    ap (starts_with (letters " -> ")) (sym (to_the_end s.rest.now (s.start + c.in_ok-letters.letters.taken)))
    ∙ sym c.starts.ensures

-- four bytes more stand there
four : (c : Then-starts) → c.args.start + c.in_ok-letters.letters.taken ≤ length c.args.rest.now
    → starts_with (letters " -> ") (drop (c.args.start + c.in_ok-letters.letters.taken) c.args.rest.now) ≡ c.starts.result
    → c.args.start + c.in_ok-letters.letters.taken + 4 ≤ length c.args.rest.now
unfolding letters
four c low known = front_inside (letters " -> ") c.args.rest.now _ low (known ∙ c.if-starts.true)

pub returns-in_err-letters : goal.returns-in_err-letters
unfolding after_condition
returns-in_err-letters c =
    rw (part (goal.at.returns-in_err-letters c).After-read_part ∙ c.in_err-letters.was, c.from_residual.ensures)

pub overflow_add-arrow : goal.overflow_add-arrow
overflow_add-arrow c = let at = goal.at.overflow_add-arrow c in
    omega (arith, part_inside c.args.rest.now c.args.start c.requires (part at.After-read_part ∙ c.in_ok-letters.was))

pub slice_bounds-starts-count : goal.slice_bounds-starts-count
slice_bounds-starts-count c = let at = goal.at.slice_bounds-starts-count c in
    (part_inside c.args.rest.now c.args.start c.requires (part at.After-read_part ∙ c.in_ok-letters.was)).1

pub slice_bounds-starts-start : goal.slice_bounds-starts-start
slice_bounds-starts-start c = let at = goal.at.slice_bounds-starts-start c in
    omega (arith, part_inside c.args.rest.now c.args.start c.requires (part at.After-read_part ∙ c.in_ok-letters.was))

pub overflow_add-start : goal.overflow_add-start
overflow_add-start c = let at = goal.at.overflow_add-start c in
    omega (arith, part_inside c.args.rest.now c.args.start c.requires (part at.After-read_part ∙ c.in_ok-letters.was))

pub overflow_add-arrow-then-starts : goal.overflow_add-arrow-then-starts
overflow_add-arrow-then-starts c = let at = goal.at.overflow_add-arrow-then-starts c in
    let letters_there = part_inside c.args.rest.now c.args.start c.requires (part at.After-read_part ∙ c.in_ok-letters.was) in
    omega (arith, four at.Then-starts letters_there.1 (arrow at.After-starts))

pub replaced-requires : goal.replaced-requires
replaced-requires c = let at = goal.at.replaced-requires c in
    let letters_there = part_inside c.args.rest.now c.args.start c.requires (part at.After-read_part ∙ c.in_ok-letters.was) in
    four at.Then-starts letters_there.1 (arrow at.After-starts)

pub returns-then-starts : goal.returns-then-starts
unfolding after_condition
returns-then-starts c = let at = goal.at.returns-then-starts c in
    rw (part at.After-read_part ∙ c.in_ok-letters.was, arrow at.After-starts ∙ c.if-starts.true) c.replaced.ensures

pub returns : goal.returns
unfolding after_condition
returns c = let at = goal.at.returns c in
    rw (part at.After-read_part ∙ c.in_ok-letters.was, arrow at.After-starts ∙ c.if-starts.false)
