-- `readings::step_1b` meets its contract: what group 1b leaves, and where it opens the next, what that leaves.
use Prim.Native.Nat.{ℕ, ◌≤◌}
use native.Mathlib.Omega.{arith}
use mathlib.Core.Path.{◌≡◌, sym, ap, ◌∙◌}
use mathlib.Core.Bool.{Bool, true, false}
use mathlib.Core.List.{List}
use lib.ListN.{length, take}
use lib.Seq.{length-take-le, take-take}
use Rattle.paper.specs.Groups.{obeyed, opens_next}
use Rattle.paper.specs.Shipped.{group_1b, follow_up}
use Rattle.groups.specs.Reads.{leaves}
use Rattle.groups.specs.ReadsLaws.{shorter}
use Rattle.readings.specs.Steps.{leaves_opened}
use Rattle.readings.proofs.step_1b.Goals as goal
use Rattle.readings.proofs.step_1b.Goals.{After-cut_1b-left}

-- once group 1b was read
module _ (c : After-cut_1b-left) where
  abbrev place : List ℕ
  place = c.args.word.now

  abbrev word : List ℕ
  word = take c.args.len place

  abbrev left : ℕ
  left = c.cut_1b-left.result.len

  less : left ≤ c.args.len
  less = omega (arith, c.cut_1b-left.ensures.cut.within, length-take-le c.args.len place c.requires.stands.within)

  front : take left place ≡ leaves group_1b word
  front = sym (take-take left c.args.len place less) ∙ c.cut_1b-left.ensures.cut.left

  opened : {b : Bool} → c.cut_1b-left.result.opened ≡ b → opens_next (obeyed word group_1b) ≡ b
  opened is = sym c.cut_1b-left.ensures.opens ∙ is

  then_follows : c.cut_1b-left.result.opened ≡ true → leaves_opened group_1b follow_up word ≡ leaves follow_up (take left place)
  unfolding leaves_opened
  then_follows is = rw (opened is, front)

  then_stays : c.cut_1b-left.result.opened ≡ false → leaves_opened group_1b follow_up word ≡ take left place
  unfolding leaves_opened
  then_stays is = rw (opened is) (sym front)

pub follow-requires : goal.follow-requires
follow-requires c =
    let read = (goal.at.follow-requires c).After-cut_1b-left in
    let long = ap length (then_follows read c.if-left.true) in
    record {
      stands = shorter c.requires.stands (left read) (less read);
      word_in_bounds = omega (arith, long, c.requires.word_in_bounds);
    }

pub returns-then-left : goal.returns-then-left
returns-then-left c =
    let read = (goal.at.returns-then-left c).After-cut_1b-left in
    let ran = c.follow.ensures in
    record { left = ran.left ∙ sym (then_follows read c.if-left.true); stands = ran.stands }

pub returns : goal.returns
returns c =
    let read = (goal.at.returns c).After-cut_1b-left in
    record { left = sym (then_stays read c.if-left.false); stands = shorter c.requires.stands (left read) (less read) }
