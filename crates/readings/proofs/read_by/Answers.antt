-- `readings::read_by` meets its contract: each step is read on what the one before left.
use Prim.Native.Nat.{ℕ}
use native.Mathlib.Omega.{arith}
use mathlib.Core.Path.{◌≡◌, sym, ap, ◌∙◌}
use mathlib.Core.List.{List}
use lib.ListN.{length, take}
use lib.Seq.{length-take-le, take-take}
use Rattle.paper.specs.Groups.{done}
use Rattle.paper.specs.Shipped.{group_1a, group_1b, follow_up, group_1c, group_2}
use Rattle.groups.specs.Reads.{leaves}
use Rattle.groups.specs.ReadsLaws.{shorter}
use Rattle.readings.specs.Steps.{leaves_opened, leaves_last}
use Rattle.readings.proofs.Reading.{shipped_reads}
use Rattle.readings.proofs.read_by.Goals as goal
use Rattle.readings.proofs.read_by.Goals.{After-step_1b-after_1b, After-step_1c-after_1c}

-- what stands there after each step that writes
module _ (c : After-step_1b-after_1b) where
  after_1b : take c.step_1b-after_1b.result c.step_1b-after_1b.new.word ≡ leaves_opened group_1b follow_up (leaves group_1a c.args.word.now)
  after_1b = c.step_1b-after_1b.ensures.left ∙ ap (leaves_opened group_1b follow_up) c.step_1a-after_1a.ensures.left

module _
    (c : After-step_1c-after_1c)
    (known : take c.step_1b-after_1b.result c.step_1b-after_1b.new.word
    ≡ leaves_opened group_1b follow_up (leaves group_1a c.args.word.now)) where
  after_1c : take c.step_1c-after_1c.result c.step_1c-after_1c.new.word
      ≡ leaves group_1c (leaves_opened group_1b follow_up (leaves group_1a c.args.word.now))
  after_1c = c.step_1c-after_1c.ensures.left ∙ ap (leaves group_1c) known

pub step_1b-after_1b-requires : goal.step_1b-after_1b-requires
step_1b-after_1b-requires c =
    let first = c.step_1a-after_1a in
    record {
      stands = shorter c.requires first.result first.ensures.within;
      word_in_bounds = rw (← first.ensures.left) at (shipped_reads c.args.word.now).0.0;
    }

pub step_1c-after_1c-requires : goal.step_1c-after_1c-requires
step_1c-after_1c-requires c =
    let b = c.step_1b-after_1b in
    let long = ap (λ (l : List ℕ). length (leaves group_1c l)) (after_1b (goal.at.step_1c-after_1c-requires c).After-step_1b-after_1b) in
    record { stands = b.ensures.stands; word_in_bounds = omega (arith, long, (shipped_reads c.args.word.now).0.1.0, b.auto.word) }

pub step_2-after_2-requires : goal.step_2-after_2-requires
step_2-after_2-requires c =
    let at = goal.at.step_2-after_2-requires c in
    let t = c.step_1c-after_1c in
    let long = ap (λ (l : List ℕ). length (leaves group_2 l)) (after_1c at.After-step_1c-after_1c (after_1b at.After-step_1b-after_1b)) in
    record {
      stands = t.ensures.stands;
      word_in_bounds = omega (arith, long, (shipped_reads c.args.word.now).0.1.1, t.auto.word, c.step_1b-after_1b.auto.word);
    }

pub returns : goal.returns
returns c =
    let at = goal.at.returns c in
    let read = c.step_2-after_2 in
    let there = length-take-le read.result read.new.word read.ensures.stands.within in
    let short = c.cut_last.ensures.upper_bound in
    let last = sym (take-take c.cut_last.result read.result read.new.word (omega (arith, there, short)))
    ∙ c.cut_last.ensures.word_value
    ∙ ap leaves_last (read.ensures.left ∙ ap (leaves group_2) (after_1c at.After-step_1c-after_1c (after_1b at.After-step_1b-after_1b))) in (
      omega (arith, there, short, read.ensures.stands.within, read.auto.word, c.step_1c-after_1c.auto.word, c.step_1b-after_1b.auto.word),
      (shipped_reads c.args.word.now).1 ∙ ap done (sym last),
    )
