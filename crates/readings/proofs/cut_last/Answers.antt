-- `readings::cut_last` meets its contract: each of the four groups is read on what the one before left.
use Prim.Native.Nat.{ℕ, ◌≤◌}
use borrow.Author.Rules.{rules}
use native.Mathlib.Omega.{arith}
use mathlib.Core.Path.{◌≡◌, sym, ap, ◌∙◌}
use mathlib.Core.List.{List}
use lib.ListN.{length, take}
use lib.Seq.{length-take-le, take-take}
use Rattle.paper.specs.Groups.{Rule}
use Rattle.paper.specs.Shipped.{group_3, group_4, group_5a}
use Rattle.groups.specs.Reads.{leaves, Cut}
use Rattle.readings.proofs.Tests.{cuts_3, cuts_4}
use Rattle.readings.proofs.cut_last.Goals as goal
use Rattle.readings.proofs.cut_last.Goals.{After-cut_within-after_3, After-cut_within-after_4, After-step_5a-after_5a}

-- a group that cuts what is left of a word
on : (word : List ℕ) (rules : List Rule) (j k : ℕ) → j ≤ length word → Cut rules (take j word) k
    → (k ≤ length word) × (take k word ≡ leaves rules (take j word))
on word rules j k within left =
    let there = length-take-le j word within in
    (omega (arith, there, left.within), sym (take-take k j word (omega (arith, there, left.within))) ∙ left.left)

-- what is left after each group
after-3 : (c : After-cut_within-after_3) → let word = c.args.word.letters.now in
    (c.cut_within-after_3.result ≤ length word) × (take c.cut_within-after_3.result word ≡ leaves group_3 word)
after-3 c = (c.cut_within-after_3.ensures.within, c.cut_within-after_3.ensures.left)

after-4 : (c : After-cut_within-after_4) (known_after-3 : let word = c.args.word.letters.now in
    (c.cut_within-after_3.result ≤ length word) × (take c.cut_within-after_3.result word ≡ leaves group_3 word))
    → let word = c.args.word.letters.now in
    (c.cut_within-after_4.result ≤ length word) × (take c.cut_within-after_4.result word ≡ leaves group_4 (leaves group_3 word))
after-4 c known_after-3 =
    let left = on _ group_4 _ _ known_after-3.0 (rw c.front.ensures at c.cut_within-after_4.ensures) in
    (left.0, left.1 ∙ ap (leaves group_4) known_after-3.1)

after-5a : (c : After-step_5a-after_5a) (known_after-4 : let word = c.args.word.letters.now in
    (c.cut_within-after_4.result ≤ length word) × (take c.cut_within-after_4.result word ≡ leaves group_4 (leaves group_3 word)))
    → let word = c.args.word.letters.now in
    (c.step_5a-after_5a.result ≤ length word)
    × (take c.step_5a-after_5a.result word ≡ leaves group_5a (leaves group_4 (leaves group_3 word)))
after-5a c known_after-4 =
    let left = on _ group_5a _ _ known_after-4.0 (rw c.front-2.ensures at c.step_5a-after_5a.ensures) in
    (left.0, left.1 ∙ ap (leaves group_5a) known_after-4.1)

pub cut_within-after_3-requires-clause-cut : goal.cut_within-after_3-requires-clause-cut
cut_within-after_3-requires-clause-cut c = cuts_3

pub front-requires : goal.front-requires
front-requires c = (after-3 (goal.at.front-requires c).After-cut_within-after_3).0

pub cut_within-after_4-requires-clause-cut : goal.cut_within-after_4-requires-clause-cut
cut_within-after_4-requires-clause-cut c = cuts_4

pub front-requires-2 : goal.front-requires-2
front-requires-2 c = let at = goal.at.front-requires-2 c in
    (after-4 at.After-cut_within-after_4 (after-3 at.After-cut_within-after_3)).0

pub front-requires-3 : goal.front-requires-3
front-requires-3 c = let at = goal.at.front-requires-3 c in
    (after-5a at.After-step_5a-after_5a (after-4 at.After-cut_within-after_4 (after-3 at.After-cut_within-after_3))).0
