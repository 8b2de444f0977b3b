-- What is computed of the shipped groups: in which the first rule that ends a word decides, which only cut, which letters their endings
-- have last, and which have two rules with one ending.
use Prim.Native.Nat.{ℕ, zero, suc, ◌<◌}
use native.Mathlib.Omega.{arith}
use mathlib.Core.Path.{◌≡◌, refl}
use mathlib.Core.Bool.{true}
use mathlib.Core.List.{List}
use mathlib.Core.Option.{none}
use lib.ListN.{length}
use Rattle.paper.specs.Letters.{letters, among, inward, letter_at, rises, measure}
use Rattle.paper.specs.Conditions.{conditions, holds}
use Rattle.paper.specs.Groups.{same, ends_with, obeyed}
use Rattle.paper.specs.ReadingLaws.{every}
use Rattle.paper.specs.LongerFirst.{keeps_order, longer_first}
use Rattle.paper.specs.FirstFits.{apart_from, decides, last_among, rule_of}
use Rattle.paper.specs.SameEnding.{ends_empty}
use Rattle.paper.specs.Shipped.{rule, opening, single, group_1a, group_1b, follow_up, group_1c, group_2, group_3, group_4, group_5a}
use Rattle.paper.specs.Shipped.{group_5b}
use Rattle.rules.specs.Rows.{rows_of}
use Rattle.rules.specs.RowsLaws.{held_1a, held_1b, held_follow_up, held_1c, held_2, held_3, held_4, held_5a, held_5b}
use Rattle.groups.specs.Reads.{cuts, free, Paired}
use Rattle.blocks.specs.Blocks.{keeps}
use Rattle.blocks.specs.BlocksLaws.{needs_part, too_short}
use Rattle.blocks.specs.Indexes.{group_of, index_of, keeps_2, keeps_3, keeps_4}
use Rattle.blocks.specs.declared.Index.{Index}
use Rattle.blocks.specs.declared.Index.TheVariants.{Step2, Step3, Step4}
use Rattle.readings.proofs.Narrow.{Decides}

-- ## Step 1a

pub reads_1a : (table : List ℕ) → table ≡ rows_of group_1a → Decides table group_1a 4
unfolding decides every apart_from ends_with same letters rule group_1a
reads_1a table is = rw is (record { held = held_1a; one = refl; size = refl })

pub cuts_1a : every cuts group_1a ≡ true
unfolding every same cuts letters rule group_1a
cuts_1a = refl

pub free_1a : every free group_1a ≡ true
unfolding every free rule group_1a
free_1a = refl

pub last_1a : every (last_among (letters "s")) group_1a ≡ true
unfolding every last_among among letter_at inward letters rule group_1a
last_1a = refl

-- ## Step 1b, and the group it opens

pub reads_1b : (table : List ℕ) → table ≡ rows_of group_1b → Decides table group_1b 3
unfolding decides every apart_from ends_with same letters rule opening group_1b
reads_1b table is = rw is (record { held = held_1b; one = refl; size = refl })

pub cuts_1b : every cuts group_1b ≡ true
unfolding every same cuts letters rule opening group_1b
cuts_1b = refl

pub last_1b : every (last_among (letters "dg")) group_1b ≡ true
unfolding every last_among among letter_at inward letters rule opening group_1b
last_1b = refl

-- the first three rules of the follow-up have no condition
free_follow_up : (k : ℕ) → k < 3 → (rule_of follow_up k).condition ≡ 0
unfolding rule follow_up
free_follow_up zero low = refl
free_follow_up (suc zero) low = refl
free_follow_up (suc (suc zero)) low = refl
free_follow_up (suc (suc (suc k))) low = absurd (omega arith)

pub paired_follow_up : (table word : List ℕ) → table ≡ rows_of follow_up → Paired table follow_up 5 word
unfolding longer_first keeps_order every ends_with same letters rule single follow_up
paired_follow_up table word is =
    rw is
    (record {
      held = held_follow_up;
      order = refl;
      all = refl;
      two = omega arith;
      one_ending = refl;
      ends = ends_empty word;
      always = free_follow_up;
    })

-- ## Step 1c

pub reads_1c : (table : List ℕ) → table ≡ rows_of group_1c → Decides table group_1c 1
unfolding decides every group_1c
reads_1c table is = rw is (record { held = held_1c; one = refl; size = refl })

pub last_1c : every (last_among (letters "y")) group_1c ≡ true
unfolding every last_among among letter_at inward letters rule group_1c
last_1c = refl

-- ## Steps 2 to 4

reads_2 : (table : List ℕ) → table ≡ rows_of group_2 → Decides table group_2 (length group_2)
unfolding decides every apart_from ends_with same letters rule group_2
reads_2 table is = rw is (record { held = held_2; one = refl; size = refl })

short_2 : (word : List ℕ) → length word < 3 → obeyed word group_2 ≡ none
unfolding every needs_part holds conditions measure rises inward letters rule group_2
short_2 word short = too_short word group_2 refl short

reads_3 : (table : List ℕ) → table ≡ rows_of group_3 → Decides table group_3 (length group_3)
unfolding decides every apart_from ends_with same letters rule group_3
reads_3 table is = rw is (record { held = held_3; one = refl; size = refl })

pub cuts_3 : every cuts group_3 ≡ true
unfolding every same cuts letters rule group_3
cuts_3 = refl

short_3 : (word : List ℕ) → length word < 3 → obeyed word group_3 ≡ none
unfolding every needs_part holds conditions measure rises inward letters rule group_3
short_3 word short = too_short word group_3 refl short

reads_4 : (table : List ℕ) → table ≡ rows_of group_4 → Decides table group_4 (length group_4)
unfolding decides every apart_from ends_with same letters rule group_4
reads_4 table is = rw is (record { held = held_4; one = refl; size = refl })

pub cuts_4 : every cuts group_4 ≡ true
unfolding every same cuts letters rule group_4
cuts_4 = refl

short_4 : (word : List ℕ) → length word < 3 → obeyed word group_4 ≡ none
unfolding every needs_part holds conditions measure rises inward letters rule group_4
short_4 word short = too_short word group_4 refl short

pub keeps_of : (index : Index) → keeps (group_of index) (index_of index) ≡ true
keeps_of Step2 = keeps_2
keeps_of Step3 = keeps_3
keeps_of Step4 = keeps_4

pub reads_of : (index : Index) (table : List ℕ) → table ≡ rows_of (group_of index)
    → Decides table (group_of index) (length (group_of index))
reads_of Step2 = reads_2
reads_of Step3 = reads_3
reads_of Step4 = reads_4

pub short_of : (index : Index) (word : List ℕ) → length word < 3 → obeyed word (group_of index) ≡ none
short_of Step2 = short_2
short_of Step3 = short_3
short_of Step4 = short_4

-- ## Step 5

pub paired_5a : (table word : List ℕ) → table ≡ rows_of group_5a → ends_with word (letters "e") ≡ true → Paired table group_5a 2 word
unfolding longer_first keeps_order every ends_with same letters rule group_5a
paired_5a table word is ends =
    rw is
    (record {
      held = held_5a;
      order = refl;
      all = refl;
      two = omega arith;
      one_ending = refl;
      ends = ends;
      always = λ k low. absurd (omega arith);
    })

pub cuts_5a : every cuts group_5a ≡ true
unfolding every same cuts letters rule group_5a
cuts_5a = refl

pub last_5a : every (last_among (letters "e")) group_5a ≡ true
unfolding every last_among among letter_at inward letters rule group_5a
last_5a = refl

pub reads_5b : (table : List ℕ) → table ≡ rows_of group_5b → Decides table group_5b 1
unfolding decides every group_5b
reads_5b table is = rw is (record { held = held_5b; one = refl; size = refl })

pub cuts_5b : every cuts group_5b ≡ true
unfolding every same cuts single group_5b
cuts_5b = refl
