-- `rules::table` meets its contract: each constant is the rows of its group, by computation.
use mathlib.Core.Path.{refl}
use Rattle.paper.specs.Letters.{letters}
use Rattle.paper.specs.Shipped.{rule, opening, single, group_1a, group_1b, follow_up, group_1c, group_2, group_3, group_4, group_5a}
use Rattle.paper.specs.Shipped.{group_5b}
use Rattle.rules.specs.Rows.{row_of, rows_of}
use Rattle.rules.proofs.table.Goals as goal

pub returns-in-Step1a : goal.returns-in-Step1a
unfolding rows_of row_of letters rule group_1a
returns-in-Step1a c = rw c.in-Step1a.is refl

pub returns-in-Step1b : goal.returns-in-Step1b
unfolding rows_of row_of letters rule opening group_1b
returns-in-Step1b c = rw c.in-Step1b.is refl

pub returns-in-FollowUp : goal.returns-in-FollowUp
unfolding rows_of row_of letters rule single follow_up
returns-in-FollowUp c = rw c.in-FollowUp.is refl

pub returns-in-Step1c : goal.returns-in-Step1c
unfolding rows_of row_of letters rule group_1c
returns-in-Step1c c = rw c.in-Step1c.is refl

pub returns-in-Step2 : goal.returns-in-Step2
unfolding rows_of row_of letters rule group_2
returns-in-Step2 c = rw c.in-Step2.is refl

pub returns-in-Step3 : goal.returns-in-Step3
unfolding rows_of row_of letters rule group_3
returns-in-Step3 c = rw c.in-Step3.is refl

pub returns-in-Step4 : goal.returns-in-Step4
unfolding rows_of row_of letters rule group_4
returns-in-Step4 c = rw c.in-Step4.is refl

pub returns-in-Step5a : goal.returns-in-Step5a
unfolding rows_of row_of letters rule group_5a
returns-in-Step5a c = rw c.in-Step5a.is refl

pub returns-in-Step5b : goal.returns-in-Step5b
unfolding rows_of row_of letters single group_5b
returns-in-Step5b c = rw c.in-Step5b.is refl
