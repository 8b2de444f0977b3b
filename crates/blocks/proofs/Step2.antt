-- Step 2, as W-203 asks, shown: the index leaves out no rule that could be obeyed.
use Rattle.std.specs.Prelude.{ℕ, ◌≡◌, List}
use Rattle.paper.specs.Groups.{obeyed}
use Rattle.paper.specs.Shipped.{group_2}
use Rattle.blocks.specs.Blocks.{compared}
use Rattle.blocks.specs.BlocksLaws.{by_second_last}
use Rattle.blocks.specs.Indexes.{index_2, keeps_2}

-- "What the step gives for each word stays as it is."
pub step_2_stays : (word : List ℕ) → obeyed word (compared index_2 word group_2) ≡ obeyed word group_2
step_2_stays word = by_second_last group_2 index_2 keeps_2 word
