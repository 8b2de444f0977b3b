-- A table midway: its first rows are finished, and those behind them wait for it.
use Rattle.std.specs.Prelude.{ℕ, ◌+◌, ◌*◌, ◌≡◌, List, [], ◌∷◌, ◌++◌, length}
use Rattle.sheets.specs.Accepted.{groups_of}
use Rattle.levels.specs.Layout.{Node, below, rows, table_of}
use Rattle.translations.specs.Looking.{Reads, EndsAt}

-- what the row of a node that is still to be finished holds: how many letters its tail has, where the rules of its group start, where
-- its tail ends, and how many rules stand before its group
pub record Pending (sheet : List ℕ) (one : Node) (depth from end before : ℕ) : Type 0 where
  pub depth_is : depth ≡ length one.tail
  pub reads : Reads sheet from before one.rules
  pub number_is : one.number ≡ before + 1
  pub tail_there : EndsAt sheet end one.tail

-- the rows of nodes that are still to be finished
pub data Waiting (sheet : List ℕ) : List Node → List ℕ → Type 0 where
  nobody : Waiting sheet [] []
  another : {one : Node} {queue : List Node} {depth from end before : ℕ} {numbers : List ℕ}
      → Pending sheet one depth from end before → Waiting sheet queue numbers
      → Waiting sheet (one ∷ queue) (depth ∷ from ∷ end ∷ before ∷ numbers)

-- so many rows are finished, and so many are there. Of the nodes that are left, those in the queue have their rows, and the others are
-- the children of those that are left.
pub record Midway (sheet table : List ℕ) (row next : ℕ) : Type 0 where
  pub queue : List Node
  pub later : List Node
  pub front : List ℕ
  pub waits : List ℕ
  pub spare : List ℕ
  pub table_is : table ≡ front ++ (waits ++ spare)
  pub finished : length front ≡ 4 * row
  pub waiting : Waiting sheet queue waits
  pub next_is : next ≡ row + length queue
  pub later_is : later ≡ queue ++ below later
  pub whole : front ++ rows next later ≡ table_of (groups_of sheet)
  pub room : length table ≡ length (table_of (groups_of sheet))
