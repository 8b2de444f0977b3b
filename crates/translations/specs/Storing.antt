-- Storing rows in a table: one row, and one for each end that is not 0.
use Rattle.std.specs.Prelude.{ℕ, suc, ◌+◌, ◌*◌, cond, List, [], ◌∷◌, eqb, set}

-- the four numbers of a row
unfoldable pub put_row : ℕ → ℕ → ℕ → ℕ → ℕ → List ℕ → List ℕ
put_row row first second third fourth table =
    set (set (set (set table (4 * row) first) (4 * row + 1) second) (4 * row + 2) third) (4 * row + 3) fourth

-- how many of these ends are not 0
unfoldable pub how_many : List ℕ → ℕ
how_many [] = 0
how_many (end ∷ ends) = cond (eqb end 0) (how_many ends) (suc (how_many ends))

-- a row that is still to be finished for each of them, from the row `next` on
unfoldable pub put_each : ℕ → ℕ → ℕ → List ℕ → ℕ → List ℕ → List ℕ
put_each depth from before [] next table = table
put_each depth from before (end ∷ ends) next table =
    cond (eqb end 0) (put_each depth from before ends next table)
    (put_each depth from before ends (next + 1) (put_row next depth from end before table))
