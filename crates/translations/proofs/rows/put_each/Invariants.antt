-- `translations::rows::put_each` meets its contract. The loop's invariant: the ends that are left lead to what all of them do.
use Prim.Native.Nat.{◌+◌, ◌≤◌}
use mathlib.Core.Path.{◌≡◌}
use lib.ListN.{length, drop}
use Rattle.translations.specs.Storing.{how_many, put_each}
use Rattle.translations.proofs.rows.put_each.Given as goal

abbrev pub invariant-loop-end : goal.invariant-loop-end
invariant-loop-end l = (put_each l.depth l.from l.before (drop l.end-index l.ends) l.at l.table
    ≡ put_each l.depth l.from l.before l.ends l.next l.initial.table)
    × (l.at + how_many (drop l.end-index l.ends) ≡ l.next + how_many l.ends)
    × (length l.table ≡ length l.initial.table)
    × (l.end-index ≤ length l.ends)
    × (l.at ≤ l.next + l.end-index)
