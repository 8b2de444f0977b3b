-- A rule that is read from its row: its ending and its replacement have as many letters as the row says.
use Prim.Native.Nat.{ℕ, ◌+◌, ◌-◌, ◌*◌, ◌≤◌}
use native.Mathlib.Omega.{arith}
use mathlib.Core.Path.{◌≡◌, ap, ◌∙◌}
use mathlib.Core.List.{List}
use lib.ListN.{length, take, drop, length-drop}
use lib.Seq.{length-take-le}
use Rattle.paper.specs.Groups.{before}
use Rattle.paper.specs.ReadingLaws.{applies}
use Rattle.paper.specs.Noted.{Noted, noted_part, holds_noted_lem}
use Rattle.rules.specs.Rows.{size_at, added_at, written_at, rule_at, Rows}
use Rattle.groups.specs.Reads.{asks}

module _ (table : List ℕ) (k : ℕ) (row : Rows table (k + 1)) where
  size_most : size_at table k ≤ 7
  unfolding size_at
  size_most = omega arith

  added_most : added_at table k ≤ 4
  unfolding added_at
  added_most = omega arith

  pub ending_size : length (rule_at table k).ending ≡ size_at table k
  unfolding rule_at
  ending_size =
      length-take-le (size_at table k) (drop (16 * k + 12 - size_at table k) table)
      (omega (arith, length-drop (16 * k + 12 - size_at table k) table, size_most))

  pub written_size : length (written_at table k) ≡ added_at table k
  unfolding written_at
  written_size =
      length-take-le (added_at table k) (drop (16 * k + 12) table) (omega (arith, length-drop (16 * k + 12) table, added_most))

  -- the ending by its size, up to its last place
  pub ending_read : (n : ℕ) → n ≡ size_at table k
      → take (16 * k + 12 - (16 * k + 12 - n)) (drop (16 * k + 12 - n) table) ≡ (rule_at table k).ending
  unfolding rule_at
  ending_read n is =
      let back : 16 * k + 12 - (16 * k + 12 - size_at table k) ≡ size_at table k = omega (arith, size_most) in
      rw (is, back)

  -- and the replacement by its own
  pub written_read : (n : ℕ) → n ≡ added_at table k → take (16 * k + 12 + n - (16 * k + 12)) (drop (16 * k + 12) table) ≡ written_at table k
  unfolding written_at
  written_read n is = ap (λ (m : ℕ). take m (drop (16 * k + 12) table)) {x = 16 * k + 12 + n - (16 * k + 12)} {y = n} (omega arith) ∙ rw is

-- what is asked of the states of a word that is noted is the rule's condition
pub asks_noted : (table : List ℕ) (k : ℕ) (word states : List ℕ) → Noted word states
    → asks table k word states ≡ applies word (rule_at table k)
unfolding before
asks_noted table k word states noted =
    let part = length word - length (rule_at table k).ending in
    holds_noted_lem (rule_at table k).condition (take part word) states (noted_part word states noted part (omega arith))
