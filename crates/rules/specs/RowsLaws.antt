-- Each constant table holds the rules of its group: every row read back is the rule of its number. One computed test a group.
use Rattle.std.specs.Prelude.{ℕ, zero, suc, ◌+◌, ◌*◌, ◌<◌, ◌≡◌, refl, true, List, [], ◌∷◌, leb, length}
use Rattle.std.proofs.Common.{not-suc-le-zero, le_of_suc-le-suc, arith, sym, ap, ◌∙◌, leb-true}
use Rattle.paper.specs.Letters.{letters}
use Rattle.paper.specs.Groups.{Rule}
use Rattle.paper.specs.FirstFits.{rule_of}
use Rattle.paper.specs.Shipped.{rule, opening, single, group_1a, group_1b, follow_up, group_1c, group_2, group_3, group_4, group_5a}
use Rattle.paper.specs.Shipped.{group_5b}
use Rattle.rules.specs.Rows.{row_of, rows_of, size_at, added_at, written_at, action_at, rule_at, Rows}

-- the table holds these rules
pub record Held (table : List ℕ) (rules : List Rule) : Type 0 where
  pub rows : Rows table (length rules)
  pub same : (k : ℕ) → k < length rules → rule_at table k ≡ rule_of rules k

-- ## By a computed test

-- so many rules of a table, from a number on
rules_from : List ℕ → ℕ → ℕ → List Rule
rules_from table k zero = []
rules_from table k (suc n) = rule_at table k ∷ rules_from table (suc k) n

from_at : (table : List ℕ) (from n k : ℕ) → k < n → rule_of (rules_from table from n) k ≡ rule_at table (from + k)
unfolding rules_from
from_at table from zero k h = absurd (not-suc-le-zero h)
from_at table from (suc n) zero h = ap (rule_at table) (omega arith)
from_at table from (suc n) (suc k) h = from_at table (suc from) n k (le_of_suc-le-suc h) ∙ ap (rule_at table) (omega arith)

held : (table : List ℕ) (rules : List Rule)
    → leb (16 * length rules) (length table) ≡ true
    → rules_from table 0 (length rules) ≡ rules
    → Held table rules
held table rules long read =
    record {
      rows = leb-true _ _ long;
      same = λ k h.
          ap (rule_at table) {x = k} {y = 0 + k} (omega arith)
          ∙ sym (from_at table 0 (length rules) k h)
          ∙ ap (λ (l : List Rule). rule_of l k) read;
    }

-- ## The nine tables

pub held_1a : Held (rows_of group_1a) group_1a
unfolding rules_from rule_at action_at written_at size_at added_at rows_of row_of letters rule group_1a
held_1a = held (rows_of group_1a) group_1a refl refl

pub held_1b : Held (rows_of group_1b) group_1b
unfolding rules_from rule_at action_at written_at size_at added_at rows_of row_of letters rule opening group_1b
held_1b = held (rows_of group_1b) group_1b refl refl

pub held_follow_up : Held (rows_of follow_up) follow_up
unfolding rules_from rule_at action_at written_at size_at added_at rows_of row_of letters rule single follow_up
held_follow_up = held (rows_of follow_up) follow_up refl refl

pub held_1c : Held (rows_of group_1c) group_1c
unfolding rules_from rule_at action_at written_at size_at added_at rows_of row_of letters rule group_1c
held_1c = held (rows_of group_1c) group_1c refl refl

pub held_2 : Held (rows_of group_2) group_2
unfolding rules_from rule_at action_at written_at size_at added_at rows_of row_of letters rule group_2
held_2 = held (rows_of group_2) group_2 refl refl

pub held_3 : Held (rows_of group_3) group_3
unfolding rules_from rule_at action_at written_at size_at added_at rows_of row_of letters rule group_3
held_3 = held (rows_of group_3) group_3 refl refl

pub held_4 : Held (rows_of group_4) group_4
unfolding rules_from rule_at action_at written_at size_at added_at rows_of row_of letters rule group_4
held_4 = held (rows_of group_4) group_4 refl refl

pub held_5a : Held (rows_of group_5a) group_5a
unfolding rules_from rule_at action_at written_at size_at added_at rows_of row_of letters rule group_5a
held_5a = held (rows_of group_5a) group_5a refl refl

pub held_5b : Held (rows_of group_5b) group_5b
unfolding rules_from rule_at action_at written_at size_at added_at rows_of row_of letters single group_5b
held_5b = held (rows_of group_5b) group_5b refl refl
