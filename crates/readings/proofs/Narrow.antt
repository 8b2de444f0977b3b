-- Why a step need not read all rules of its group, or none: by the last letters of the word. Over any rule list.
use Prim.Native.Nat.{ℕ}
use native.Mathlib.Omega.{arith}
use mathlib.Core.Path.{◌≡◌}
use mathlib.Core.Bool.{true, false}
use mathlib.Core.List.{List}
use mathlib.Core.Option.{none}
use lib.ListN.{length}
use Rattle.paper.specs.Letters.{among, letter_at}
use Rattle.paper.specs.Groups.{Rule, obeyed}
use Rattle.paper.specs.ReadingLaws.{every}
use Rattle.paper.specs.FirstFits.{decides, rule_of, undecided, last_among, other_last, none_yet}
use Rattle.rules.specs.RowsLaws.{Held}
use Rattle.groups.specs.Reads.{Narrowed}
use Rattle.readings.specs.Steps.{Outside}

-- ## The last letter

-- no ending has the word's last letter
pub none_last :
    (word letters : List ℕ) (rules : List Rule)
    → every (last_among letters) rules ≡ true
    → among (letter_at 0 word) letters ≡ false
    → obeyed word rules ≡ none
none_last word letters rules all other = undecided word rules (other_last word letters rules all other)

-- ## A table that holds a group

-- in which the first rule that ends a word decides
pub record Decides (table : List ℕ) (rules : List Rule) (n : ℕ) : Type 0 where
  pub held : Held table rules
  pub one : decides rules ≡ true
  pub size : length rules ≡ n

module _ {table : List ℕ} {rules : List Rule} {n : ℕ} (here : Decides table rules n) {word : List ℕ} where
  pub narrowed : {from to : ℕ} → Outside rules from to n word
      → Narrowed table rules from to word
  narrowed asks =
      record {
        held = here.held;
        decided = here.one;
        known = omega (arith, asks.0, here.size);
        none_earlier = asks.1.0;
        none_later = λ k low high. asks.1.1 k low (omega (arith, here.size));
      }

  -- all of its rules
  pub whole : Narrowed table rules 0 n word
  whole = narrowed (omega arith, (none_yet (rule_of rules) word, λ k low high. absurd (omega arith)))
