-- `groups::choosing::chosen_pair` meets its contract: a rule before the pair ends the word, or the first of the pair that holds is obeyed.
use Prim.Native.Nat.{◌+◌, ◌-◌}
use native.Mathlib.Omega.{arith}
use mathlib.Core.Path.{◌≡◌, sym, ap, ◌∙◌}
use mathlib.Core.Bool.{Bool, false, cond}
use mathlib.Core.List.{List}
use mathlib.Core.Option.{none, some}
use Rattle.paper.specs.Groups.{Rule, obeyed}
use Rattle.paper.specs.ReadingLaws.{applies}
use Rattle.paper.specs.FirstFits.{NoneFits}
use Rattle.paper.specs.Noted.{Noted}
use Rattle.rules.specs.Rows.{rule_at}
use Rattle.groups.specs.Reads.{Paired}
use Rattle.groups.proofs.Endings.{asks_noted}
use Rattle.groups.proofs.Found.{earlier_found, first_of_pair, second_of_pair}
use Rattle.groups.proofs.choosing.chosen_pair.Goals as goal
use Rattle.groups.proofs.choosing.chosen_pair.Goals.{After-allowed, After-allowed-2}

-- two rows or more stand in the table, and no rule before the pair ends the word
module _ (c : After-allowed) where
  none_earlier : NoneFits (rule_at c.args.rules.now) 0 (c.args.to - 2) c.args.word.now
  none_earlier = (rw c.in_default.is at c.fitting.ensures) (omega arith)

  holds_first : {b : Bool} → Noted c.args.word.now c.args.states.now → c.allowed.result ≡ b
      → applies c.args.word.now (rule_at c.args.rules.now (c.args.to - 2)) ≡ b
  holds_first noted is =
      sym (asks_noted c.args.rules.now _ c.args.word.now c.args.states.now noted) ∙ sym c.allowed.ensures ∙ is

pub returns-in-Some : goal.returns-in-Some
returns-in-Some c group noted paired =
    earlier_found _ group c.args.to _ paired c.in-Some.row (rw c.in-Some.is at c.fitting.ensures)

pub returns-then-allowed : goal.returns-then-allowed
returns-then-allowed c group noted paired = let a = (goal.at.returns-then-allowed c).After-allowed in
    first_of_pair _ group c.args.to _ paired (none_earlier a) (holds_first a noted c.if-allowed.true)

-- the first of the pair does not hold
module _
    (c : After-allowed-2)
    (known_none_earlier : NoneFits (rule_at c.args.rules.now) 0 (c.args.to - 2) c.args.word.now)
    (known_first_fails : Noted c.args.word.now c.args.states.now
    → applies c.args.word.now (rule_at c.args.rules.now (c.args.to - 2)) ≡ false) where
  second : {b : Bool} → c.allowed-2.result ≡ b → (group : List Rule) → Noted c.args.word.now c.args.states.now
      → Paired c.args.rules.now group c.args.to c.args.word.now
      → cond b (some (rule_at c.args.rules.now (c.args.to - 2 + 1))) none ≡ obeyed c.args.word.now group
  second is group noted paired =
      ap (λ (b : Bool). cond b (some (rule_at c.args.rules.now (c.args.to - 2 + 1))) none)
      (sym is ∙ c.allowed-2.ensures ∙ asks_noted c.args.rules.now _ c.args.word.now c.args.states.now noted)
      ∙ second_of_pair _ group c.args.to _ paired known_none_earlier (known_first_fails noted)

pub returns-then-allowed-2 : goal.returns-then-allowed-2
returns-then-allowed-2 c group noted paired = let at = goal.at.returns-then-allowed-2 c in
    second at.After-allowed-2 (none_earlier at.After-allowed) (λ n. holds_first at.After-allowed n c.if-allowed.false)
    c.if-allowed-2.true group noted paired

pub returns-else-allowed-2 : goal.returns-else-allowed-2
returns-else-allowed-2 c group noted paired = let at = goal.at.returns-else-allowed-2 c in
    second at.After-allowed-2 (none_earlier at.After-allowed) (λ n. holds_first at.After-allowed n c.if-allowed.false)
    c.if-allowed-2.false group noted paired
