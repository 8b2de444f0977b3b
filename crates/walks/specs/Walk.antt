-- Document 01, "Walking": what nodes answer for a word, whatever the layout that tells their children. Only single letters are
-- compared, where a layout tells the child of a letter.
use Rattle.std.specs.Prelude.{ℕ, suc, ◌+◌, ◌-◌, false, cond, List, [], ◌∷◌, eqb, length, drop}
use Rattle.std.proofs.Math.Option.{Option, none, some}
use Rattle.paper.specs.Letters.{inward}
use Rattle.paper.specs.Conditions.{holds}
use Rattle.paper.specs.Groups.{Rule, Group, before, which, first, Turn, Step, step_of, Reading, through}

-- what a layout tells of a node: "a child of that letter", and the "first rule"; 0 for none
pub record Nodes : Type 0 where
  pub child : ℕ → ℕ → ℕ
  pub rule : ℕ → ℕ

-- "from the root, follow the word's letters from the last inward while a child of that letter exists; the deepest node
-- passed that holds a rule": the rule that it holds, 0 where none does
unfoldable pub deepest : Nodes → ℕ → List ℕ → ℕ
deepest nodes at [] = nodes.rule at
deepest nodes at (one ∷ inner) =
    let next = nodes.child at one in
    let deeper = cond (eqb next 0) 0 (deepest nodes next inner) in
    cond (eqb deeper 0) (nodes.rule at) deeper

-- the node to which a tail's letters lead from the root, the last letter first, if there is such a path
unfoldable pub onward : Nodes → ℕ → Option ℕ → Option ℕ
onward nodes one none = none
onward nodes one (some at) = let next = nodes.child at one in cond (eqb next 0) none (some next)

unfoldable pub reached : Nodes → ℕ → List ℕ → Option ℕ
reached nodes root [] = some root
reached nodes root (one ∷ parent) = onward nodes one (reached nodes root parent)

-- the first rule that the node holds; 0 for none, and where there is no node
unfoldable pub held : Nodes → Option ℕ → ℕ
held nodes none = 0
held nodes (some at) = nodes.rule at

-- "The deepest node passed that holds a rule gives S1. Its condition, and those of later rules of the group with the same
-- S1, are tried as above." A rule has the same S1 exactly if its own letters lead from the root to the node that holds
-- the same first rule, so no ending is compared with another. The group's rules are counted from `number`.
unfoldable pub walked : Nodes → ℕ → ℕ → List ℕ → List Rule → Option Rule
walked nodes root number word rules =
    let found = deepest nodes root (inward word) in
    let candidates = which (λ rule. eqb found (held nodes (reached nodes root rule.ending))) (drop (found - number) rules) in
    let tried = first (λ rule. holds rule.condition (before word rule.ending)) candidates in
    cond (eqb found 0) none tried

-- what a group leaves, its root being node `root` and its rules being counted from `number`
abbrev pub walk_group : Nodes → ℕ → ℕ → List ℕ → List Rule → Step
walk_group nodes root number word rules = step_of word (walked nodes root number word rules)

-- the groups as they are walked, in their order: the roots are counted from `root`, the rules from `number`
unfoldable pub walk_turns : Nodes → ℕ → ℕ → List Group → List Turn
walk_turns nodes root number [] = []
walk_turns nodes root number (group ∷ groups) =
    record { gate = group.gate; obeys = λ word. walked nodes root number word group.rules }
    ∷ walk_turns nodes (suc root) (number + length group.rules) groups

-- a word walked through the nodes of these groups, in its own place: the roots are nodes 0, 1, .. and rules count from 1
unfoldable pub walk_word : Nodes → List Group → List ℕ → Reading
walk_word nodes groups word = through (length word) (walk_turns nodes 0 1 groups) false word
