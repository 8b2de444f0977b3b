-- `judging::judge` meets its contract: the sheet is read, the table's shape is seen, and the rules' endings are followed through it.
use Prim.Native.Nat.{◌≤◌}
use mathlib.Core.Path.{◌∙◌}
use lib.ListN.{length}
use Rattle.std.proofs.lemmas.Result.{err_from_is_err_and}
use Rattle.sheets.specs.Accepted.{groups_of}
use Rattle.forests.specs.Forest.{Forest}
use Rattle.forests.specs.TotalLaws.{forest_front}
use Rattle.judging.specs.JudgementLaws.{judged_refused, judged_shapeless, judged-right, judged_other}
use Rattle.judging.proofs.judge.Goals as goal
use Rattle.judging.proofs.judge.Goals.{In_ok-nodes}

-- the table is a forest of so many nodes, with as many roots as the sheet has groups
forest-of : (c : In_ok-nodes)
    → (let a = c.args in
    let nodes = c.in_ok-nodes.nodes in
    Forest a.table.now (length (groups_of a.sheet.now)) nodes × (nodes ≤ 1552))
forest-of c = rw (c.in_ok-nodes.ensures.ok_part, c.in_ok-groups.ensures.1) at c.shape_of.ensures

pub returns-in_err-groups : goal.returns-in_err-groups
returns-in_err-groups c =
    let p = err_from_is_err_and c.from_residual.result c.from_residual.ensures.1 in
    rw (p.1, p.2) (judged_refused _ _ _ c.in_err-groups.ensures)

pub returns-in_err-nodes : goal.returns-in_err-nodes
returns-in_err-nodes c =
    let p = err_from_is_err_and c.from_residual-in_err-nodes.result c.from_residual-in_err-nodes.ensures.1 in
    let none = c.in_err-nodes.ensures.ok_part in
    let shapeless = rw (none, c.in_ok-groups.ensures.1) at c.shape_of.ensures in
    rw (p.1, p.2) (rw none at c.in_err-nodes.ensures.value ∙ judged_shapeless _ _ c.in_ok-groups.ensures.0 shapeless)

pub led-requires : goal.led-requires
led-requires c = let groups = c.in_ok-groups.ensures.1 in
    let forest = forest-of (goal.at.led-requires c).In_ok-nodes in
    (groups, (rw groups (forest_front _ _ forest.0), forest.1))

pub returns-then-not-led : goal.returns-then-not-led
returns-then-not-led c =
    let not-led = rw c.in_ok-groups.ensures.1 at c.if-not-led.ensures in
    judged_other _ _ c.in_ok-groups.ensures.0 _ (forest-of (goal.at.returns-then-not-led c).In_ok-nodes).0 not-led

pub returns : goal.returns
returns c =
    let led = rw c.in_ok-groups.ensures.1 at c.if-not-led.ensures in
    judged-right _ _ c.in_ok-groups.ensures.0 _ (forest-of (goal.at.returns c).In_ok-nodes).0 led
