-- `tables::runs::Group::walk` meets its contract: what a group leaves, case by case.
use Prim.Native.Nat.{◌+◌}
use lib.ListN.{take}
use Rattle.paths.specs.Children.{nodes_in}
use Rattle.walks.specs.Walk.{walk_group}
use Rattle.sheets.specs.Sheets.{rest_at}
use Rattle.tables.specs.TryLaws.{rules_of}
use Rattle.tables.specs.GroupStepLaws.{step_none, step_turned_down, Obeyed, obeyed}
use Rattle.tables.proofs.runs.Group.walk.Goals as goal
use Rattle.tables.proofs.runs.Group.walk.Goals.{In-Some}

-- a rule was picked, and so it is obeyed
obeyed-of : (c : In-Some)
    → (let a = c.args in
    let group = a.self.now in
    let rule = c.in-Some.rule in
    let rules = rules_of (rest_at group.sheet.now group.at (group.root + 1) group.rules) in
    Obeyed (walk_group (nodes_in group.table.now) group.root (group.rules + 1) (take a.size a.word.now) rules)
    group.sheet.now a.word.now a.size rule.action rule.opens rule.start rule.middle rule.next)
obeyed-of c =
    let group = c.args.self.now in
    obeyed _ _ _ _ _ (rules_of (rest_at group.sheet.now group.at (group.root + 1) group.rules)) _ c.requires c.deepest-found.ensures
    c.if-found-eq0.false _ c.in-Some.rule c.in-Some.ensures

pub returns-then-found-eq0 : goal.returns-then-found-eq0
returns-then-found-eq0 c = let group = c.args.self.now in
    step_none _ _ _ _ _ (rules_of (rest_at group.sheet.now group.at (group.root + 1) group.rules)) _ c.requires c.deepest-found.ensures
    c.if-found-eq0.true

pub returns-in_default : goal.returns-in_default
returns-in_default c = let group = c.args.self.now in
    step_turned_down _ _ _ _ _ (rules_of (rest_at group.sheet.now group.at (group.root + 1) group.rules)) _ c.requires
    c.deepest-found.ensures c.if-found-eq0.false c.in_default.ensures

pub returns-then-rule-ne0 : goal.returns-then-rule-ne0
returns-then-rule-ne0 c = rw (c.saturating_sub-size.ensures, c.saturating_sub-part.ensures)
    ((obeyed-of (goal.at.returns-then-rule-ne0 c).In-Some).single c.if-rule-ne0.true)

pub returns-then-word-part : goal.returns-then-word-part
returns-then-word-part c = let room = rw c.saturating_sub-part.ensures at c.if-word-part.true in
    (obeyed-of (goal.at.returns-then-word-part c).In-Some).outgrown c.if-rule-ne0.false room

pub returns : goal.returns
returns c = let part = c.saturating_sub-part.ensures in
    let room = rw part at c.if-word-part.false in
    let stored = rw part at c.put.ensures in
    rw part ((obeyed-of (goal.at.returns c).In-Some).replaced _ c.if-rule-ne0.false room stored)
