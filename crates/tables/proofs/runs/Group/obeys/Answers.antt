-- `tables::runs::Group::obeys` meets its contract: the tests, one by one.
use mathlib.Core.Path.{◌∙◌}
use Rattle.paths.specs.Children.{nodes_in}
use Rattle.tables.specs.TryLaws.{both_tested, one_tested, obeys_tried, obeys_other}
use Rattle.tables.proofs.runs.Group.obeys.Goals as goal
use Rattle.tables.proofs.runs.Group.obeys.Goals.{then-found-number, else-found-number}

pub returns-then-found-held_at : goal.returns-then-found-held_at
returns-then-found-held_at c = let a = c.args in
    let group = a.self.now in
    obeys_tried (nodes_in group.table.now) group.root a.found a.word.now a.number a.condition a.ending.now
    (elim c.if-found-number.branch [
      | then-found-number w ↦ both_tested _ _ _ w.if-found-number.true (w.value-is ∙ rw w.held_at.ensures)
      | else-found-number w ↦ one_tested _ _ _ w.if-found-number.false w.value-is
    ])
    c.if-found-held_at.true c.saturating_sub-part.ensures c.holds.ensures

pub returns-else-found-held_at : goal.returns-else-found-held_at
returns-else-found-held_at c = let a = c.args in
    let group = a.self.now in
    obeys_other (nodes_in group.table.now) group.root a.found a.word.now a.number a.condition a.ending.now
    (elim c.if-found-number.branch [
      | then-found-number w ↦ both_tested _ _ _ w.if-found-number.true (w.value-is ∙ rw w.held_at.ensures)
      | else-found-number w ↦ one_tested _ _ _ w.if-found-number.false w.value-is
    ])
    c.if-found-held_at.false
