-- `judging::endings::note` meets its contract: what an ending's path says, and the note at its node.
use Prim.Native.Nat.{◌<◌}
use lib.ListN.{length}
use mathlib.Core.Path.{◌≡◌, sym, ◌∙◌}
use mathlib.Core.Option.{some}
use Rattle.paths.specs.Children.{nodes_in}
use Rattle.walks.specs.Walk.{reached}
use Rattle.paths.specs.FollowLaws.{none_there, node_there}
use Rattle.judging.specs.FollowLaws.{at_node, wider}
use Rattle.judging.specs.NoteLaws.{note_missed, note_first, note_later}
use Rattle.judging.proofs.endings.note.Goals as goal
use Rattle.judging.proofs.endings.note.Goals.{In-Some}

-- the ending leads to a node
there : (c : In-Some)
    → (let a = c.args in
    reached (nodes_in a.table.now) a.root a.ending.now ≡ some c.in-Some.at)
there c = node_there _ _ c.in-Some.ensures

-- and that has its place among the notes
place : (c : In-Some) → c.in-Some.at < length c.args.notes.now
place c = (at_node c.requires.0 _ _ (there c)).low

pub follow-requires : goal.follow-requires
follow-requires c = wider c.requires.0 c.requires.1

pub returns-in_default : goal.returns-in_default
returns-in_default c = let whole = note_missed _ _ _ (none_there _ (sym c.in_default.is ∙ c.follow.ensures)) in
    record { value = whole.0; notes_after = whole.1 }

pub bounds-notes-at : goal.bounds-notes-at
bounds-notes-at c = place (goal.at.bounds-notes-at c).In-Some

pub bounds-notes-at-then-notes-at-eq0 : goal.bounds-notes-at-then-notes-at-eq0
bounds-notes-at-then-notes-at-eq0 c = place (goal.at.bounds-notes-at-then-notes-at-eq0 c).In-Some

pub returns-then-notes-at-eq0 : goal.returns-then-notes-at-eq0
returns-then-notes-at-eq0 c = let whole = note_first _ _ _ _ (there (goal.at.returns-then-notes-at-eq0 c).In-Some) c.if-notes-at-eq0.true in
    record { value = whole.0; notes_after = whole.1 }

pub returns-else-notes-at-eq0 : goal.returns-else-notes-at-eq0
returns-else-notes-at-eq0 c =
    let whole = note_later _ _ _ _ (there (goal.at.returns-else-notes-at-eq0 c).In-Some) c.if-notes-at-eq0.false in
    record { value = whole.0; notes_after = whole.1 }
