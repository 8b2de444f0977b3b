-- `vocabularies::differs` meets its contract: the word is stemmed in the place, and what then stands first is held against the stem given.
use Rattle.std.proofs.Common.{◌∙◌, arith, length-take}
use Rattle.vocabularies.specs.StemLaws.{Left, left_by, by_letters, never_refused}
use Rattle.vocabularies.proofs.differs.Goals as goal
use Rattle.vocabularies.proofs.differs.Goals.{In-Ok}

-- the place holds the word, and then its stem
left : (c : In-Ok) → Left c.args.word.now c.in-Ok.length c.stem.new.word
left c =
    left_by _ c.requires.word_value (rw c.copy_from_slice.ensures.after at c.in-Ok.ensures)

pub slice_bounds-ne-end : goal.slice_bounds-ne-end
slice_bounds-ne-end c =
    omega (arith, (left (goal.at.slice_bounds-ne-end c).In-Ok).value_is, length-take c.in-Ok.length c.stem.new.word)

pub slice_bounds-ne-end-in-Ok : goal.slice_bounds-ne-end-in-Ok
slice_bounds-ne-end-in-Ok c = (left (goal.at.slice_bounds-ne-end-in-Ok c).In-Ok).value_is

pub returns-in-Ok : goal.returns-in-Ok
returns-in-Ok c = c.ne.ensures ∙ by_letters _ (left (goal.at.returns-in-Ok c).In-Ok) _

pub returns-in-Err : goal.returns-in-Err
returns-in-Err c =
    absurd (never_refused _ c.in-Err.field-0 c.requires.word_value (rw c.copy_from_slice.ensures.after at c.in-Err.ensures))
