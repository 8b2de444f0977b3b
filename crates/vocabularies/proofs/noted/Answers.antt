-- `vocabularies::noted` meets its contract: a word that is taken has room in the space.
use Rattle.std.proofs.Common.{sym, ◌∙◌, length-take-le}
use Rattle.paper.specs.WordsLaws.{taken_short}
use Rattle.vocabularies.specs.StemLaws.{noted_before, noted_now}
use Rattle.vocabularies.proofs.noted.Goals as goal

pub returns-then-is_some : goal.returns-then-is_some
returns-then-is_some c = noted_before _ _ _ (sym c.is_some.ensures ∙ c.if-is_some.true)

pub slice_bounds-space-end : goal.slice_bounds-space-end
slice_bounds-space-end c = taken_short _ (sym c.requires)

pub slice_bounds-differs-end : goal.slice_bounds-differs-end
slice_bounds-differs-end c = sym (length-take-le _ _ (taken_short _ (sym c.requires)))

pub differs-requires-clause-place_len : goal.differs-requires-clause-place_len
differs-requires-clause-place_len c = length-take-le _ _ (taken_short _ (sym c.requires))

pub returns : goal.returns
returns c = rw (c.then_some.ensures, c.differs.ensures) (noted_now _ _ _ (sym c.is_some.ensures ∙ c.if-is_some.false))
