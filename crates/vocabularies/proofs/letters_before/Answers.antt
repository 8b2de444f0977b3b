-- `vocabularies::letters_before` meets its contract, by the place of the first byte that is no small letter.
use Rattle.std.proofs.Common.{sym, arith}
use Rattle.vocabularies.specs.ReadingLaws.{too_many, none_behind, close_behind, other_behind}
use Rattle.vocabularies.proofs.letters_before.Goals as goal
use Rattle.vocabularies.proofs.letters_before.Goals.{
  else-count-le-MOST-via-then-count-le-MOST+then-count-rest+else-rest-count as other,
  else-count-le-MOST-via-then-count-le-MOST+else-count-rest as at_the_end,
  else-count-le-MOST-via-else-count-le-MOST as long,
}

pub returns-then-rest-count : goal.returns-then-rest-count
returns-then-rest-count c =
    let found = c.first_other-count.ensures in
    rw found
    (sym (close_behind _ _ (omega (arith, found)) (omega (arith, found, c.if-count-le-MOST.true)) (rw found at c.if-rest-count.true)))

pub returns : goal.returns
returns c =
    let found = c.first_other-count.ensures in
    elim c.else-count-le-MOST.branch [
      | other w ↦ sym (other_behind _ _ (omega (arith, found, w.if-count-rest.true)) (rw found at w.if-rest-count.false))
      | at_the_end w ↦ sym (none_behind _ _ (omega (arith, found, w.if-count-rest.false)))
      | long w ↦ sym (too_many _ _ (omega (arith, found, w.if-count-le-MOST.false)))
    ]
