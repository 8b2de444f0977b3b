-- `lists::is_for` meets its contract: a body that does not fit the word is for another one, and of one that fits the letters decide.
use Rattle.std.proofs.Common.{sym, ◌∙◌, arith}
use borrow.Author.Tests.{eqb-true}
use Rattle.paper.specs.ListLaws.{to_the_end}
use Rattle.lists.specs.EntryLaws.{not_fitting, other_letters, by_room}
use Rattle.lists.proofs.is_for.Goals as goal
use Rattle.lists.proofs.is_for.Goals.{then-from-word, else-from-word}

pub returns-in_default : goal.returns-in_default
returns-in_default c = not_fitting _ _ (λ is. omega (arith, is.long, c.in_default.len_below))

pub returns-then-begin : goal.returns-then-begin
returns-then-begin c =
    let body = c.args.body.now in
    let letters = to_the_end body 1 in
    let size = sym c.from.ensures in
    elim c.if-from-word.branch [
      | then-from-word w ↦
          rw letters
          (by_room body _ (size ∙ w.if-from-word.true) c.in-len1-up.len_at_least
          (rw letters at (sym w.begin.ensures ∙ sym w.value-is ∙ c.if-begin.true)))
      | else-from-word w ↦ absurd (w.if-from-word.false (eqb-true _ _ (sym w.value-is ∙ c.if-begin.true)))
    ]

pub returns-else-begin : goal.returns-else-begin
returns-else-begin c =
    let body = c.args.body.now in
    let letters = to_the_end body 1 in
    let size = sym c.from.ensures in
    c.if-begin.false
    ∙ elim c.if-from-word.branch [
      | then-from-word w ↦
          other_letters body _ (size ∙ w.if-from-word.true)
          (rw letters at (sym w.begin.ensures ∙ sym w.value-is ∙ c.if-begin.false))
      | else-from-word w ↦ not_fitting _ _ (λ is. w.if-from-word.false (c.from.ensures ∙ is.size))
    ]
