-- `lists::lookup` meets its contract: what is found is the listed stem, at its place in the list; where nothing is, the word is handed
-- back.
use Rattle.std.proofs.Common.{refl, sym, subst}
use Rattle.lists.specs.Calls.{Answers}
use Rattle.lists.specs.SearchLaws.{told, lent_stem, lent_at, nothing_lent}
use Rattle.lists.proofs.lookup.Goals as goal

pub returns-in-Some : goal.returns-in-Some
returns-in-Some c =
    let is = told c.args.list.now c.args.word.now in
    subst (Answers c.args.list c.args.word _) (sym (lent_stem c.args.list _ _ _ c.in-Some.ensures is.0))
    (refl, lent_at c.args.list _ _ _ c.in-Some.ensures is.1)

pub returns-in-None : goal.returns-in-None
returns-in-None c =
    let args = c.args in
    let is = told args.list.now args.word.now in
    subst (Answers args.list args.word _) (sym (nothing_lent args.list _ _ c.in-None.ensures is.0)) refl
