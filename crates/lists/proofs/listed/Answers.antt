-- `lists::listed` meets its contract: a stem is found exactly for a listed word.
use Rattle.std.proofs.Common.{ℕ, ◌≡◌, List, Option, Some, None, sym, ap, ◌∙◌}
use Rattle.std.specs.Borrow.{Bor}
use Rattle.std.specs.Option.{is_some as lent}
use Rattle.lists.specs.Calls.{is_some, is_listed}
use Rattle.lists.specs.Searches.{LentFrom, found}
use Rattle.lists.specs.SearchLaws.{told, lent_stem, nothing_lent}
use Rattle.lists.proofs.listed.Goals as goal

by_lent : (list : Bor (List ℕ)) (word : List ℕ) (part : Option (Bor (List ℕ))) → LentFrom list (found list.now word) part
    → lent part ≡ is_listed list.now word
unfolding is_listed
by_lent list word (Some part) is = sym (ap is_some (lent_stem list _ _ part is (told list.now word).0))
by_lent list word None is = sym (ap is_some (nothing_lent list _ _ is (told list.now word).0))

pub returns : goal.returns
returns c = c.is_some.ensures ∙ by_lent c.args.list c.args.word.now c.find.result c.find.ensures
