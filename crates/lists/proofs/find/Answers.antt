-- `lists::find` meets its contract: a list that is refused holds no word, and in one that is accepted the search finds it.
use Rattle.lists.specs.Searches.{found}
use Rattle.lists.specs.CheckLaws.{by_refused, by_accepted}
use Rattle.lists.proofs.find.Goals as goal

pub returns-in-Ok : goal.returns-in-Ok
unfolding found
returns-in-Ok c = rw (by_accepted _ c.in-Ok.ensures).1 c.search.ensures

pub returns-in-Err : goal.returns-in-Err
unfolding found
returns-in-Err c = rw (by_refused _ c.in-Err.ensures) tt
