-- `imports::put_end` meets its contract.
use mathlib.Core.Path.{refl}
use Rattle.records.specs.Framing.{two, record_of}
use Rattle.places.specs.Written.{appends_put}
use Rattle.imports.proofs.put_end.Goals as goal

pub returns : goal.returns
unfolding record_of two
returns c = record { appends = rw c.put.ensures (appends_put _ _ _); value = refl }
