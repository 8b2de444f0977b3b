-- `imports::put_group` meets its contract.
use mathlib.Core.Path.{refl}
use Rattle.places.specs.Written.{appends_put}
use Rattle.imports.specs.RuleRecords.{group_bytes}
use Rattle.imports.proofs.put_group.Goals as goal

pub returns : goal.returns
returns c = record { appends = rw (group_bytes c.args.gate c.requires.1) (rw c.put.ensures (appends_put _ _ _)); value = rw (group_bytes c.args.gate c.requires.1) refl }
