-- `imports::faulty_body` meets its contract.
use mathlib.Core.Path.{sym}
use Rattle.imports.specs.RuleRecords.{body_fault}
use Rattle.imports.proofs.faulty_body.Goals as goal

pub returns : goal.returns
returns c = rw c.faulty_action-unfit.ensures (sym (body_fault c.args.rest.now c.args.rule c.requires))
