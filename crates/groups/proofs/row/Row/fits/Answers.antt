-- `groups::row::Row::fits` meets its contract.
use mathlib.Core.Path.{ap, ◌∙◌}
use Rattle.paper.specs.Groups.{ends_with}
use Rattle.groups.proofs.Endings.{ending_read}
use Rattle.groups.proofs.row.Row.fits.Goals as goal

pub returns : goal.returns
returns c = let own = c.args.self in
    c.ends_with.ensures ∙ ap (ends_with c.args.word.now) (ending_read own.rules.now own.rule own.stands _ c.size.ensures.value)
