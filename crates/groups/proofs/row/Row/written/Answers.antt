-- `groups::row::Row::written` meets its contract.
use Rattle.groups.proofs.Endings.{written_read}
use Rattle.groups.proofs.row.Row.written.Goals as goal

pub returns : goal.returns
returns c = let own = c.args.self in
    written_read own.rules.now own.rule own.stands _ c.added.ensures.value
