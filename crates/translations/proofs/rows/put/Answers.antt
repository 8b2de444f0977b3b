-- `translations::rows::put` meets its contract: a store, or nothing beyond the table's end.
use mathlib.Core.Path.{sym}
use lib.Seq.{set_out}
use Rattle.translations.proofs.rows.put.Goals as goal

pub returns-else-place-list : goal.returns-else-place-list
returns-else-place-list c = sym (set_out c.args.list.now c.args.place c.args.number c.if-place-list.false)
