-- `lists::go_on` meets its contract: bytes begin with letters where the first few of these stand first, and the others behind them.
use Rattle.std.proofs.Common.{◌∙◌, sym, arith}
use Rattle.paper.specs.ListLaws.{to_the_end}
use Rattle.lists.specs.EntryLaws.{begins_short, begins_otherwise, begins_so, begins_whole}
use Rattle.lists.proofs.go_on.Goals as goal

pub returns-then-bytes-others : goal.returns-then-bytes-others
returns-then-bytes-others c = begins_short c.args.bytes.now c.args.others.now (omega arith)

pub returns-then-others-le-FEW : goal.returns-then-others-le-FEW
returns-then-others-le-FEW c = c.ends_with.ensures ∙ begins_whole c.args.bytes.now c.args.others.now (omega arith)

pub returns-then-so_far : goal.returns-then-so_far
returns-then-so_far c =
    (rw (to_the_end c.args.bytes.now 24, to_the_end c.args.others.now 24) at c.starts_with.ensures.value)
    ∙ begins_so c.args.bytes.now c.args.others.now 24 (omega arith) (omega arith) (sym c.ends_with-so_far.ensures ∙ c.if-so_far.true)

pub returns-else-so_far : goal.returns-else-so_far
returns-else-so_far c =
    let other = sym c.ends_with-so_far.ensures ∙ c.if-so_far.false in
    c.if-so_far.false ∙ begins_otherwise c.args.bytes.now c.args.others.now 24 (omega arith) (omega arith) other
