-- `lines::line` meets its contract.
use mathlib.Core.Path.{sym, ◌∙◌}
use Rattle.std.specs.Prelude.{Some}
use Rattle.lines.specs.Reading.{found_in}
use Rattle.lines.specs.PartLaws.{inside, head-found}
use Rattle.lines.specs.declared.parts.Head.TheVariants.{Condition}
use Rattle.lines.proofs.line.Goals as goal

pub returns-in_err-gate : goal.returns-in_err-gate
unfolding found_in
returns-in_err-gate c = rw (sym c.read_head.ensures ∙ c.in_err-gate.was, c.from_residual.ensures)

pub rule-requires : goal.rule-requires
rule-requires c =
    let head = Some (Condition c.in-Condition.number c.in-Condition.taken) in
    inside (head-found c.args.rest.now head (sym c.read_head.ensures ∙ (c.in_ok-gate.was ∙ rw c.in-Condition.is))).spells

pub returns-in-Group : goal.returns-in-Group
unfolding found_in
returns-in-Group c = rw (sym c.read_head.ensures ∙ c.in_ok-gate.was, c.in-Group.is)

pub returns-in-Condition : goal.returns-in-Condition
unfolding found_in
returns-in-Condition c = rw (sym c.read_head.ensures ∙ c.in_ok-gate.was, c.in-Condition.is) c.rule.ensures
