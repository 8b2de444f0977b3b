-- `groups::row::Row::allowed` meets its contract.
use mathlib.Core.Path.{sym, ap, ◌∙◌}
use Prim.Native.Nat.{ℕ, ◌-◌, ◌*◌}
use lib.ListN.{length, take, get_or}
use Rattle.paper.specs.Groups.{before}
use Rattle.paper.specs.Noted.{holds_noted}
use Rattle.rules.specs.Rows.{rule_at}
use Rattle.groups.proofs.Endings.{ending_size}
use Rattle.groups.proofs.row.Row.allowed.Goals as goal

pub returns : goal.returns
unfolding rule_at before
returns c = let a = c.args in
    let table = a.self.rules.now in
    let part = c.saturating_sub-part.ensures
    ∙ ap (λ (n : ℕ). length a.word.now - n) (c.size.ensures.value ∙ sym (ending_size table a.self.rule a.self.stands)) in
    c.holds_by.ensures
    ∙ ap (λ (n : ℕ). holds_noted (get_or table (16 * a.self.rule) 0) (take n a.word.now) a.states.now) part
