-- `tables::word_runs::word_run` meets its contract: a word that is not taken is as it came; of one that is, what the walk left
-- stands first in its place, or the word stands there again.
use mathlib.Core.Path.{sym, ap, ◌∙◌}
use native.Mathlib.Omega.{arith}
use lib.ListN.{length}
use lib.Seq.{length-take-le}
use Rattle.std.proofs.Common.{take_at}
use Rattle.std.proofs.lemmas.Result.{err_from_is_err_and}
use Rattle.paper.specs.WordsLaws.{taken_short, gives_refused, gives_outgrown, gives_done}
use Rattle.tables.proofs.word_runs.word_run.Goals as goal

pub returns-in_err-judge : goal.returns-in_err-judge
returns-in_err-judge c =
    let p = err_from_is_err_and c.from_residual.result c.from_residual.ensures.1 in
    rw (p.1, p.2) (gives_refused _ _ c.in_err-judge.ensures)

pub slice_bounds-saved-end : goal.slice_bounds-saved-end
slice_bounds-saved-end c = omega (arith, taken_short _ c.in_ok-judge.ensures)

pub slice_bounds-copy_from_slice-end : goal.slice_bounds-copy_from_slice-end
slice_bounds-copy_from_slice-end c = sym (length-take-le _ _ (omega (arith, taken_short _ c.in_ok-judge.ensures)))

pub copy_from_slice-requires : goal.copy_from_slice-requires
copy_from_slice-requires c = length-take-le _ _ (omega (arith, taken_short _ c.in_ok-judge.ensures))

pub returns-in_default : goal.returns-in_default
returns-in_default c = let is-taken = c.in_ok-judge.ensures in
    let saved = c.copy_from_slice.ensures.after in
    gives_outgrown _ _ is-taken (sym c.in_default.ensures)
    (c.copy_from_slice-in_default.ensures.after ∙ (take_at _ _ _ (ap length saved) ∙ saved))

pub returns : goal.returns
returns c = let left = c.in-Some.ensures in
    gives_done _ _ c.in_ok-judge.ensures _ _ _ (sym left.0) left.1 c.walk_groups.auto.word c.fill.ensures
