-- `answers::judge_by` meets its contract: each way out is one case of what is said of a word.
use borrow.Author.Tests.{eq-eqb, ne_eqb, lt-ltb, le-ltb}
use Rattle.paper.specs.TestLaws.{or_right}
use Rattle.paper.specs.Words.{judged_by}
use Rattle.answers.proofs.judge_by.Goals as goal

pub returns-then-length-eq0 : goal.returns-then-length-eq0
unfolding judged_by
returns-then-length-eq0 c = rw (eq-eqb _ 0 c.if-length-eq0.true)

pub returns-then-length-gt64 : goal.returns-then-length-gt64
unfolding judged_by
returns-then-length-gt64 c = rw (or_right _ _ (lt-ltb 64 _ c.if-length-gt64.true))

pub returns-then-other-length : goal.returns-then-other-length
unfolding judged_by
returns-then-other-length c = rw (ne_eqb _ 0 c.if-length-eq0.false, le-ltb 64 _ c.if-length-gt64.false, lt-ltb _ _ c.if-other-length.true)

pub returns : goal.returns
unfolding judged_by
returns c = rw (ne_eqb _ 0 c.if-length-eq0.false, le-ltb 64 _ c.if-length-gt64.false, le-ltb _ _ c.if-other-length.false)
