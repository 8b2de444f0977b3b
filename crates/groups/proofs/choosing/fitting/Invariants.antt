-- `groups::choosing::fitting` meets its contract: at the loop's head none of the rules passed ends the word.
use Rattle.paper.specs.FirstFits.{NoneFits}
use Rattle.rules.specs.Rows.{rule_at}
use Rattle.groups.proofs.choosing.fitting.Given as goal

abbrev pub invariant-loop-rule : goal.invariant-loop-rule
invariant-loop-rule l = NoneFits (rule_at l.rules) l.from l.rule l.word
