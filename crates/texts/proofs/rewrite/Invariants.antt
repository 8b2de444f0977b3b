-- `texts::rewrite` meets its contract. The loop's invariant: what is done before `at` and the text run of what stands behind it
-- are together the text run of the whole text.
use Prim.Native.Nat.{◌+◌, ◌-◌, ◌≤◌}
use mathlib.Core.Path.{◌≡◌}
use lib.ListN.{length}
use Rattle.texts.specs.ListedTexts.{rule_with}
use Rattle.texts.specs.Texts.{run_text}
use Rattle.texts.proofs.Turn.{whole}
use Rattle.texts.proofs.rewrite.Given as goal

abbrev pub invariant-loop-at : goal.invariant-loop-at
invariant-loop-at l = (l.at ≤ length l.text)
    × (length l.text ≡ length l.initial.text)
    × (l.stemmed + l.left ≤ l.at)
    × (whole (rule_with l.list) l.text l.at l.stemmed l.left ≡ run_text (rule_with l.list) l.initial.text)

abbrev pub decreases-loop-at : goal.decreases-loop-at
decreases-loop-at l = length l.initial.text - l.at
