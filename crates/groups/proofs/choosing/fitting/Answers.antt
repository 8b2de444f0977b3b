use Prim.Native.Nat.{ℕ, ◌+◌, ◌<◌}
use native.Mathlib.Omega.{arith}
use native.Mathlib.Decide.{dec_lt}
use mathlib.Core.Path.{◌≡◌, refl, sym, ap, ◌∙◌}
use mathlib.Core.Bool.{false}
use mathlib.Core.List.{List}
use Rattle.paper.specs.Groups.{Rule, ends_with}
use Rattle.paper.specs.FirstFits.{NoneFits}
use Rattle.rules.specs.Rows.{rule_at}
use Rattle.groups.proofs.choosing.fitting.Goals as goal

none_next : (word : List ℕ) (at : ℕ → Rule) (from rule : ℕ) → NoneFits at from rule word → ends_with word (at rule).ending ≡ false
    → NoneFits at from (rule + 1) word
none_next word at from rule misses here k low high = go (dec_lt k rule)
  where
    go : Dec (k < rule) → ends_with word (at k).ending ≡ false
    go (yes earlier) = misses k low earlier
    go (no last) = ap (λ (j : ℕ). ends_with word (at j).ending) (omega arith) ∙ here

pub returns-then-fits : goal.returns-then-fits
returns-then-fits c stands = let at = c.loop-rule in
    record {
      is_of = refl;
      within = omega arith;
      none_before = at.invariant;
      ends = sym c.fits.ensures ∙ c.if-fits.true;
    }

pub loop-rule-preserved : goal.loop-rule-preserved
loop-rule-preserved c = let at = c.loop-rule in
    none_next c.args.word.now (rule_at c.args.rules.now) c.args.from at.rule at.invariant (sym c.fits.ensures ∙ c.if-fits.false)

pub returns : goal.returns
returns c stands k low high = c.loop-rule.invariant k low (omega arith)
