-- `lunarbugle_stem` meets its contract: the numbers of the outcome are small enough to be packed.
use native.Mathlib.Omega.{arith}
use Prim.Native.Nat.{ℕ}
use mathlib.Core.List.{List}
use Rattle.paper.specs.Shipped.{shipped}
use Rattle.paper.specs.Words.{stem, outcome}
use Rattle.paper.proofs.ShippedLaws.{stem_never_lengthens}
use Rattle.paper.specs.Demand2.{Bounds, outcome_bounds}
use Rattle.lunarbugle.specs.Packed.{packed}
use Rattle.lunarbugle.proofs.lunarbugle_stem.Goals as goal

-- the outcome's numbers are small
small_numbers : (word : List ℕ) → Bounds word (outcome word)
small_numbers word = outcome_bounds (stem shipped) stem_never_lengthens word

pub returns : goal.returns
unfolding packed
returns c =
    let gives = c.stem.ensures in
    let told = c.in_numbers-reply.ensures in
    let bounds = small_numbers c.args.word.now in
    record {
      value = omega (arith, c.pack.ensures, told.value, gives.value_is, told.number, gives.number_is, bounds.value);
      word_after = gives.place_is;
    }
