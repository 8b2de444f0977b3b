-- `lunarbugle_stem_listed` meets its contract: the value is cut to what can be packed.
use mathlib.Core.Path.{refl, ◌∙◌}
use Rattle.lunarbugle.specs.Packed.{packed_listed}
use Rattle.lunarbugle.proofs.lunarbugle_stem_listed.Goals as goal

pub returns : goal.returns
unfolding packed_listed
returns c =
    let gives = c.stem.ensures in
    let told = c.in_numbers-reply.ensures in
    record {
      value = c.pack.ensures ∙ rw (told.number ∙ gives.number_is, told.value ∙ gives.value_is) refl;
      word_after = gives.place_is;
    }
