-- `lunarbugle_vocabulary` meets its contract: the line's number is cut to what can be packed.
use mathlib.Core.Path.{refl, ◌∙◌}
use Rattle.answers.specs.Answers.{says_vocabulary}
use Rattle.lunarbugle.specs.Packed.{packed_said}
use Rattle.lunarbugle.proofs.lunarbugle_vocabulary.Goals as goal

pub returns : goal.returns
unfolding packed_said
returns c = let check = c.check in
    let told = c.in_numbers-reply.ensures in
    record { answer = says_vocabulary check.result; checks = check.ensures; packs = c.pack.ensures ∙ rw (told.number, told.value) refl }
