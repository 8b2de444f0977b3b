-- What holds of the shipped rules because none of them, nor two one after the other, lengthens a word past its place: a test over
-- the list, computed once.
use Rattle.std.specs.Prelude.{◌≡◌, refl, true}
use Rattle.paper.specs.Shipped.{shipped}
use Rattle.paper.specs.ReadingLaws.{every}
use Rattle.paper.specs.Words.{read_word, stem}
use Rattle.paper.specs.LengthLaws.{tame_rule, tame, Stems, NeverLengthens, never_lengthens, tame_reads, tame_stems}

shipped_tame : tame shipped ≡ true
unfolding tame every tame_rule shipped
shipped_tame = refl

-- what they leave of a word fits its place
pub read_done : Stems (read_word shipped)
read_done = tame_reads shipped shipped_tame

-- every word has a stem that fits its place: refusal 4 never comes of the shipped rules
pub stem_done : Stems (stem shipped)
stem_done = tame_stems shipped shipped_tame

pub stem_never_lengthens : NeverLengthens (stem shipped)
stem_never_lengthens = never_lengthens (stem shipped) stem_done
