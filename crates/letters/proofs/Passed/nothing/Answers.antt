-- `letters::Passed::nothing` meets its contract: of no letters there is nothing.
use mathlib.Core.Path.{refl}
use Rattle.paper.specs.Letters.{inward, class_of, rises}
use Rattle.paper.specs.States.{state, state_in}
use Rattle.letters.proofs.Passed.nothing.Goals as goal

pub returns : goal.returns
unfolding state state_in rises inward class_of
returns c = (refl, record { state = refl; before = refl; earlier = refl; consonant = refl })
