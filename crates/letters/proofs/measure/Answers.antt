-- `letters::measure` meets its contract: the measure is half of the state.
use Rattle.paper.specs.States.{measure_by_state}
use Rattle.letters.proofs.measure.Goals as goal

pub returns : goal.returns
returns c = rw (measure_by_state, c.scan-s.ensures.state)
