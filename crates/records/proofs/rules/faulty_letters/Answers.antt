-- `records::rules::faulty_letters` meets its contract, by what `has_other` ensures.
use Rattle.records.proofs.rules.faulty_letters.Goals as goal

pub returns : goal.returns
returns c = simp (c.has_other-first.ensures, c.has_other-second.ensures)
