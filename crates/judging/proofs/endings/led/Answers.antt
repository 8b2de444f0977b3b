-- `judging::endings::led` meets its contract: all rules are noted, and the nodes hold what is noted.
use Rattle.std.proofs.Common.{ℕ, replicate, arith}
use Rattle.std.proofs.lemmas.List.{get_or-replicate, length-replicate}
use Rattle.judging.specs.Notes.{Blank}
use Rattle.judging.proofs.endings.led.Goals as goal

-- at first nothing is noted
blank : (size : ℕ) → Blank (replicate size 0)
blank size i h = get_or-replicate size i 0 0 (omega (arith, h, length-replicate {A = ℕ} size 0))

pub note_all-requires : goal.note_all-requires
note_all-requires c = let pre = c.requires in
    (rw (← pre.0) (record { nodes = _; forest = pre.1.0; few = pre.1.1 }), (omega arith, blank 1552))
