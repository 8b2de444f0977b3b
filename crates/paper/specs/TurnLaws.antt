-- One group more, as a loop over the groups goes, whoever says which rule is obeyed in each.
use Rattle.std.specs.Prelude.{ℕ, ◌≤◌, ◌≡◌, Bool, true, false, List, ◌∷◌, leb, length}
use borrow.Author.Tests.{le-leb}
use Rattle.paper.specs.TestLaws.{by_test}
use Rattle.paper.specs.Groups.{runs, Turn, result, opens_next, steps, outgrown, reading, through}

module _ (place : ℕ) {all turns : List Turn} {turn : Turn} (split : all ≡ turn ∷ turns) (opened : Bool) (word : List ℕ) where
  abbrev after : List ℕ
  after = result word (turn.obeys word)

  pub turn_skipped :
      runs turn.gate opened ≡ false → length word ≤ place → through place all opened word ≡ through place turns false word
  unfolding steps reading result opens_next
  turn_skipped closed fits = rw (split, closed, le-leb (length word) place fits)

  module _ (run : runs turn.gate opened ≡ true) where
    pub turn_run :
        leb (length after) place ≡ true
        → through place all opened word ≡ through place turns (opens_next (turn.obeys word)) after
    unfolding steps reading
    turn_run fits = rw (split, run, fits)

    -- a group whose result outgrew the place ends the reading
    pub turn_outgrown : leb (length after) place ≡ false → through place all opened word ≡ outgrown
    unfolding steps reading
    turn_outgrown long = rw (split, run, long)

    pub turn_fits : (through place all opened word ≡ outgrown → ⊥) → leb (length after) place ≡ true
    turn_fits done = by_test (leb (length after) place) (λ fits. fits) (λ long. absurd (done (turn_outgrown long)))
