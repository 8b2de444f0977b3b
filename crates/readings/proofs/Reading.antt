-- What the nine groups leave one after the other is what the shipped rules leave, and nothing of it outgrows the word's place.
use Prim.Native.Nat.{ℕ, ◌≤◌}
use mathlib.Core.Path.{◌≡◌, refl, sym, ap, ◌∙◌}
use mathlib.Core.Bool.{Bool, true, false}
use mathlib.Core.List.{List, [], ◌∷◌, map}
use lib.ListN.{length}
use borrow.Author.Tests.{leb-true}
use Rattle.paper.specs.TestLaws.{by_test, apart}
use Rattle.paper.specs.Groups.{Rule, Gate, always, if_opened, runs, Turn, read_turn, obeyed, opens_next, done, outgrown, steps}
use Rattle.paper.specs.Groups.{reading, through}
use Rattle.paper.specs.Shipped.{group_1a, group_1b, follow_up, group_1c, group_2, group_3, group_4, group_5a, group_5b, shipped}
use Rattle.paper.specs.TurnLaws.{turn_skipped, turn_run, turn_fits}
use Rattle.paper.proofs.ShippedLaws.{read_done}
use Rattle.paper.specs.Words.{read_word}
use Rattle.groups.specs.Reads.{leaves}
use Rattle.readings.specs.Steps.{leaves_opened}

abbrev turn_of : Gate → List Rule → Turn
turn_of gate rules = read_turn (record { gate = gate; rules = rules })

-- what is still to be read gives these letters
record Gives (place : ℕ) (left : List ℕ) (turns : List Turn) (opened : Bool) (word : List ℕ) : Type 0 where
  is : through place turns opened word ≡ done left

-- one group more
module _ {place : ℕ} {left : List ℕ} where
  on : (rules : List Rule) {gate : Gate} {turns : List Turn} {opened : Bool} {word : List ℕ}
      → runs gate opened ≡ true
      → Gives place left (turn_of gate rules ∷ turns) opened word
      → (length (leaves rules word) ≤ place) × Gives place left turns (opens_next (obeyed word rules)) (leaves rules word)
  unfolding leaves
  on rules {gate} {turns} {opened} {word} run gives =
      let turn = turn_of gate rules in
      let fits = turn_fits place {turns = turns} {turn = turn} refl opened word run
      (λ out. let clash : done left ≡ outgrown = sym gives.is ∙ out in apart (cc)) in
      (leb-true _ _ fits, record { is = sym (turn_run place {turns = turns} {turn = turn} refl opened word run fits) ∙ gives.is })

  -- a group that the one before may open, and the group behind it
  on_opened : (rules next behind : List Rule) (word : List ℕ) {turns : List Turn}
      → length (leaves rules word) ≤ place
      → Gives place left (turn_of if_opened next ∷ turn_of always behind ∷ turns) (opens_next (obeyed word rules)) (leaves rules word)
      → (length (leaves_opened rules next word) ≤ place)
      × ((length (leaves behind (leaves_opened rules next word)) ≤ place)
      × Gives place left turns (opens_next (obeyed (leaves_opened rules next word) behind)) (leaves behind (leaves_opened rules next word)))
  unfolding leaves_opened
  on_opened rules next behind word {turns} short gives =
      by_test (opens_next (obeyed word rules))
      (λ opens.
      let one = on next opens gives in
      let two = on behind {gate = always} refl one.1 in
      rw opens (one.0, two))
      (λ closed.
      let skipped = turn_skipped place {turns = turn_of always behind ∷ turns} {turn = turn_of if_opened next} refl _
      (leaves rules word) closed short in
      let gives-on : Gives place left (turn_of always behind ∷ turns) false (leaves rules word) = record { is = sym skipped ∙ gives.is } in
      rw closed (short, on behind {gate = always} refl gives-on))

abbrev nine : List Turn
nine =
    turn_of always group_1a
    ∷ turn_of always group_1b
    ∷ turn_of if_opened follow_up
    ∷ turn_of always group_1c
    ∷ turn_of always group_2
    ∷ turn_of always group_3
    ∷ turn_of always group_4
    ∷ turn_of always group_5a
    ∷ turn_of always group_5b
    ∷ []

groups_are : map read_turn shipped ≡ nine
unfolding shipped
groups_are = refl

module _ (word : List ℕ) where
  abbrev after_1b : List ℕ
  after_1b = leaves_opened group_1b follow_up (leaves group_1a word)

  abbrev after_2 : List ℕ
  after_2 = leaves group_2 (leaves group_1c after_1b)

  -- what the groups that write leave fits in the place, and what all leave is what reading the list leaves
  pub shipped_reads :
      ((length after_1b ≤ length word) × ((length (leaves group_1c after_1b) ≤ length word) × (length after_2 ≤ length word)))
      × (read_word shipped word ≡ done (leaves group_5b (leaves group_5a (leaves group_4 (leaves group_3 after_2)))))
  unfolding read_word steps reading
  shipped_reads =
      let n = length word in
      let left = (read_done word).0 in
      let gives : through n (map read_turn shipped) false word ≡ done left = (read_done word).1 in
      let start : Gives n left nine false word
      = record { is = ap (λ (turns : List Turn). through n turns false word) (sym groups_are) ∙ gives } in
      let one = on group_1a {gate = always} refl start in
      let two = on group_1b {gate = always} refl one.1 in
      let three = on_opened group_1b follow_up group_1c (leaves group_1a word) two.0 two.1 in
      let four = on group_2 {gate = always} refl three.1.1 in
      let five = on group_3 {gate = always} refl four.1 in
      let six = on group_4 {gate = always} refl five.1 in
      let seven = on group_5a {gate = always} refl six.1 in
      let eight = on group_5b {gate = always} refl seven.1 in
      ((three.0, (three.1.0, four.0)), gives ∙ sym eight.1.is)
