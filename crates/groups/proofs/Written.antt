-- A rule that is obeyed in the word's place: what it leaves there, and that the states of what stands there are noted again.
use Prim.Native.Nat.{ℕ, ◌+◌, ◌-◌, ◌*◌, ◌≤◌}
use native.Mathlib.Omega.{arith}
use mathlib.Core.Path.{◌≡◌, refl, sym, ap, ◌∙◌}
use mathlib.Core.Bool.{true, false}
use mathlib.Core.List.{List, ◌++◌}
use Rattle.std.specs.Prelude.{Some}
use mathlib.Core.Option.{Option}
use lib.Dec.{eqb}
use lib.ListN.{length, take, get_or, length-append}
use lib.Seq.{length-take-le, take-take, take-length, drop-append_seam}
use borrow.Author.Tests.{le-leb, lt-ltb}
use Rattle.paper.specs.Groups.{Rule, before, obeyed, act, result}
use Rattle.paper.specs.States.{state}
use Rattle.paper.specs.Noted.{ends_in_consonant, length_after, Noted, noted_at, noted_more, state_most}
use Rattle.letters.specs.Notes.{renewed}
use Rattle.places.specs.Put.{put_at, put_behind}
use Rattle.rules.specs.Rows.{size_at, written_at, action_at, rule_at}
use Rattle.groups.specs.Reads.{leaves, cut_at, Stands, Written}
use Rattle.groups.specs.Picks.{picked}
use Rattle.groups.specs.declared.row.Row.{Row}
use Rattle.groups.specs.ReadsLaws.{shorter}
use Rattle.groups.proofs.Endings.{ending_size, written_size}

-- ## How the word stands

-- letters behind a part that is noted, and their states
renewed_noted : (part letters states : List ℕ) (k : ℕ) → Noted part states → k ≡ length part → k + length letters ≤ 64
    → length states ≡ 65
    → Noted (part ++ letters) (renewed states (part ++ letters) k)
unfolding renewed
renewed_noted part letters states k noted is short room =
    let here : get_or states (length part) 0 ≡ state part
    = noted_at part states noted (length part) (omega arith) ∙ ap state (take-length part) in
    let long = length-append part letters in
    let most = state_most part in
    rw (
      is,
      here,
      drop-append_seam part letters,
      length_after (ends_in_consonant part) (state part) letters,
      le-leb (length part) (length (part ++ letters)) (omega arith),
      lt-ltb (length (part ++ letters)) (length states) (omega arith),
      le-leb (state part + (length (part ++ letters) - length part)) 255 (omega arith),
    ) (noted_more part letters states (length part) noted refl (omega arith))

-- letters that were put behind a part of a word that stands, where their states are noted: they follow it, and the whole stands
stays :
    {word states after new : List ℕ} {len part left : ℕ} (letters : List ℕ)
    → Stands word states len
    → part ≤ len
    → left ≡ part + length letters
    → left ≤ length word
    → after ≡ put_at word part letters
    → length after ≡ length word
    → length new ≡ length states
    → new ≡ renewed states (take left after) part
    → (take left after ≡ take part word ++ letters) × Stands after new left
stays {word} {states} {after} {new} {len} {part} {left} letters stands inside is fits put long wide again =
    let follows : take left after ≡ take part word ++ letters = rw (put, is) (put_behind word part letters (omega arith)) in
    let before = (shorter stands part inside).noted in
    let known = length-take-le part word (omega (arith, stands.within)) in (
      follows,
      record {
        within = omega arith;
        short = omega (arith, stands.short);
        room = wide ∙ stands.room;
        noted = rw (again, follows)
            (renewed_noted (take part word) letters states part before (sym known) (omega (arith, stands.short)) stands.room);
      },
    )

-- ## What a rule leaves

module _ (row : Row) {place states : List ℕ} {len : ℕ} (stands : Stands place states len) where
  abbrev table : List ℕ
  table = row.rules.now

  abbrev k : ℕ
  k = row.rule

  acts_there : result (take len place) (picked (Some row)) ≡ act (rule_at table k).action (take (len - size_at table k) place)
  unfolding result before
  acts_there =
      rw (length-take-le len place stands.within, ending_size table k row.stands)
      (ap (act (rule_at table k).action) (take-take (len - size_at table k) len place (omega arith)))

  part_length : length (take (len - size_at table k) place) ≡ len - size_at table k
  part_length = length-take-le (len - size_at table k) place (omega (arith, stands.within))

  -- a single letter less than the part
  pub single_there :
      eqb (get_or table (16 * k + 1) 0) 1 ≡ true
      → {r : ℕ}
      → r ≡ cut_at table k len
      → (take r place ≡ result (take len place) (picked (Some row))) × Stands place states r
  unfolding cut_at rule_at action_at act
  single_there single {r} is =
      let left : r ≡ len - size_at table k - 1 = rw single at is in
      let acts : result (take len place) (picked (Some row)) ≡ take (len - size_at table k - 1) place
      = acts_there ∙ rw (single, part_length) (take-take (len - size_at table k - 1) (len - size_at table k) place (omega arith)) in
      (ap (λ (n : ℕ). take n place) left ∙ sym acts, shorter stands r (omega arith))

  -- the part, and what the row has to write
  module _ (other : eqb (get_or table (16 * k + 1) 0) 1 ≡ false) where
    writes_there : result (take len place) (picked (Some row)) ≡ take (len - size_at table k) place ++ written_at table k
    unfolding rule_at action_at act
    writes_there = acts_there ∙ rw other

    cut_length : cut_at table k len ≡ len - size_at table k + length (written_at table k)
    unfolding cut_at
    cut_length = rw (other, written_size table k row.stands)

    pub length_there : length (result (take len place) (picked (Some row))) ≡ cut_at table k len
    length_there =
        ap length writes_there
        ∙ length-append (take (len - size_at table k) place) (written_at table k)
        ∙ omega (arith, cut_length, part_length)

    -- which was put there
    pub written_there :
        {after new : List ℕ} {part left : ℕ}
        → part ≡ len - size_at table k
        → left ≡ cut_at table k len
        → left ≤ length place
        → after ≡ put_at place part (written_at table k)
        → length after ≡ length place
        → length new ≡ length states
        → new ≡ renewed states (take left after) part
        → (take left after ≡ result (take len place) (picked (Some row))) × Stands after new left
    written_there cut is fits put long wide again =
        let both = stays (written_at table k) stands (omega arith) (omega (arith, cut_length)) fits put long wide again in
        (both.0 ∙ ap (λ (n : ℕ). take n place ++ written_at table k) cut ∙ sym writes_there, both.1)

-- ## What a group leaves

-- the rule that was chosen is the group's, so what it leaves is what the group does
pub group_written :
    {group : List Rule} {word place states : List ℕ} {r : ℕ} (room : ℕ) {chosen : Option Rule}
    → chosen ≡ obeyed word group
    → (length (result word chosen) ≤ room → (take r place ≡ result word chosen) × Stands place states r)
    → length (leaves group word) ≤ room
    → Written group word place states r
unfolding leaves
group_written {word = word} room is obeys fits =
    let both = obeys (rw is fits) in
    record { left = both.0 ∙ ap (result word) is; stands = both.1 }
