-- What follows where no rule of a group is obeyed, and for the first letters of a word that stands. Over any rule list.
use Rattle.std.specs.Prelude.{ℕ, ◌≤◌, ◌≡◌, List, length, take}
use Rattle.std.proofs.Common.{arith, length-take-le, take-take}
use Rattle.std.proofs.Math.Option.{none}
use Rattle.std.proofs.Math.Seq.{take-length}
use Rattle.paper.specs.Groups.{Rule, obeyed, result}
use Rattle.paper.specs.Noted.{noted_part}
use Rattle.groups.specs.Reads.{leaves, Cut, Stands, Written}

pub kept_whole : (group : List Rule) (word : List ℕ) → obeyed word group ≡ none → Cut group word (length word)
unfolding leaves result
kept_whole group word obeys = record { within = omega arith; left = rw obeys (take-length word) }

-- the first letters of a word stand there too
pub shorter : {place states : List ℕ} {len : ℕ} → Stands place states len → (k : ℕ) → k ≤ len → Stands place states k
shorter {place} {states} {len} stands k below =
    let there = length-take-le len place stands.within in
    let front = take-take k len place below in
    record {
      within = omega (arith, stands.within);
      short = stands.short;
      room = stands.room;
      noted = rw front at (noted_part (take len place) states stands.noted k (omega (arith, there)));
    }

-- where no rule is obeyed the word stands as it did
pub stays : (group : List Rule) {place states : List ℕ} {len : ℕ} → Stands place states len → obeyed (take len place) group ≡ none
    → Written group (take len place) place states len
unfolding leaves result
stays group stands obeys = record { left = rw obeys; stands = stands }
