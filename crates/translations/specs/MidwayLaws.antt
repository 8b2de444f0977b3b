-- A table midway: reading the row that is to be finished, finishing it, and the end.
use Rattle.std.specs.Prelude.{ℕ, zero, suc, ◌+◌, ◌*◌, ◌-◌, ◌≤◌, ◌<◌, ◌≡◌, refl, cond, List, [], ◌∷◌, ◌++◌, eqb, take, drop}
use Rattle.std.proofs.Common.{sym, ◌∙◌, append_assoc, append-nil, arith}
use Rattle.std.proofs.Math.Path.{ap}
use Rattle.std.proofs.Math.ListN.{length, length-append}
use Rattle.paper.specs.ListLaws.{empty}
use Rattle.paper.specs.Numbered.{first_with}
use Rattle.paper.specs.NumberedLaws.{Every}
use Rattle.paper.specs.TestLaws.{apart}
use Rattle.sheets.specs.Accepted.{groups_of, Accepted}
use Rattle.sheets.specs.NodeBounds.{at_most_1552}
use Rattle.sheets.specs.WriteBack.{write_back}
use Rattle.levels.specs.CountLaws.{table-length}
use Rattle.levels.specs.Layout.{Node, children, below, letter_of, rows, table_of}
use Rattle.levels.specs.LevelLaws.{every-below}
use Rattle.translations.specs.Looking.{Looked}
use Rattle.translations.specs.Midway.{Pending, Midway}
use Rattle.levels.specs.RowLaws.{rows_length}
use Rattle.translations.specs.Storing.{put_row, how_many, put_each}
use Rattle.translations.specs.StoreLaws.{row_put}
use Rattle.translations.specs.WaitingLaws.{waits_length, waits_append, Added, children_counted, children_wait}
use Rattle.translations.specs.WaitingLaws.{ReadAt, Current, current}

-- the tail of a node whose row waits, as its letters stand in the sheet
pub tail_stands : {sheet : List ℕ} {one : Node} {depth from end before : ℕ} → Pending sheet one depth from end before
    → take (end - (end - depth)) (drop (end - depth) sheet) ≡ one.tail
tail_stands {sheet} {one} {depth} {from} {end} {before} pending =
    let there = pending.tail_there in
    let kept : end - (end - depth) ≡ length one.tail = omega (arith, there.long, pending.depth_is) in
    rw (kept, pending.depth_is) there.letters_are

-- ## No node is left where none waits

every_long : (level : List Node) → Every (λ one. 0 ≤ length one.tail) level
every_long [] = tt
every_long (one ∷ level) = (omega arith, every_long level)

-- nodes that are the level below themselves would be ever deeper
ever_deeper : (later : List Node) → later ≡ below later → (n : ℕ) → Every (λ one. n ≤ length one.tail) later
ever_deeper later again zero = every_long later
ever_deeper later again (suc n) =
    rw again
    (every-below (λ one. n ≤ length one.tail) (λ one. suc n ≤ length one.tail) (λ one letter stands long. omega arith) later
    (ever_deeper later again n))

none_left : (later : List Node) → later ≡ below later → later ≡ []
none_left [] again = refl
none_left (one ∷ later) again = let long = (ever_deeper (one ∷ later) again (suc (length one.tail))).0 in absurd (omega arith)

-- the row of a node, and those of the nodes behind it
rows_step : (front : List ℕ) (one : Node) (after : List Node) (next behind letter child count rule : ℕ) → letter ≡ letter_of one.tail
    → child ≡ cond (eqb count 0) 0 next → count ≡ length (children one) → rule ≡ first_with one.number one.rules one.tail
    → behind ≡ next + count
    → (front ++ letter ∷ child ∷ count ∷ rule ∷ []) ++ rows behind after ≡ front ++ rows next (one ∷ after)
unfolding rows
rows_step front one after next behind letter child count rule letter_is child_is count-is rule_is behind-is =
    rw (behind-is, letter_is, child_is, rule_is, count-is, append_assoc)

-- the nodes behind the first: the others that wait, its children, and what is below those
record Left (one : Node) (others later : List Node) : Type 0 where
  after : List Node
  split : later ≡ one ∷ after
  after_is : after ≡ (others ++ children one) ++ below after

left : (one : Node) (others later : List Node) → later ≡ (one ∷ others) ++ below later → Left one others later
unfolding below
left one others [] is = apart (cc)
left one others (first ∷ after) is =
    let same-node : first ≡ one = cc in
    let behind : after ≡ others ++ below (first ∷ after) = cc in
    record {
      after = after;
      split = rw same-node;
      after_is = behind ∙ rw (same-node, append_assoc);
    }

module _ {sheet table : List ℕ} {row next : ℕ} (state : Midway sheet table row next) where
  -- ## The end

  pub midway_end : next ≤ row → table ≡ table_of (groups_of sheet)
  unfolding rows
  midway_end over =
      let none = empty state.queue (omega (arith, state.next_is)) in
      let nothing = none_left state.later (rw none at state.later_is) in
      let whole = rw (nothing, append-nil) at state.whole in
      let long = ap length whole in
      let parts = ap length state.table_is in
      let rest = empty (state.waits ++ state.spare)
      (omega (arith, long, parts, length-append state.front (state.waits ++ state.spare), state.room)) in
      state.table_is ∙ (rw (rest, append-nil) whole)

  -- all rows so far stand in the table
  pub midway_fits : 4 * next ≤ length table
  midway_fits =
      omega (
        arith,
        simp length-append at (ap length state.table_is),
        waits_length state.waiting,
        state.finished,
        state.next_is,
      )

  pub midway_small : Accepted sheet → next ≤ 1552
  midway_small accepted =
      let all = (write_back sheet (groups_of sheet) accepted).1 in
      omega (arith, midway_fits, state.room, table-length (groups_of sheet) all, at_most_1552 (groups_of sheet) all)

  -- ## The row to be finished

  pub current_row : {depth from end before : ℕ} → row < next → ReadAt table row depth from end before
      → Current sheet state.queue state.waits depth from end before
  current_row some read =
      current state.front state.spare row state.waiting (omega (arith, state.next_is)) state.finished
      (rw state.table_is at read)

  module _ {depth from end before : ℕ} (now : Current sheet state.queue state.waits depth from end before) where
    left_then : Left now.one now.others state.later
    left_then = left now.one now.others state.later (rw now.queue_is at state.later_is)

    abbrev fore : List ℕ
    fore = state.front ++ depth ∷ from ∷ end ∷ before ∷ now.numbers

    fore_is : table ≡ fore ++ state.spare
    fore_is =
        state.table_is
        ∙ rw now.waits_are (sym (append_assoc state.front (depth ∷ from ∷ end ∷ before ∷ now.numbers) state.spare))

    fore-length : length fore ≡ 4 * next
    fore-length =
        omega (
          arith,
          length-append state.front (depth ∷ from ∷ end ∷ before ∷ now.numbers),
          waits_length now.waiting,
          state.finished,
          state.next_is,
          ap length now.queue_is,
        )

    room_for : 4 * length (children now.one) ≤ length state.spare
    room_for =
        omega (
          arith,
          ap length left_then.split,
          simp length-append at (ap length left_then.after_is),
          simp length-append at (ap length state.whole),
          rows_length next state.later,
          state.room,
          ap length fore_is ∙ length-append fore state.spare,
          fore-length,
          state.finished,
          state.next_is,
          ap length now.queue_is,
        )

    module _ (rule : ℕ) (ends : List ℕ) (long : length ends ≡ 26)
        (looked : Looked sheet before now.one.rules now.one.tail rule ends) where
      deeper : depth + 1 ≡ suc (length now.one.tail)
      deeper = omega (arith, now.pending.depth_is)

      counted : how_many ends ≡ length (children now.one)
      counted =
          let pending = now.pending in
          children_counted sheet now.one (depth + 1) from before deeper pending.reads pending.number_is ends long looked.says

      added : Added sheet (children now.one) fore (put_each (depth + 1) from before ends next table)
      added =
          let pending = now.pending in
          rw fore_is
          (children_wait sheet now.one (depth + 1) from before deeper pending.reads pending.number_is ends long looked.says
          fore state.spare next fore-length room_for)

      pub midway_step : (behind letter child count : ℕ) (table-then : List ℕ) → behind ≡ next + how_many ends
          → letter ≡ letter_of now.one.tail → child ≡ cond (eqb count 0) 0 next → count ≡ how_many ends
          → table-then ≡ put_row row letter child count rule (put_each (depth + 1) from before ends next table)
          → length table-then ≡ length table → Midway sheet table-then (row + 1) behind
      midway_step behind letter child count table-then behind-is letter_is child_is count-is then_is kept =
          let more = added in
          let behind-row = now.numbers ++ (more.numbers ++ more.rest) in
          let waiting-row = depth ∷ from ∷ end ∷ before ∷ now.numbers in
          let then = left_then in
          let row-then = letter ∷ child ∷ count ∷ rule ∷ [] in
          record {
            queue = now.others ++ children now.one;
            later = then.after;
            front = state.front ++ row-then;
            waits = now.numbers ++ more.numbers;
            spare = more.rest;
            table_is =
                then_is
                ∙ rw (more.table_is, append_assoc state.front waiting-row (more.numbers ++ more.rest))
                (row_put state.front row letter child count rule depth from end before behind-row state.finished ∙ simp append_assoc);
            finished = omega (arith, length-append state.front row-then, state.finished);
            waiting = waits_append now.waiting more.waiting;
            next_is =
                omega (
                  arith,
                  behind-is,
                  counted,
                  state.next_is,
                  ap length now.queue_is,
                  length-append now.others (children now.one),
                );
            later_is = then.after_is;
            whole =
                rows_step state.front now.one then.after next behind letter child count rule letter_is child_is
                (count-is ∙ counted) (rw now.pending.number_is looked.rule_is) (rw count-is behind-is)
                ∙ (rw then.split at state.whole);
            room = kept ∙ state.room;
          }
