-- Rows that are still to be finished: reading the first of them, and storing those of a node's children.
use Prim.Native.Nat.{ℕ, suc, ◌+◌, ◌*◌, ◌≤◌, ◌<◌}
use Rattle.std.specs.Prelude.{◌≡◌, true, false, eqb, length, get_or}
use Rattle.std.proofs.Math.Path.{refl, sym, subst}
use Rattle.std.proofs.Common.{ap, ◌∙◌, add-zero, get_or-append-add}
use mathlib.Core.List.{List, [], ◌∷◌, ◌++◌, map, append_assoc}
use native.Mathlib.Omega.{arith}
use Rattle.std.proofs.Math.ListN.{length-append}
use Rattle.std.proofs.lemmas.Bool.{eqb-false}
use Rattle.paper.specs.Nodes.{tails_of, member}
use Rattle.paper.specs.TestLaws.{by_test}
use Rattle.levels.specs.Layout.{Node, node, standing, children}
use Rattle.levels.specs.RisingLaws.{run, alphabet_run}
use Rattle.translations.specs.Looking.{Reads, EndsAt, Says}
use Rattle.translations.specs.Midway.{Pending, Waiting, nobody, another}
use Rattle.translations.specs.Storing.{put_row, how_many, put_each}
use Rattle.translations.specs.StoreLaws.{Four, four, row_behind}

-- ## The rows that wait

pub waits_length : {sheet : List ℕ} {queue : List Node} {waits : List ℕ} → Waiting sheet queue waits → length waits ≡ 4 * length queue
waits_length nobody = refl
waits_length (another pending others) = let rest = waits_length others in omega arith

pub waits_append : {sheet : List ℕ} {queue more : List Node} {waits numbers : List ℕ} → Waiting sheet queue waits
    → Waiting sheet more numbers → Waiting sheet (queue ++ more) (waits ++ numbers)
waits_append nobody second = second
waits_append (another pending others) second = another pending (waits_append others second)

-- ## Storing those of the children

-- a table where these nodes wait behind the front
pub record Added (sheet : List ℕ) (nodes : List Node) (front table : List ℕ) : Type 0 where
  pub numbers : List ℕ
  pub rest : List ℕ
  pub table_is : table ≡ front ++ (numbers ++ rest)
  pub waiting : Waiting sheet nodes numbers

-- one node more before those
added_first : {sheet : List ℕ} {one : Node} {nodes : List Node} {front table : List ℕ} {depth from end before : ℕ}
    → Pending sheet one depth from end before → Added sheet nodes (front ++ depth ∷ from ∷ end ∷ before ∷ []) table
    → Added sheet (one ∷ nodes) front table
added_first {sheet} {one} {nodes} {front} {table} {depth} {from} {end} {before} pending added =
    record {
      numbers = depth ∷ from ∷ end ∷ before ∷ added.numbers;
      rest = added.rest;
      table_is = added.table_is ∙ append_assoc front (depth ∷ from ∷ end ∷ before ∷ []) (added.numbers ++ added.rest);
      waiting = another pending added.waiting;
    }

module _ (sheet : List ℕ) (one : Node) (depth from before : ℕ) (deeper : depth ≡ suc (length one.tail))
    (reads : Reads sheet from before one.rules) (number_is : one.number ≡ before + 1) where
  abbrev kid : ℕ → Node
  kid letter = node one.number one.rules (letter ∷ one.tail)

  abbrev kids : List ℕ → List Node
  kids list = map kid (standing one.rules one.tail list)

  abbrev Tells : ℕ → ℕ → Type 0
  Tells letter end = Says sheet (letter ∷ one.tail) one.rules [] end

  -- these children are those whose ends are noted: what is counted and stored is proved from this, where no letters are computed
  data Kept : List ℕ → List Node → Type 0 where
    over : Kept [] []
    skip : {end : ℕ} {ends : List ℕ} {nodes : List Node} → eqb end 0 ≡ true → Kept ends nodes → Kept (end ∷ ends) nodes
    keep : {end : ℕ} {ends : List ℕ} {nodes : List Node} (letter : ℕ) → eqb end 0 ≡ false → EndsAt sheet end (letter ∷ one.tail)
        → Kept ends nodes → Kept (end ∷ ends) (kid letter ∷ nodes)

  keep_first : (letter end : ℕ) (ends more : List ℕ) → Tells letter end → Kept ends (kids more) → Kept (end ∷ ends) (kids (letter ∷ more))
  unfolding standing tails_of member
  keep_first letter end ends more tells kept =
      by_test (eqb end 0)
      (λ none. rw (sym (rw none at tells.known)) (skip none kept))
      (λ noted. rw (sym (rw noted at tells.known)) (keep letter noted (tells.there (eqb-false end 0 noted)) kept))

  kept-children : (first : ℕ) (ends : List ℕ) → ((k : ℕ) → k < length ends → Tells (first + k) (get_or ends k 0))
      → Kept ends (kids (run (length ends) first))
  unfolding run standing
  kept-children first [] tell = over
  kept-children first (end ∷ ends) tell =
      keep_first first end ends (run (length ends) (suc first))
      (subst (λ (letter : ℕ). Tells letter end) (add-zero first) (tell 0 (omega arith)))
      (kept-children (suc first) ends (λ k h.
      let same_letter : first + suc k ≡ suc first + k = omega arith in
      subst (λ (letter : ℕ). Tells letter (get_or ends k 0)) same_letter (tell (suc k) (omega arith))))

  each_counted : {ends : List ℕ} {nodes : List Node} → Kept ends nodes → how_many ends ≡ length nodes
  unfolding how_many
  each_counted over = refl
  each_counted (skip none kept) = rw none (each_counted kept)
  each_counted (keep letter noted there kept) = rw noted (ap suc (each_counted kept))

  -- wherever the rows for these ends are stored, these nodes wait
  abbrev Stores : List ℕ → List Node → Type 0
  Stores ends nodes = (front spare : List ℕ) (next : ℕ) → length front ≡ 4 * next → 4 * length nodes ≤ length spare
      → Added sheet nodes front (put_each depth from before ends next (front ++ spare))

  first_waits : (letter end : ℕ) (ends : List ℕ) (nodes : List Node) → eqb end 0 ≡ false → EndsAt sheet end (letter ∷ one.tail)
      → Stores ends nodes → Stores (end ∷ ends) (kid letter ∷ nodes)
  unfolding put_each
  first_waits letter end ends nodes noted there others front spare next long room = rw noted (stored (four spare (omega arith)))
    where
      -- said of any four numbers that stand there: where it is said of those that `four` finds, the check takes seconds
      stored : Four spare → Added sheet (kid letter ∷ nodes) front
          (put_each depth from before ends (next + 1) (put_row next depth from end before (front ++ spare)))
      stored behind =
          let row : List ℕ = depth ∷ from ∷ end ∷ before ∷ [] in
          rw (row_behind front spare next depth from end before long behind)
          (added_first (record { depth_is = deeper; reads = reads; number_is = number_is; tail_there = there })
          (others (front ++ row) behind.rest (next + 1) (omega (arith, length-append front row)) (omega (arith, behind.long))))

  each_waits : {ends : List ℕ} {nodes : List Node} → Kept ends nodes → Stores ends nodes
  unfolding put_each
  each_waits over = λ front spare next long room. record { numbers = []; rest = spare; table_is = refl; waiting = nobody }
  each_waits (skip none kept) = λ front spare next long room. rw none (each_waits kept front spare next long room)
  each_waits (keep {end} {ends} {nodes} letter noted there kept) = first_waits letter end ends nodes noted there (each_waits kept)

  -- all children
  module _ (ends : List ℕ) (long : length ends ≡ 26) (tell : (k : ℕ) → k < 26 → Tells (97 + k) (get_or ends k 0)) where
    all_kept : Kept ends (children one)
    unfolding children
    all_kept =
        subst (λ (list : List ℕ). Kept ends (kids list)) (ap (λ (count : ℕ). run count 97) long ∙ sym alphabet_run)
        (kept-children 97 ends (λ k h. tell k (omega arith)))

    pub children_counted : how_many ends ≡ length (children one)
    children_counted = each_counted all_kept

    pub children_wait : (front spare : List ℕ) (next : ℕ) → length front ≡ 4 * next → 4 * length (children one) ≤ length spare
        → Added sheet (children one) front (put_each depth from before ends next (front ++ spare))
    children_wait = each_waits all_kept

-- ## Reading the first row that waits

-- its node, of which these four numbers are the row, and the other nodes that wait
pub record Current (sheet : List ℕ) (queue : List Node) (waits : List ℕ) (depth from end before : ℕ) : Type 0 where
  pub one : Node
  pub others : List Node
  pub numbers : List ℕ
  pub queue_is : queue ≡ one ∷ others
  pub waits_are : waits ≡ depth ∷ from ∷ end ∷ before ∷ numbers
  pub pending : Pending sheet one depth from end before
  pub waiting : Waiting sheet others numbers

-- four numbers of the table, as they are read
pub record ReadAt (table : List ℕ) (row depth from end before : ℕ) : Type 0 where
  pub depth_read : depth ≡ get_or table (4 * row) 0
  pub from_read : from ≡ get_or table (4 * row + 1) 0
  pub end_read : end ≡ get_or table (4 * row + 2) 0
  pub before_read : before ≡ get_or table (4 * row + 3) 0

row_read : (front : List ℕ) (row a b c d : ℕ) (rest : List ℕ) → length front ≡ 4 * row → ReadAt (front ++ a ∷ b ∷ c ∷ d ∷ rest) row a b c d
row_read front row a b c d rest long =
    let at = get_or-append-add front (a ∷ b ∷ c ∷ d ∷ rest) in
    record {
      depth_read = rw (← long) (sym (at 0 0) ∙ ap (λ (n : ℕ). get_or (front ++ a ∷ b ∷ c ∷ d ∷ rest) n 0) (add-zero (length front)));
      from_read = rw (← long) (sym (at 1 0));
      end_read = rw (← long) (sym (at 2 0));
      before_read = rw (← long) (sym (at 3 0));
    }

pub current : {sheet : List ℕ} {queue : List Node} {waits : List ℕ} {depth from end before : ℕ} (front spare : List ℕ) (row : ℕ)
    → Waiting sheet queue waits → 0 < length queue → length front ≡ 4 * row → ReadAt (front ++ (waits ++ spare)) row depth from end before
    → Current sheet queue waits depth from end before
current front spare row nobody some long read = absurd (omega arith)
current front spare row (another {one} {queue} {depth} {from} {end} {before} {numbers} pending others) some long read =
    let is = row_read front row depth from end before (numbers ++ spare) long in
    rw (
      read.depth_read ∙ sym is.depth_read,
      read.from_read ∙ sym is.from_read,
      read.end_read ∙ sym is.end_read,
      read.before_read ∙ sym is.before_read,
    )
    (record {
      one = one;
      others = queue;
      numbers = numbers;
      queue_is = refl;
      waits_are = refl;
      pending = pending;
      waiting = others;
    })
