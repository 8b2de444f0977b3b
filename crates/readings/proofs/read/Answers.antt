-- `readings::read` meets its contract: a word that is taken is noted and read; any other is as it came.
use Prim.Native.Nat.{ℕ, ◌≤◌, ◌<◌}
use borrow.Author.Tests.{lt-ltb, le-leb, ltb-false}
use native.Mathlib.Omega.{arith}
use mathlib.Core.Path.{◌≡◌, refl, sym, ap, ◌∙◌}
use mathlib.Core.Bool.{Bool, true, false, cond, ◌||◌, false≢true}
use mathlib.Core.List.{List, [], ◌∷◌}
use lib.Dec.{eqb, ltb}
use lib.ListN.{length, take}
use lib.Seq.{take_all, take-length}
use Rattle.paper.specs.Letters.{inward, class_of, rises}
use Rattle.paper.specs.States.{state_in, state}
use Rattle.paper.specs.TestLaws.{apart, neither_left, neither_right}
use Rattle.paper.specs.Words.{taken, turned_down, judged, judged_by, first_other}
use Rattle.paper.specs.WordsLaws.{judged_by_lem}
use Rattle.paper.specs.Noted.{states_of, states_after, Noted, length_after, noted_more}
use Rattle.letters.specs.Notes.{noted}
use Rattle.readings.proofs.read.Goals as goal
use Rattle.readings.proofs.read.Goals.{Else-word-other}

-- the test before the reading is that of the word
refuses : (size other : ℕ) → (eqb size 0 || (ltb 64 size || ltb other size)) ≡ true → taken ≡ judged_by size other → ⊥
unfolding judged_by
refuses size other = go (eqb size 0) (ltb 64 size) (ltb other size)
  where
    go : (empty long odd : Bool) → (empty || (long || odd)) ≡ true
        → taken ≡ cond (empty || long) (turned_down 1 0) (cond odd (turned_down 2 other) taken)
        → ⊥
    go true long odd test is = apart (cc)
    go false true odd test is = apart (cc)
    go false false true test is = apart (cc)
    go false false false test is = false≢true test

takes : (size other : ℕ) → (eqb size 0 || (ltb 64 size || ltb other size)) ≡ false
    → (taken ≡ judged_by size other) × ((size ≤ 64) × (size ≤ other))
unfolding judged_by
takes size other test =
    let behind = neither_right (eqb size 0) (ltb 64 size || ltb other size) test in
    let long = neither_left (ltb 64 size) (ltb other size) behind in
    let odd = neither_right (ltb 64 size) (ltb other size) behind in
    (rw (neither_left (eqb size 0) (ltb 64 size || ltb other size) test, long, odd), (ltb-false 64 size long, ltb-false other size odd))

-- a word of small letters is noted whole
notes : (word states after : List ℕ) → take 1 states ≡ 0 ∷ [] → length word < length states → length word ≤ 64
    → length word ≤ first_other word
    → after ≡ noted states word
    → Noted (take (length word) word) after
unfolding noted state state_in rises inward class_of states_of states_after
notes word states after first room short all is =
    let size = length_after false 0 word in
    let whole : take (first_other word) word ≡ word = take_all (first_other word) word all in
    rw (take-length word, is, lt-ltb (length word) (length states) room, le-leb (length word) 255 (omega arith), whole, size)
    (noted_more [] word states 0 first refl (omega arith))

-- once the test is passed
module _ (c : Else-word-other) where
  passed : (taken ≡ judged c.args.word.now)
      × ((length c.args.word.now ≤ 64) × (length c.args.word.now ≤ first_other c.args.word.now))
  passed =
      let word = c.args.word.now in
      let found = c.note-other.ensures.value in
      let says = takes (length word) _ c.if-word-other.false in
      (says.0 ∙ ap (judged_by (length word)) found ∙ judged_by_lem word, (says.1.0, omega (arith, says.1.1, found)))

pub returns-then-word-other : goal.returns-then-word-other
returns-then-word-other c =
    let word = c.args.word.now in
    let found = c.note-other.ensures.value in
    record {
      other_value = found;
      read_stands = λ is-taken. absurd (refuses (length word) _ c.if-word-other.true (is-taken ∙ sym (ap (judged_by (length word)) found ∙ judged_by_lem word)));
      word_unchanged = λ other. refl;
    }

pub read_by-len-requires : goal.read_by-len-requires
read_by-len-requires c =
    let made = c.note-other in
    let at_most = (passed (goal.at.read_by-len-requires c).Else-word-other).1 in
    record {
      within = omega arith;
      short = at_most.0;
      room = made.auto.states;
      noted = notes c.args.word.now _ _ refl (omega (arith, at_most.0)) at_most.0 at_most.1 made.ensures.states_after;
    }

pub returns : goal.returns
returns c =
    let was-taken = (passed (goal.at.returns c).Else-word-other).0 in
    record {
      other_value = c.note-other.ensures.value;
      read_stands = λ is-taken. c.read_by-len.ensures;
      word_unchanged = λ other. absurd (other was-taken);
    }
