-- `lists::faulty_entry` meets its contract: each early return is a body that cannot be sound, and in the last one only the letters are
-- left to judge.
use Prim.Native.Nat.{ℕ, ◌+◌, ◌-◌, ◌≤◌, ◌<◌}
use mathlib.Core.Path.{◌≡◌, sym, ap, ◌∙◌}
use mathlib.Core.Bool.{true, false, not, ◌&&◌, false≢true}
use mathlib.Core.List.{List}
use native.Mathlib.Omega.{arith}
use borrow.Author.Tests.{le-ltb}
use lib.Dec.{ltb}
use lib.ListN.{length, drop, length-drop}
use Rattle.paper.specs.TestLaws.{by_test, and_parts, and_both}
use Rattle.paper.specs.Words.{all_small, first_other}
use Rattle.paper.specs.WordsLaws.{all_small_append, other_inside}
use Rattle.lists.specs.Lists.{word_length, word_in, stem_in, entry_in, faulty_entry}
use Rattle.lists.specs.EntryLaws.{allowed_is, behind, stem_length, word_length_lem, Sound, sound}
use Rattle.paper.specs.ListLaws.{to_the_end}
use Rattle.lists.proofs.faulty_entry.Goals as goal
use Rattle.lists.proofs.faulty_entry.Goals.{
  then-n-gt-MOST-via-then-n-gt-MOST as long,
  then-n-gt-MOST-via-else-n-gt-MOST+then-size-n as no_stem,
  then-n-gt-MOST-via-else-n-gt-MOST+else-size-n+then-n-size as long_stem,
}

module _ (body : List ℕ) where
  refuse : (Sound body → ⊥) → true ≡ faulty_entry body
  refuse never = by_test (faulty_entry body) (λ is. sym is) (λ is. absurd (never (sound body is)))

  letters : all_small (drop 1 body) ≡ (all_small (word_in body) && all_small (stem_in body))
  letters = ap all_small (behind body) ∙ all_small_append (word_in body) (stem_in body)

  -- the lengths are right
  module _ {n : ℕ} (is : n ≡ word_length body) (most : n ≤ 64) (stem : n < length (drop 1 body))
      (no_more : length (drop 1 body) - n ≤ n) where
    well : all_small (drop 1 body) ≡ true → faulty_entry body ≡ false
    unfolding faulty_entry
    well all =
        let both = and_parts (all_small (word_in body)) (all_small (stem_in body)) (sym letters ∙ all) in
        let word_size = word_length_lem body (omega (arith, length-drop 1 body)) in
        let stem_size = stem_length body in
        let behind_n = length-drop 1 body in
        let allowed = allowed_is (entry_in body) (record {
          some_word = omega arith;
          most = omega arith;
          small_word = both.0;
          some_stem = omega arith;
          no_more = omega arith;
          small_stem = both.1;
        }) in
        rw (le-ltb (length body) (1 + word_length body) (omega (arith, behind_n)), allowed)

    by_letters : not (all_small (drop 1 body)) ≡ faulty_entry body
    by_letters =
        by_test (all_small (drop 1 body)) (λ all. rw all (sym (well all)))
        (λ other. rw other (refuse (λ s. false≢true (sym other ∙ letters ∙ and_both s.is.small_word s.is.small_stem))))

    judged : {letters : List ℕ} {first : ℕ} → letters ≡ drop 1 body → first ≡ first_other letters
        → ltb first (length letters) ≡ faulty_entry body
    judged letters_are first_is = rw (first_is, letters_are) (other_inside (drop 1 body) ∙ by_letters)

pub returns-in_default : goal.returns-in_default
returns-in_default c = refuse _ (λ s. omega (arith, s.long, c.in_default.len_below))

pub returns-then-n-gt-MOST : goal.returns-then-n-gt-MOST
returns-then-n-gt-MOST c =
    let body = c.args.body.now in
    let letters = ap length (to_the_end body 1) in
    let n = c.from-n.ensures in
    elim c.then-n-gt-MOST.branch [
      | long w ↦ refuse body (λ s. omega (arith, s.is.most, s.word_size, n, w.if-n-gt-MOST.true))
      | no_stem w ↦ refuse body (λ s. omega (arith, s.is.some_stem, s.stem_size, n, letters, length-drop 1 body, w.if-size-n.true))
      | long_stem w ↦
          refuse body (λ s. omega (arith, s.is.no_more, s.word_size, s.stem_size, n, letters, length-drop 1 body, w.if-n-size.true))
    ]

pub returns : goal.returns
returns c =
    let letters = to_the_end c.args.body.now 1 in
    judged _ c.from-n.ensures c.if-n-gt-MOST.false (rw letters at c.if-size-n.false) (rw letters at c.if-n-size.false) letters
    c.first_other.ensures
