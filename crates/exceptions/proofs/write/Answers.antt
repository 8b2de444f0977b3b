-- `exceptions::write` meets its contract: the stem that is found has room, and stands first; behind it are spaces.
use Rattle.std.proofs.Common.{ℕ, ◌+◌, ◌-◌, ◌≤◌, ◌≡◌, refl, ap, ◌∙◌, List, ◌++◌, length, take, arith}
use Rattle.paper.specs.Words.{spaces, placed}
use Rattle.places.specs.Put.{put_at, put_behind}
use Rattle.lists.specs.SearchLaws.{searched_stands, stem_room, lent_stem, nothing_lent}
use Rattle.exceptions.proofs.write.Goals as goal

-- a stem that has room, put first, and spaces behind it
filled : (word stem put after : List ℕ) (size : ℕ) → size ≡ length stem → length stem ≤ length word → length put ≡ length word
    → put ≡ put_at word 0 stem
    → after ≡ take size put ++ spaces (length put - size)
    → after ≡ placed word stem
unfolding placed
filled word stem put after size is room same_length put_is after_is =
    let all : size ≡ 0 + length stem = omega arith in
    let first : take size (put_at word 0 stem) ≡ stem =
    ap (λ (n : ℕ). take n (put_at word 0 stem)) all ∙ put_behind word 0 stem (omega arith)
    in
    after_is ∙ rw (same_length, put_is, first, is) refl

pub returns-in_err-stem : goal.returns-in_err-stem
returns-in_err-stem c =
    let args = c.args in
    let is = nothing_lent args.list _ _ c.in_err-stem.ensures (searched_stands args.list.now args.word.now) in
    rw c.from_residual.ensures (record { value = rw is refl; word_after = rw is refl })

pub returns : goal.returns
returns c =
    let args = c.args in
    let stem = c.in_ok-stem.stem in
    let is = lent_stem args.list _ _ stem c.in_ok-stem.ensures (searched_stands args.list.now args.word.now) in
    let room = stem_room args.list.now args.word.now is in
    record {
      value = rw is refl;
      word_after = rw is (filled _ _ _ _ _ refl room c.put.auto.place c.put.ensures c.fill.ensures);
    }
