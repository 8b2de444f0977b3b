use Prim.Native.Nat.{◌+◌}
use native.Mathlib.Numerals.{add-one}
use native.Mathlib.Omega.{arith}
use mathlib.Core.Path.{◌≡◌, sym, ap, ◌∙◌}
use borrow.Author.Tests.{lt-leb}
use lib.ListN.{length, get_or, set}
use lib.Seq.{paste, paste-suc, set-get_or}
use Rattle.places.specs.Put.{put_at, put_fits}
use Rattle.places.proofs.put.Goals as goal
use Rattle.places.proofs.put.Goals.{else-place-at, then-place-at}

pub returns-then-place-letters : goal.returns-then-place-letters
unfolding put_at
returns-then-place-letters c = rw (lt-leb (c.args.at + length c.args.letters.now) (length c.args.place.now) (omega arith))

pub returns-then-place-letters-2 : goal.returns-then-place-letters-2
unfolding put_at
returns-then-place-letters-2 c = rw (lt-leb (c.args.at + length c.args.letters.now) (length c.args.place.now) (omega arith))

pub loop-i-preserved : goal.loop-i-preserved
loop-i-preserved c = let now-at = c.loop-i in
    let letters = c.args.letters.now in
    let stored = paste-suc c.args.place.now c.args.at letters now-at.i 0 (omega arith) (omega arith) in
    let written : c.if-place-at.place ≡ set now-at.place (c.args.at + now-at.i) (get_or letters now-at.i 0) =
    elim c.if-place-at.branch [ then-place-at w ↦ cc | else-place-at w ↦ cc (set-get_or now-at.place (c.args.at + now-at.i) 0) ] in
    written ∙ rw (now-at.invariant, add-one) stored

pub returns : goal.returns
returns c = let now-at = c.loop-i in
    let s = c.args in
    let all : now-at.i ≡ length s.letters.now = omega arith in
    now-at.invariant
    ∙ ap (paste s.place.now s.at s.letters.now) all
    ∙ sym (put_fits s.place.now s.at s.letters.now (omega arith))
