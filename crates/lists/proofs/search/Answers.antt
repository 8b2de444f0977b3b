use Rattle.std.proofs.Common.{ℕ, ◌+◌, ◌-◌, ◌≡◌, ◌≤◌, ◌<◌, true, refl, sym, ap, ap₂, ◌∙◌, arith}
use Rattle.std.proofs.Common.{List, length, take, length-take, drop, Some, None}
use Rattle.records.specs.Framing.{body, body_place, record_length, after, next_place}
use Rattle.records.specs.FramingLaws.{FramedAt, framed, within}
use Rattle.paper.specs.ListLaws.{to_the_end}
use Rattle.lists.specs.Searches.{is_for, Listed}
use Rattle.lists.specs.EntryLaws.{fitting}
use Rattle.lists.specs.Searching.{all_left, left_cut, left_listed, left_past}
use Rattle.lists.proofs.search.Goals as goal
use Rattle.lists.proofs.search.Goals.{After-is_for, In-Some}

-- what the frame says of the record that stands first in the rest
frame-of : (c : In-Some)
    → (let frame = c.in-Some.frame in
    FramedAt c.loop-frame.rest.now 0 frame.kind frame.body frame.next)
frame-of c = framed c.loop-frame.rest.now 0 (Some c.in-Some.frame) (sym c.in-Some.ensures.frame)

-- the first record of the rest ends where its length says
first_next : (rest : List ℕ) → next_place rest 0 ≡ record_length rest
unfolding next_place record_length
first_next rest = omega arith

-- what is left behind it is shorter
shorter : (c : In-Some)
    → (let rest = c.loop-frame.rest.now in
    let next = c.in-Some.frame.next in
    length (take (length rest - next) (drop next rest)) < length rest)
shorter c =
    let rest = c.loop-frame.rest.now in
    let next = c.in-Some.frame.next in
    let is = frame-of c in
    omega (arith, length-take (length rest - next) (drop next rest), within rest is.whole, is.next_is, first_next rest)

-- whether that record is for the word
judged : (c : After-is_for) (is : FramedAt c.loop-frame.rest.now 0 c.in-Some.frame.kind c.in-Some.frame.body c.in-Some.frame.next)
    → c.is_for.result ≡ is_for (body c.loop-frame.rest.now) c.args.word.now
judged c is = c.is_for.ensures ∙ ap (λ (l : List ℕ). is_for l c.args.word.now) is.body_is

-- where it is, it has room for the byte n and the word's letters
roomy : (c : After-is_for) → c.is_for.result ≡ true → c.in-Some.frame.body + 1 + length c.args.word.now ≤ c.in-Some.frame.next
roomy c is =
    let frame = c.in-Some.frame in
    omega (
      arith,
      (fitting _ c.args.word.now (sym c.is_for.ensures ∙ is)).long,
      length-take (frame.next - frame.body) (drop frame.body c.loop-frame.rest.now),
    )

pub loop-frame-init : goal.loop-frame-init
loop-frame-init c = all_left _ _

pub slice_bounds-result-count : goal.slice_bounds-result-count
slice_bounds-result-count c = omega (arith, roomy (goal.at.slice_bounds-result-count c).After-is_for c.if-is_for.true)

pub slice_bounds-result-start : goal.slice_bounds-result-start
slice_bounds-result-start c = omega (arith, roomy (goal.at.slice_bounds-result-start c).After-is_for c.if-is_for.true)

pub returns-then-is_for : goal.returns-then-is_for
unfolding body_place
returns-then-is_for c =
    let at = goal.at.returns-then-is_for c in
    let there = frame-of at.In-Some in
    let before : ℕ = length c.args.list.now - length c.loop-frame.rest.now in
    let n : ℕ = length c.args.word.now in
    let start : before + c.in-Some.frame.body + 1 + n ≡ before + (5 + n) = omega (arith, there.place_is) in
    let end = ap (λ (n : ℕ). before + n) (there.next_is ∙ first_next c.loop-frame.rest.now) in
    let is = sym (judged at.After-is_for there) ∙ c.if-is_for.true in
    let found = ap₂ Listed start end ∙ left_listed c.loop-frame.invariant there.whole is in
    rw (← found) (refl, refl)

pub loop-frame-smaller : goal.loop-frame-smaller
loop-frame-smaller c = shorter (goal.at.loop-frame-smaller c).In-Some

pub loop-frame-preserved : goal.loop-frame-preserved
unfolding record_length after
loop-frame-preserved c =
    let at = goal.at.loop-frame-preserved c in
    let is = frame-of at.In-Some in
    let other = sym (judged at.After-is_for is) ∙ c.if-is_for.false in
    rw (to_the_end c.loop-frame.rest.now c.in-Some.frame.next, is.next_is, first_next c.loop-frame.rest.now)
    (left_past c.loop-frame.invariant is.whole other)

pub returns : goal.returns
returns c =
    let short = framed c.loop-frame.rest.now 0 None (sym c.in_default.ensures.frame) in
    rw (← left_cut c.loop-frame.invariant short) tt
