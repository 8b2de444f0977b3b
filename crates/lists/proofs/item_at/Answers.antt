-- `lists::item_at` meets its contract: the frame says whether the record is cut, and the test of its kind the rest.
use Rattle.std.proofs.Common.{ℕ, ◌-◌, ◌≡◌, sym, ◌∙◌, Bool, true, not, cond, ◌||◌, Some, None, List, length, take, drop, eqb, arith}
use borrow.Author.Tests.{ne_eqb}
use Rattle.records.specs.Framing.{kind, cut}
use Rattle.records.specs.FramingLaws.{FramedAt, framed}
use Rattle.records.specs.FrameCases.{end_judged}
use Rattle.lists.specs.Lists.{faulty_entry, faulty}
use Rattle.lists.specs.Searches.{item_at}
use Rattle.lists.specs.declared.Item.TheVariants.{Word, Close}
use Rattle.lists.proofs.item_at.Goals as goal
use Rattle.lists.proofs.item_at.Goals.{In_ok-frame}

module _ (list : List ℕ) (at : ℕ) where
  cut_here : cut (drop at list) ≡ true → None ≡ item_at list at
  unfolding item_at faulty
  cut_here short = rw short

  module _ {k b next : ℕ} (is : FramedAt list at k b next) where
    kind_of : {n : ℕ} → k ≡ n → kind (drop at list) ≡ n
    kind_of known = sym is.kind_is ∙ known

    word_here : {test : Bool} → k ≡ 4 → test ≡ faulty_entry (take (next - b) (drop b list))
        → cond test None (Some (Word next)) ≡ item_at list at
    unfolding item_at faulty
    word_here four judged = rw (is.whole, kind_of four, ← is.body_is, ← judged, ← is.next_is)

    close_here : {test : Bool} → k ≡ 3 → test ≡ (not (eqb next b) || not (eqb next (length list)))
        → cond test None (Some Close) ≡ item_at list at
    unfolding item_at faulty
    close_here three judged = rw (is.whole, kind_of three, ← end_judged list at is, ← judged)

    other_here : (k ≡ 4 → ⊥) → (k ≡ 3 → ⊥) → None ≡ item_at list at
    unfolding item_at faulty
    other_here not-four not_three = simp (is.whole, ← is.kind_is, ne_eqb k 4 not-four, ne_eqb k 3 not_three)

-- what the frame says
frame-of : (c : In_ok-frame)
    → (let frame = c.in_ok-frame.frame in
    FramedAt c.args.list.now c.args.at frame.kind frame.body frame.next)
frame-of c = framed c.args.list.now c.args.at (Some c.in_ok-frame.frame) (sym c.in_ok-frame.ensures.frame)

pub returns-in_err-frame : goal.returns-in_err-frame
returns-in_err-frame c =
    let args = c.args in
    rw c.from_residual.ensures (cut_here args.list.now args.at (framed args.list.now args.at None (sym c.in_err-frame.ensures.frame)))

pub returns-in-3 : goal.returns-in-3
returns-in-3 c =
    close_here _ _ (frame-of (goal.at.returns-in-3 c).In_ok-frame) c.in-3.is
    (sym c.if-not-faulty_end.true ∙ c.faulty_end.ensures)

pub returns-in-4 : goal.returns-in-4
returns-in-4 c =
    word_here _ _ (frame-of (goal.at.returns-in-4 c).In_ok-frame) c.in-4.is
    (sym c.if-not-faulty_entry.true ∙ c.faulty_entry.ensures)

pub returns-in_default : goal.returns-in_default
returns-in_default c =
    close_here _ _ (frame-of (goal.at.returns-in_default c).In_ok-frame) c.in-3.is
    (sym c.if-not-faulty_end.false ∙ c.faulty_end.ensures)

pub returns-in_default-2 : goal.returns-in_default-2
returns-in_default-2 c =
    word_here _ _ (frame-of (goal.at.returns-in_default-2 c).In_ok-frame) c.in-4.is
    (sym c.if-not-faulty_entry.false ∙ c.faulty_entry.ensures)

pub returns-in_default-3 : goal.returns-in_default-3
returns-in_default-3 c =
    other_here _ _ (frame-of (goal.at.returns-in_default-3 c).In_ok-frame) (λ is. omega (arith, is)) (λ is. omega (arith, is))
