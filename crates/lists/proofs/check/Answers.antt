use Rattle.std.proofs.Common.{ℕ, ◌≡◌, sym, ap, subst, refl, ◌∙◌, List, ok_or, Option, Some, None, Ok, Err, arith}
use Rattle.std.proofs.lemmas.Result.{err_from_is_err_and}
use Rattle.answers.proofs.Found.{some_found, none_found}
use Rattle.lists.specs.Searches.{item_at}
use Rattle.lists.specs.ListSteps.{EntryAt, Says, item_says}
use Rattle.lists.specs.CheckLaws.{starts, past_word, at_close, at_fault}
use Rattle.lists.specs.declared.Item.{Item}
use Rattle.lists.specs.declared.Item.TheVariants.{Word, Close}
use Rattle.lists.proofs.check.Goals as goal
use Rattle.lists.proofs.check.Goals.{In-Word}

-- the only other item is the close
the_close : (item : Item) → ((next : ℕ) → item ≡ Word next → ⊥) → item ≡ Close
the_close (Word next) other = absurd (other next refl)
the_close Close other = refl

-- what the item that was told says of the record
told : (list : List ℕ) (at : ℕ) {result : Option Item} (item : Option Item) → result ≡ item_at list at → result ≡ item → Says list at item
told list at item ensures is = subst (Says list at) (sym ensures ∙ is) (item_says list at)

word_of : (c : In-Word) → EntryAt c.args.list.now c.loop-next.at c.in-Word.next
word_of c =
    told _ _ (Some (Word c.in-Word.next)) c.item_at.ensures
    (some_found c.item_at.result _ (sym c.in_ok-next.ensures.value) ∙ ap Some c.in-Word.is)

pub loop-next-init : goal.loop-next-init
loop-next-init c = (omega arith, omega arith, starts c.args.list.now)

pub returns-in_err-next : goal.returns-in_err-next
returns-in_err-next c =
    let p = err_from_is_err_and c.from_residual.result c.from_residual.ensures.1 in
    let none = none_found c.item_at.result _ (sym c.in_err-next.ensures.value) in
    rw (p.1, p.2, none.1) (at_fault c.loop-next.invariant.2 (told _ _ None c.item_at.ensures none.0))

pub loop-next-smaller : goal.loop-next-smaller
loop-next-smaller c = let found = word_of (goal.at.loop-next-smaller c).In-Word in omega (arith, found.forward, found.inside)

pub loop-next-preserved : goal.loop-next-preserved
loop-next-preserved c =
    let found = word_of (goal.at.loop-next-preserved c).In-Word in
    let turn = c.loop-next in
    (found.inside, omega (arith, found.forward, turn.invariant.1), past_word turn.invariant.2 found)

pub returns : goal.returns
returns c =
    let item = some_found c.item_at.result _ (sym c.in_ok-next.ensures.value) in
    at_close c.loop-next.invariant.2 (told _ _ (Some Close) c.item_at.ensures (item ∙ ap Some (the_close _ c.in_default.not-Word)))
