-- The lookup's contract settles the part: any two that it allows have the same bytes, and stand at the same place of the same slice.
use Rattle.std.specs.Prelude.{ℕ, ◌≡◌, List}
use Rattle.std.proofs.Common.{ap}
use Rattle.std.proofs.Math.Option.{Option, none, some}
use Rattle.std.specs.Borrow.{Bor}
use Rattle.paper.specs.Settled.{settled}
use Rattle.lists.specs.Lists.{find}
use Rattle.lists.specs.Calls.{held, Answers, LookedUp}

module _ (list word one other : Bor (List ℕ)) where
  by_answer : (found : Option (List ℕ)) → Answers list word one found → Answers list word other found
      → (one.now ≡ other.now) × (one.ref_ptr ≡ other.ref_ptr)
  by_answer (some stem) a b = (settled a.0 b.0, settled a.1 b.1)
  by_answer none a b = (ap (λ x. x.now) (settled a b), ap (λ x. x.ref_ptr) (settled a b))

  pub looked_up_one : LookedUp list word one → LookedUp list word other → (one.now ≡ other.now) × (one.ref_ptr ≡ other.ref_ptr)
  looked_up_one a b = by_answer (find (held list.now) word.now) a b
