-- What `ok_or` tells of an option: that something was found, or that nothing was, and why the call is refused.
use Rattle.std.proofs.Common.{◌≡◌, refl, ok_or, Option, Some, None, Ok, Err}
use Rattle.paper.specs.TestLaws.{apart}

pub some_found : {A E : Type 0} (found : Option A) (refusal : E) {one : A} → ok_or found refusal ≡ Ok one → found ≡ Some one
some_found (Some other) refusal is = cc
some_found None refusal is = apart (cc)

pub none_found : {A E : Type 0} (found : Option A) (refusal : E) {given : E} → ok_or found refusal ≡ Err given
    → (found ≡ None) × (given ≡ refusal)
none_found (Some other) refusal is = apart (cc)
none_found None refusal is = (refl, cc)
