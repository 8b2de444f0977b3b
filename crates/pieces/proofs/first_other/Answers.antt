-- `pieces::first_other` meets its contract: the first byte that passes the test of the closure is the first outside a to z.
use Rattle.std.proofs.Common.{rules, ◌≡◌, ℕ, ◌+◌, ◌≤◌, true, false, Bool, cond, not, List, length, Option, Some, None}
use Rattle.std.proofs.Common.{refl, sym, ap, ◌∙◌, arith, ltb, ltb-false}
use Rattle.std.specs.List.{position_or_len}
use Rattle.std.specs.Option.{unwrap_or}
use Rattle.std.proofs.lemmas.Iterator.{YieldsList-from_slice}
use Rattle.std.proofs.lemmas.Iterator.Search.{position_from_yields_List}
use Rattle.std.proofs.lemmas.List.Recursion.{is_position_or_len}
use Rattle.paper.specs.Words.{small, first_other}
use Rattle.paper.specs.WordsLaws.{first_inside}
use Rattle.pieces.proofs.first_other.Goals as goal

other_first : (byte : ℕ) (bytes : List ℕ) → (test : Bool) → small byte ≡ test
    → cond test (ℕ.suc (first_other bytes)) 0 ≡ cond (not test) 0 (1 + first_other bytes)
other_first byte bytes true is = omega arith
other_first byte bytes false is = refl

is_first : (word : List ℕ) → first_other word ≡ position_or_len (λ b. not (small b)) word
unfolding first_other
is_first = is_position_or_len first_other (λ b. not (small b)) refl (λ byte bytes. other_first byte bytes (small byte) refl)

or_length : (n m : ℕ) → n ≤ m → (test : Bool) → ltb n m ≡ test → unwrap_or (cond test (Some n) None) m ≡ n
or_length n m within true is = refl
or_length n m within false is = omega (arith, ltb-false n m is)

pub returns : goal.returns
returns c =
    let word = c.args.word.now in
    let at = position_or_len (λ b. not (small b)) word in
    let found : c.position-other.result ≡ cond (ltb at (length word)) (Some at) None =
    position_from_yields_List (λ b. not (small b)) _ _ _ c.position-other.ensures.ran (YieldsList-from_slice word cc) (λ x b q k. search rules)
    in
    let is : first_other word ≡ at = is_first word in
    let within : at ≤ length word = omega (arith, first_inside word) in
    c.unwrap_or.ensures
    ∙ ap (λ (o : Option ℕ). unwrap_or o (length word)) found
    ∙ or_length at (length word) within (ltb at (length word)) refl
    ∙ sym is
