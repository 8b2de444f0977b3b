-- The search in a list, record by record: what is known after so many of them.
use Prim.Native.Nat.{ℕ, zero, suc, ◌+◌, ◌-◌, ◌≤◌}
use Rattle.std.specs.Prelude.{◌≡◌, true, false, List, drop}
use Rattle.std.proofs.Math.Path.{refl}
use Rattle.std.proofs.Common.{sym, ap, ◌∙◌, arith}
use Rattle.std.proofs.Math.ListN.{length}
use Rattle.records.specs.Framing.{body, record_length, after, cut, next_place}
use Rattle.records.specs.FramingLaws.{within, length_after, beyond, next_inside}
use Rattle.lists.specs.Searches.{Listed, Unlisted, is_for, search_rest, searched}

-- the search in the whole list is that in what is left from a place on
pub record State (list word : List ℕ) (at : ℕ) : Type 0 where
  pub steps : ℕ
  pub enough : length list ≤ at + steps
  pub left : search_rest steps at (drop at list) word ≡ searched list word

module _ (list word : List ℕ) where
  pub starts : State list word 0
  unfolding searched
  starts = record { steps = length list; enough = omega arith; left = refl }

module _ {list word : List ℕ} {at : ℕ} (state : State list word at) where
  pub at_cut : cut (drop at list) ≡ true → Unlisted ≡ searched list word
  unfolding search_rest
  at_cut short = go state.steps state.left
    where
      go : (steps : ℕ) → search_rest steps at (drop at list) word ≡ searched list word → Unlisted ≡ searched list word
      go zero left = left
      go (suc steps) left = rw short at left

  module _ (whole : cut (drop at list) ≡ false) where
    pub past_record : is_for (body (drop at list)) word ≡ false → State list word (next_place list at)
    unfolding search_rest next_place
    past_record other = go state.steps state.enough state.left
      where
        go : (steps : ℕ) → length list ≤ at + steps → search_rest steps at (drop at list) word ≡ searched list word
            → State list word (next_place list at)
        go zero enough left = absurd (omega (arith, next_inside list at whole))
        go (suc steps) enough left =
            record {
              steps = steps;
              enough = let ahead = next_inside list at whole in omega arith;
              left = rw (beyond list at) (rw (whole, other) at left);
            }

    pub at_listed : is_for (body (drop at list)) word ≡ true
        → Listed (at + (5 + length word)) (next_place list at) ≡ searched list word
    unfolding search_rest next_place
    at_listed is = go state.steps state.enough state.left
      where
        go : (steps : ℕ) → length list ≤ at + steps → search_rest steps at (drop at list) word ≡ searched list word
            → Listed (at + (5 + length word)) (next_place list at) ≡ searched list word
        go zero enough left = absurd (omega (arith, next_inside list at whole))
        go (suc steps) enough left = rw (whole, is) at left

-- what is left of a list, by itself
pub record Left (list word rest : List ℕ) : Type 0 where
  pub within : length rest ≤ length list
  pub is : rest ≡ drop (length list - length rest) list
  pub state : State list word (length list - length rest)

module _ (list word : List ℕ) where
  pub all_left : Left list word list
  all_left =
      let none : length list - length list ≡ 0 = omega arith in
      record { within = omega arith; is = rw none refl; state = rw none (starts list word) }

module _ {list word rest : List ℕ} (left : Left list word rest) where
  pub left_cut : cut rest ≡ true → Unlisted ≡ searched list word
  left_cut short = at_cut left.state (ap cut (sym left.is) ∙ short)

  module _ (whole : cut rest ≡ false) where
    left_next : next_place list (length list - length rest) ≡ length list - length rest + record_length rest
    unfolding next_place
    left_next = ap (λ (l : List ℕ). length list - length rest + record_length l) (sym left.is)

    there : cut (drop (length list - length rest) list) ≡ false
    there = ap cut (sym left.is) ∙ whole

    pub left_listed : is_for (body rest) word ≡ true
        → Listed (length list - length rest + (5 + length word)) (length list - length rest + record_length rest) ≡ searched list word
    left_listed is =
        ap (Listed (length list - length rest + (5 + length word))) (sym left_next)
        ∙ at_listed left.state there (ap (λ (l : List ℕ). is_for (body l) word) (sym left.is) ∙ is)

    pub left_past : is_for (body rest) word ≡ false → Left list word (after rest)
    left_past other =
        let size = length_after rest in
        let inside = within rest whole in
        let all = left.within in
        let next : length list - length (after rest) ≡ next_place list (length list - length rest) = omega (arith, left_next) in
        record {
          within = omega arith;
          is = rw (next, beyond list (length list - length rest)) (ap after left.is);
          state =
              rw next (past_record left.state there (ap (λ (l : List ℕ). is_for (body l) word) (sym left.is) ∙ other));
        }
