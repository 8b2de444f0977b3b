-- `lunarbugle_text` meets its contract: the numbers of the outcome are small enough to be packed.
use Prim.Native.Nat.{ℕ, ◌+◌, ◌≤◌}
use mathlib.Core.Path.{◌≡◌, ◌∙◌}
use mathlib.Core.List.{List}
use native.Mathlib.Omega.{arith}
use Rattle.paper.specs.Shipped.{shipped}
use Rattle.paper.specs.Words.{stem}
use Rattle.texts.specs.Texts.{text_outcome}
use Rattle.texts.specs.OutcomeLaws.{number_within}
use Rattle.texts.proofs.OutcomeLaws.{counts_within}
use Rattle.lunarbugle.specs.Packed.{packed_text}
use Rattle.lunarbugle.proofs.lunarbugle_text.Goals as goal
use Rattle.lunarbugle.proofs.lunarbugle_text.Goals.{After-text_in_numbers-reply}

-- the three numbers are the outcome's, and small
record Told (text : List ℕ) (number stemmed left : ℕ) : Type 0 where
  is_number : number ≡ (text_outcome (stem shipped) text).number
  is_stemmed : stemmed ≡ (text_outcome (stem shipped) text).stemmed
  is_left : left ≡ (text_outcome (stem shipped) text).left
  small : number ≤ 5
  few : stemmed + left ≤ 65536

told : (c : After-text_in_numbers-reply)
    → Told c.args.text.now c.text_in_numbers-reply.result.number c.text_in_numbers-reply.result.stemmed c.text_in_numbers-reply.result.left
told c =
    let text = c.args.text.now in
    let gives = c.run.ensures in
    let says = c.text_in_numbers-reply.ensures in
    let number = says.number ∙ gives.number_is in
    let stemmed = says.stemmed ∙ gives.stemmed_is in
    let left = says.left ∙ gives.left_is in
    record {
      is_number = number;
      is_stemmed = stemmed;
      is_left = left;
      small = omega (arith, number, number_within (stem shipped) text);
      few = omega (arith, stemmed, left, counts_within (stem shipped) text);
    }

pub pack_text-requires : goal.pack_text-requires
pack_text-requires c = let is = told (goal.at.pack_text-requires c).After-text_in_numbers-reply in omega (arith, is.small, is.few)

pub returns : goal.returns
unfolding packed_text
returns c =
    let is = told (goal.at.returns c).After-text_in_numbers-reply in
    record {
      value = omega (arith, c.pack_text.ensures, is.is_number, is.is_stemmed, is.is_left, is.few);
      text_after = c.run.ensures.text_is;
    }
