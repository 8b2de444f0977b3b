-- `lunarbugle_text_listed` meets its contract: an offset is cut to what can be packed, and beside it no word is left.
use Prim.Native.Nat.{ℕ}
use mathlib.Core.Path.{◌≡◌, refl, ◌∙◌}
use mathlib.Core.List.{List}
use mathlib.Core.Logic.{⊎_elim}
use native.Mathlib.Omega.{arith}
use Rattle.paper.specs.Shipped.{shipped}
use Rattle.paper.specs.Words.{stem}
use Rattle.texts.specs.ListedTexts.{listed_text}
use Rattle.texts.specs.ListedLaws.{Bounds}
use Rattle.texts.proofs.ListedLaws.{listed_bounds}
use Rattle.lunarbugle.specs.Packed.{packed_listed_text}
use Rattle.lunarbugle.proofs.lunarbugle_text_listed.Goals as goal
use Rattle.lunarbugle.proofs.lunarbugle_text_listed.Goals.{After-text_in_numbers-reply}

-- the three numbers are the outcome's
record Told (list text : List ℕ) (number stemmed left : ℕ) : Type 0 where
  is_number : number ≡ (listed_text (stem shipped) list text).number
  is_stemmed : stemmed ≡ (listed_text (stem shipped) list text).stemmed
  is_left : left ≡ (listed_text (stem shipped) list text).left
  bounds : Bounds (stem shipped) list text

told : (c : After-text_in_numbers-reply)
    → (let reply = c.text_in_numbers-reply.result in
    Told c.args.list.now c.args.text.now reply.number reply.stemmed reply.left)
told c =
    let gives = c.run_listed.ensures in
    let says = c.text_in_numbers-reply.ensures in
    record {
      is_number = says.number ∙ gives.number_is;
      is_stemmed = says.stemmed ∙ gives.stemmed_is;
      is_left = says.left ∙ gives.left_is;
      bounds = listed_bounds (stem shipped) _ _;
    }

pub pack_text-requires : goal.pack_text-requires
pack_text-requires c =
    let is = told (goal.at.pack_text-requires c).After-text_in_numbers-reply in
    let number = is.is_number in
    let left = is.is_left in
    let bounds = is.bounds in
    ⊎_elim (λ none. omega (arith, none, bounds.number)) (λ few. omega (arith, few, is.is_stemmed, bounds.number, bounds.left))
    bounds.either

pub returns : goal.returns
unfolding packed_listed_text
returns c =
    let is = told (goal.at.returns c).After-text_in_numbers-reply in
    record {
      value = c.pack_text.ensures ∙ rw (is.is_number, is.is_stemmed, is.is_left) refl;
      text_after = c.run_listed.ensures.text_is;
    }
