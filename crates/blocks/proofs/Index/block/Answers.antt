-- `blocks::Index::block` meets its contract: each table names what its index does, by one computed test over all letters.
use mathlib.Core.Path.{◌≡◌, refl, sym, ◌∙◌}
use mathlib.Core.Bool.{true}
use Rattle.paper.specs.Words.{small}
use Rattle.blocks.specs.Blocks.{block_at, names}
use Rattle.blocks.specs.Indexes.{index_of, index_2, index_3, index_4}
use Rattle.blocks.specs.BlocksLaws.{below}
use Rattle.blocks.specs.Named.{tabled, table_named, all_pass, other_named}
use Rattle.blocks.specs.declared.Index.{Index}
use Rattle.blocks.specs.declared.Index.TheVariants.{Step2, Step3, Step4}
use Rattle.blocks.proofs.Index.block.Goals as goal
use Rattle.blocks.proofs.Index.block.Goals.{in-Step2, in-Step3, in-Step4}

all_small : (index : Index) → all_pass small (index_of index) ≡ true
unfolding all_pass index_2 index_3 index_4
all_small Step2 = refl
all_small Step3 = refl
all_small Step4 = refl

pub returns-then-not-is_ascii_lowercase : goal.returns-then-not-is_ascii_lowercase
returns-then-not-is_ascii_lowercase c =
    let other = sym c.is_ascii_lowercase.ensures.value ∙ c.if-not-is_ascii_lowercase.true in
    other_named small (index_of c.args.self) (all_small c.args.self) _ 0 0 0 other

pub returns : goal.returns
unfolding tabled below names block_at index_2 index_3 index_4
returns c =
    let named : tabled (index_of c.args.self) c.match-self.blocks.now ≡ true = elim c.match-self.branch [
      | in-Step2 w ↦ rw (w.in-Step2.is, w.blocks-is) refl
      | in-Step3 w ↦ rw (w.in-Step3.is, w.blocks-is) refl
      | in-Step4 w ↦ rw (w.in-Step4.is, w.blocks-is) refl
    ] in
    let is = sym c.is_ascii_lowercase.ensures.value ∙ c.if-not-is_ascii_lowercase.false in
    table_named (index_of c.args.self) c.match-self.blocks.now named _ _ is c.from.ensures
