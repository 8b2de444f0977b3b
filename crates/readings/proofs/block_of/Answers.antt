-- `readings::block_of` meets its contract: a word that is too short or passes no filter obeys no rule of the group.
use mathlib.Core.Path.{sym, ◌∙◌}
use Rattle.paper.specs.FirstFits.{undecided}
use Rattle.blocks.specs.Indexes.{group_of, index_of}
use Rattle.blocks.specs.Named.{only_named, none_named}
use Rattle.readings.proofs.Tests.{keeps_of, short_of}
use Rattle.readings.proofs.block_of.Goals as goal

pub returns-then-word-lt3 : goal.returns-then-word-lt3
returns-then-word-lt3 c = short_of c.args.index c.args.word.now c.if-word-lt3.true

pub returns-then-keeps : goal.returns-then-keeps
returns-then-keeps c = let index = c.args.index in
    only_named (group_of index) (index_of index) (keeps_of index) _ _ _ _ _ c.block-block.ensures c.args.word.now
    c.letter_at.ensures (sym c.keeps.ensures ∙ c.if-keeps.true)

pub returns-else-keeps : goal.returns-else-keeps
returns-else-keeps c = let index = c.args.index in
    undecided c.args.word.now (group_of index)
    (none_named (group_of index) (index_of index) (keeps_of index) _ _ _ _ _ c.block-block.ensures c.args.word.now
    c.letter_at.ensures (sym c.keeps.ensures ∙ c.if-keeps.false))
