-- What groups leave of a word one after the other, up to what the shipped rules leave.
use Rattle.std.specs.Prelude.{ℕ, ◌≤◌, ◌≡◌, cond, List, length, take, Some, None}
use Rattle.std.specs.declared.option.Option.{Option}
use Rattle.std.proofs.Math.Option.{none}
use Rattle.paper.specs.Groups.{Rule, obeyed, opens_next, done}
use Rattle.paper.specs.FirstFits.{NoneFits, rule_of}
use Rattle.paper.specs.Shipped.{group_3, group_4, group_5a, group_5b, shipped}
use Rattle.paper.specs.Words.{read_word}
use Rattle.blocks.specs.declared.Block.{Block}
use Rattle.groups.specs.Reads.{leaves, Stands}

-- of the n rules of a group none outside a block ends the word
abbrev pub Outside : List Rule → ℕ → ℕ → ℕ → List ℕ → Type 0
Outside rules from to n word = (to ≤ n) × (NoneFits (rule_of rules) 0 from word × NoneFits (rule_of rules) to n word)

-- what is read of a group for a word: the rules of the block, or none, as it obeys none
abbrev pub Compared : List Rule → List ℕ → Option Block → Type 0
Compared rules word (Some block) = Outside rules block.from block.to (length rules) word
Compared rules word None = obeyed word rules ≡ none

-- what a group leaves, and the next one where it is opened
unfoldable pub leaves_opened : List Rule → List Rule → List ℕ → List ℕ
leaves_opened rules next word = cond (opens_next (obeyed word rules)) (leaves next (leaves rules word)) (leaves rules word)

-- what stands in the place of a word that both were read in
pub record WrittenOpened (rules next : List Rule) (word place states : List ℕ) (r : ℕ) : Type 0 where
  pub left : take r place ≡ leaves_opened rules next word
  pub stands : Stands place states r

-- what the last four groups leave, which only cut
abbrev pub leaves_last : List ℕ → List ℕ
leaves_last word = leaves group_5b (leaves group_5a (leaves group_4 (leaves group_3 word)))

-- so many letters of the place are what the shipped rules leave of the word that stood there
abbrev pub ReadStands : List ℕ → List ℕ → ℕ → Type 0
ReadStands word place len = (len ≤ length word) × (read_word shipped word ≡ done (take len place))
