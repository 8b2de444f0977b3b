-- Document 01, "Numbers returned": what the run of a table on a word answers, and what it leaves in the word's place.
use Rattle.std.specs.Prelude.{ℕ, ◌*◌, cond, List, take}
use Rattle.paper.specs.Nodes.{node_count}
use Rattle.paper.specs.Words.{Outcome, refused, word_outcome}
use Rattle.sheets.specs.Sheets.{Sheet, refused as faulty, accepted, read_sheet}
use Rattle.judging.specs.Judgements.{right_table}
use Rattle.paths.specs.Children.{nodes_in}
use Rattle.walks.specs.Walk.{walk_word}

-- "3, 7, 1, 2, 4 for a table run"; "Every refusal leaves all that was lent unchanged."
unfoldable pub run_of : Sheet → List ℕ → List ℕ → Outcome
run_of (faulty place) table word = refused 3 place word
run_of (accepted groups) table word =
    cond (right_table groups table) (word_outcome (walk_word (nodes_in (take (4 * node_count groups) table)) groups) word)
    (refused 7 0 word)

-- what a run of a table on a word gives
unfoldable pub run_outcome : List ℕ → List ℕ → List ℕ → Outcome
run_outcome sheet table word = run_of (read_sheet sheet) table word
