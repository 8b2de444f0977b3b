-- Demand 3: "For every rule sheet that 01 accepts, and every word of 1 to 64 small letters, walking the table made from that
-- sheet gives the same word, or the same refusal, as reading the sheet itself group by group. The table made from the
-- shipped sheet gives the stem of demand 2." Of walks it holds for all groups within 01's bounds, which are those of accepted
-- sheets, and all words; of what runs, for every sheet that was translated, and for the sheet and the table that are delivered. The last
-- sentence "holds for words of 3 letters or more, as sheets themselves are read as before" (W-201), and not for every shorter word.
use Rattle.std.specs.Prelude.{ℕ, ◌*◌, ◌≤◌, ◌≡◌, true, List, [], ◌++◌, length, take, drop}
use Prim.Native.String.{String}
use Rattle.std.proofs.Common.{sym, ap, ◌∙◌, append-nil, take_at}
use Rattle.paper.specs.Letters.{letters}
use Rattle.paper.specs.Groups.{Group}
use Rattle.paper.specs.GroupsLaws.{same_equal, same_itself}
use Rattle.paper.specs.Nodes.{node_count}
use Rattle.paper.specs.Shipped.{shipped}
use Rattle.paper.specs.Words.{read_word, stem, word_outcome, outcome}
use Rattle.paper.specs.WordsLaws.{stem_longer, outcome_same}
use Rattle.paper.specs.WordSamples.{short_differ}
use Rattle.sheets.specs.Accepted.{groups_of, Accepted}
use Rattle.sheets.specs.Sheets.{accepted, read_sheet}
use Rattle.sheets.specs.SheetBytes.{sheet_of, bounded}
use Rattle.sheets.specs.ShippedSheet.{reads}
use Rattle.sheets.specs.WriteBack.{write_back}
use Rattle.levels.specs.Layout.{table_of}
use Rattle.levels.specs.CountLaws.{table-length}
use Rattle.translations.specs.Translations.{laid_out, translation}
use Rattle.levels.specs.LevelFaithful.{layout_faithful}
use Rattle.translations.specs.AnsweredTranslation.{translated_0, translated_leaves}
use Rattle.siblings.specs.Chains.{nodes_in as chained}
use Rattle.siblings.specs.Layout.{table_of as siblings_of}
use Rattle.siblings.specs.LayoutFaithful.{siblings_faithful}
use Rattle.judging.specs.Judgements.{right_table}
use Rattle.paths.specs.Children.{nodes_in}
use Rattle.walks.specs.Walk.{walk_word}
use Rattle.walks.specs.FaithfulWalks.{faithful_walks_words}
use Rattle.tables.specs.RunOutcomes.{run_of, run_outcome}

-- an accepted sheet's groups are within 01's bounds
pub within_bounds : (sheet : List ℕ) (groups : List Group) → read_sheet sheet ≡ accepted groups → bounded groups ≡ true
within_bounds sheet groups is = (write_back sheet groups is).1

-- ## Of walks

-- the same word, or that some group's result was longer than the word's place
pub demand_3 : (groups : List Group) → bounded groups ≡ true → (word : List ℕ)
    → walk_word (nodes_in (table_of groups)) groups word ≡ read_word groups word
demand_3 groups fits word = faithful_walks_words (nodes_in (table_of groups)) groups (layout_faithful groups fits) word

-- the same number, value and place afterwards
pub demand_3_outcome : (groups : List Group) → bounded groups ≡ true → (word : List ℕ)
    → word_outcome (walk_word (nodes_in (table_of groups)) groups) word ≡ word_outcome (read_word groups) word
demand_3_outcome groups fits word =
    outcome_same (walk_word (nodes_in (table_of groups)) groups) (read_word groups) word (demand_3 groups fits word)

-- W-206: "a walk over the new layout gives what a walk over the old one gave, for every accepted sheet and word"
pub as_before : (sheet : List ℕ) → Accepted sheet → (word : List ℕ)
    → walk_word (nodes_in (table_of (groups_of sheet))) (groups_of sheet) word
    ≡ walk_word (chained (siblings_of (groups_of sheet))) (groups_of sheet) word
as_before sheet is word =
    let groups = groups_of sheet in
    demand_3 groups (within_bounds sheet groups is) word
    ∙ sym (faithful_walks_words (chained (siblings_of groups)) groups (siblings_faithful groups) word)

-- ## Of runs

-- on the right table a run answers what reading the sheet group by group answers
pub right_reads : (groups : List Group) → bounded groups ≡ true → (table word : List ℕ) → right_table groups table ≡ true
    → run_of (accepted groups) table word ≡ word_outcome (read_word groups) word
unfolding run_of right_table
right_reads groups fits table word right =
    let front = same_equal (take (4 * node_count groups) table) (table_of groups) right in
    rw (right, front) (demand_3_outcome groups fits word)

pub run_reads : (sheet table word : List ℕ) (groups : List Group) → read_sheet sheet ≡ accepted groups → right_table groups table ≡ true
    → run_outcome sheet table word ≡ word_outcome (read_word groups) word
unfolding run_outcome
run_reads sheet table word groups is right = rw is (right_reads groups (within_bounds sheet groups is) table word right)

-- a table is the right one, whatever stands behind it
pub right_in_front : (groups : List Group) → bounded groups ≡ true → (behind : List ℕ) → right_table groups (table_of groups ++ behind) ≡ true
unfolding right_table
right_in_front groups fits behind =
    rw (take_at (table_of groups) behind (4 * node_count groups) (table-length groups fits)) (same_itself (table_of groups))

-- a sheet was translated, and any word is run with the table so made: the outcome is that of reading the sheet's groups
pub demand_3_runs : (sheet table word : List ℕ) → (translation sheet table).number ≡ 0
    → run_outcome sheet (translation sheet table).place word ≡ word_outcome (read_word (groups_of sheet)) word
unfolding laid_out
demand_3_runs sheet table word answered =
    let groups = groups_of sheet in
    let is = ((translated_0 sheet table).0 answered).0 in
    run_reads sheet (translation sheet table).place word groups is
    (rw (translated_leaves sheet table answered)
    (right_in_front groups (within_bounds sheet groups is) (drop (4 * node_count groups) table)))

-- ## Of the sheet and the table that are delivered

-- the table passes the test for 7
pub delivered_right : right_table shipped (table_of shipped) ≡ true
delivered_right = ap (right_table shipped) (sym (append-nil (table_of shipped))) ∙ right_in_front shipped (within_bounds _ shipped reads) []

-- and its runs give what reading the shipped rules group by group gives
pub delivered_reads : (word : List ℕ) → run_outcome (sheet_of shipped) (table_of shipped) word ≡ word_outcome (read_word shipped) word
delivered_reads word = run_reads (sheet_of shipped) (table_of shipped) word shipped reads delivered_right

-- which from 3 letters on is the stem
pub delivered_runs : (word : List ℕ) → 3 ≤ length word → run_outcome (sheet_of shipped) (table_of shipped) word ≡ outcome word
delivered_runs word many = delivered_reads word ∙ outcome_same (read_word shipped) (stem shipped) word (sym (stem_longer shipped word many))

-- a run on a word gives its stem
abbrev agrees : String → Type 0
agrees word = run_outcome (sheet_of shipped) (table_of shipped) (letters word) ≡ outcome (letters word)

-- which it does not on every word below: it leaves nothing of "s", and makes "us" "u"
pub delivered_differs : (agrees "s" → ⊥) × (agrees "us" → ⊥)
delivered_differs =
    (λ same. short_differ.0 (sym (delivered_reads _) ∙ same), λ same. short_differ.1 (sym (delivered_reads _) ∙ same))
