-- `words::stem` meets its contract: a word of one or two letters stays; of the longer ones a word that is not taken is as it came, and
-- the stem of one that is taken stands first in its place.
use Rattle.std.proofs.Common.{ℕ, ◌≤◌, ◌≡◌, List, length, ◌∙◌, arith}
use Rattle.std.proofs.lemmas.Result.{err_from_is_err_and}
use Rattle.paper.specs.Groups.{done}
use Rattle.paper.specs.Shipped.{shipped}
use Rattle.paper.specs.TestLaws.{apart}
use Rattle.paper.specs.Words.{Judgement, taken, turned_down, judged, stem, Gives, word_outcome, outcome}
use Rattle.paper.specs.WordsLaws.{judged_by_lem, stem_short, stem_longer, outcome_same, gives_refused, gives_done}
use Rattle.words.proofs.stem.Goals as goal
use Rattle.answers.specs.Answers.{refused_word}

-- what a word that stays is answered is the outcome of one or two letters
stays : (word : List ℕ) {number value : ℕ} {after : List ℕ} → length word ≤ 2 → Gives (word_outcome done word) number value after
    → Gives (outcome word) number value after
stays word few gives = rw (outcome_same (stem shipped) done word (stem_short shipped word few)) gives

not_taken : {judgement : Judgement} {number value : ℕ} → turned_down number value ≡ judgement → taken ≡ judgement → ⊥
not_taken refused is = apart (cc)

pub returns-then-word-le2 : goal.returns-then-word-le2
returns-then-word-le2 c = stays _ (omega (arith, c.if-word-le2.true)) c.stay.ensures

pub returns-in_err-judge_by : goal.returns-in_err-judge_by
returns-in_err-judge_by c =
    let read = c.read-read in
    let p = err_from_is_err_and c.from_residual.result c.from_residual.ensures.1 in
    let said = refused_word c.in_err-judge_by.field-0.0 in
    let is : turned_down said.number said.value ≡ judged c.args.word.now =
    c.in_err-judge_by.ensures ∙ rw (read.auto.word, read.ensures.other_value) (judged_by_lem c.args.word.now) in
    rw (p.1, p.2, read.ensures.word_unchanged (not_taken is)) (gives_refused (stem shipped) _ is)

pub returns : goal.returns
returns c =
    let read = c.read-read in
    let is-taken : taken ≡ judged c.args.word.now =
    c.in_ok-judge_by.ensures ∙ rw (read.auto.word, read.ensures.other_value) (judged_by_lem c.args.word.now) in
    let left = read.ensures.read_stands is-taken in
    gives_done (stem shipped) _ is-taken read.new.word _ read.result.len
    (stem_longer shipped _ (omega (arith, c.if-word-le2.false)) ∙ left.1)
    (omega (arith, left.0, read.auto.word)) read.auto.word c.fill.ensures
