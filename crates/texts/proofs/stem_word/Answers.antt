-- `texts::stem_word` meets its contract: the word that was made small, or that was small already, is looked up and stemmed.
use mathlib.Core.Path.{◌≡◌, sym, ap, ◌∙◌}
use Prim.Native.Nat.{ℕ}
use mathlib.Core.Bool.{Bool, true}
use mathlib.Core.List.{List, map}
use borrow.Author.Tests.{eqb-true}
use Rattle.paper.specs.Shipped.{shipped}
use Rattle.paper.specs.Words.{stem, all_small, Outcome, outcome}
use Rattle.exceptions.specs.Judged.{judged_outcome}
use Rattle.exceptions.specs.JudgedLaws.{taken_as_excepted}
use Rattle.pieces.specs.Pieces.{lowered}
use Rattle.pieces.specs.Lowered.{all_stay}
use Rattle.texts.specs.ListedTexts.{rule_with}
use Rattle.texts.specs.RuleLaws.{rule_answers, rule_none}
use Rattle.texts.specs.WordCalls.{small_taken, stemmed_word}
use Rattle.texts.proofs.stem_word.Goals as goal
use Rattle.texts.proofs.stem_word.Goals.{then-not-small, else-not-small}

-- letters that are small already stay as they are
stays : (word : List ℕ) {small : Bool} → small ≡ all_small word → small ≡ true → word ≡ map lowered word
stays word is small = sym (all_stay word (sym is ∙ small))

-- where the arms of the branch meet, the letters are small
pub returns-then-is_empty : goal.returns-then-is_empty
returns-then-is_empty c =
    let word = c.args.word.now in
    let list = c.args.list.now in
    let made : c.if-not-small.word ≡ map lowered word = elim c.if-not-small.branch [ then-not-small w ↦ w.word-is ∙ w.make_small.ensures | else-not-small w ↦ w.word-is ∙ stays word c.requires.small_value w.if-not-small.false ] in
    let answers = rule_answers list (map lowered word) in
    let none : rule_with list ≡ stem shipped = rule_none list (eqb-true _ 0 (sym c.if-is_empty.ensures)) in
    stemmed_word (rule_with list) word _ answers.0 c.requires.word c.requires.word_len_bound answers.1
    (rw none (c.stem.ensures.place_is ∙ ap (λ l. (outcome l).place) made))

pub returns : goal.returns
returns c =
    let word = c.args.word.now in
    let list = c.args.list.now in
    let is-small : c.if-not-small.word ≡ map lowered word = elim c.if-not-small.branch [ then-not-small w ↦ w.word-is ∙ w.make_small.ensures | else-not-small w ↦ w.word-is ∙ stays word c.requires.small_value w.if-not-small.false ] in
    let answers = rule_answers list (map lowered word) in
    let as-judged = taken_as_excepted (stem shipped) list (map lowered word) (small_taken word c.requires.word c.requires.word_len_bound) in
    stemmed_word (rule_with list) word _ answers.0 c.requires.word c.requires.word_len_bound answers.1
    (c.stem_by.ensures.place_is
    ∙ ap (λ l. (judged_outcome (stem shipped) list l).place) is-small
    ∙ ap (λ (o : Outcome). o.place) as-judged)
