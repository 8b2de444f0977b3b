-- No line feed stands in a printed line, so lines are counted by line feeds.
use Rattle.std.specs.Prelude.{ℕ, zero, suc, ◌<◌, ◌≡◌, refl, Bool, true, false, cond, ◌&&◌, List, [], ◌∷◌, ltb, length}
use Rattle.std.proofs.Common.{arith, ltb-true}
use Rattle.paper.specs.Letters.{letters}
use Rattle.paper.specs.Groups.{Action, replace, single_letter, written, always, if_opened}
use Rattle.paper.specs.TestLaws.{and_parts}
use Rattle.paper.specs.Words.{all_small}
use Rattle.printed.specs.LineNumbers.{feeds, feeds-append, small_feeds}
use Rattle.lines.specs.Lines.{Line, group, rule, spellings, spelling, part, action, print, form}

part-feeds : (word : List ℕ) → all_small word ≡ true → feeds (part word) ≡ 0
unfolding feeds part letters
part-feeds [] all = refl
part-feeds (x ∷ word) all = small_feeds (x ∷ word) all

action_feeds : (does : Action) → all_small (written does) ≡ true → feeds (action does) ≡ 0
unfolding feeds action letters
action_feeds (replace s2) all = part-feeds s2 all
action_feeds single_letter all = refl

opens_feeds : (opens : Bool) → feeds (cond opens (letters " opens") []) ≡ 0
unfolding feeds letters
opens_feeds true = refl
opens_feeds false = refl

spelled-feeds : (number : ℕ) → number < length spellings → feeds (spelling number) ≡ 0
unfolding feeds spelling spellings letters
spelled-feeds zero low = refl
spelled-feeds (suc zero) low = refl
spelled-feeds (suc (suc zero)) low = refl
spelled-feeds (suc (suc (suc zero))) low = refl
spelled-feeds (suc (suc (suc (suc zero)))) low = refl
spelled-feeds (suc (suc (suc (suc (suc zero))))) low = refl
spelled-feeds (suc (suc (suc (suc (suc (suc zero)))))) low = refl
spelled-feeds (suc (suc (suc (suc (suc (suc (suc zero))))))) low = refl
spelled-feeds (suc (suc (suc (suc (suc (suc (suc (suc zero)))))))) low = refl
spelled-feeds (suc (suc (suc (suc (suc (suc (suc (suc (suc number))))))))) low = absurd (omega arith)

pub no_feed : (line : Line) → form line ≡ true → feeds (print line) ≡ 0
unfolding feeds print form letters
no_feed (group always) is = refl
no_feed (group if_opened) is = refl
no_feed (rule one) is =
    let nine = ltb one.condition (length spellings) in
    let three = and_parts (nine && all_small one.ending) (all_small (written one.action)) is in
    let two = and_parts nine (all_small one.ending) three.0 in
    simp (
      feeds-append,
      spelled-feeds one.condition (ltb-true _ _ two.0),
      part-feeds one.ending two.1,
      action_feeds one.action three.1,
      opens_feeds one.opens,
    )
