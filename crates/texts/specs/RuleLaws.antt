-- The word rule of a list that was judged before: it answers every word, with no bytes it is the stemmer's own, and of a list that was
-- accepted it is the rule of the words that the list holds.
use Rattle.std.specs.Prelude.{ℕ, ◌≡◌, List, length}
use Rattle.std.proofs.Common.{ap, ◌∙◌}
use Rattle.paper.specs.Groups.{done}
use Rattle.paper.specs.ListLaws.{empty}
use Rattle.paper.proofs.ShippedLaws.{stem_done}
use Rattle.paper.specs.Shipped.{shipped}
use Rattle.paper.specs.Words.{stem}
use Rattle.lists.specs.Lists.{Entry, holding, read_list, excepting}
use Rattle.lists.specs.Searches.{passed_rest, passed}
use Rattle.lists.specs.SearchLaws.{passed_held}
use Rattle.lists.specs.ExceptLaws.{by_find, listed_reads, unlisted_reads, excepting_none}
use Rattle.texts.specs.ListedTexts.{rule_with}

pub rule_answers : (list word : List ℕ) → (left : List ℕ) × (rule_with list word ≡ done left)
rule_answers list word =
    let entries = passed list in
    by_find entries (stem shipped) word
    (λ left is. (left, listed_reads entries (stem shipped) word is))
    (λ is. let found = stem_done word in (found.0, unlisted_reads entries (stem shipped) word is ∙ found.1))

pub rule_none : (list : List ℕ) → length list ≡ 0 → rule_with list ≡ stem shipped
unfolding passed passed_rest
rule_none list no_bytes = rw (empty list no_bytes) (excepting_none (stem shipped))

pub rule_held : (list : List ℕ) (entries : List Entry) → read_list list ≡ holding entries → rule_with list ≡ excepting entries (stem shipped)
rule_held list entries is = ap (λ (es : List Entry). excepting es (stem shipped)) (passed_held list entries is)
