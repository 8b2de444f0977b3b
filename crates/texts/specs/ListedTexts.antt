-- Document 02, W-205: what a text run with an exception list gives, whatever reads the words that are not listed.
use Rattle.std.specs.Prelude.{ℕ, List}
use Rattle.paper.specs.Groups.{Reading}
use Rattle.paper.specs.Shipped.{shipped}
use Rattle.paper.specs.Words.{stem}
use Rattle.lists.specs.Lists.{Listing, faulty_at_lem, holding, read_list, excepting}
use Rattle.lists.specs.Searches.{passed}
use Rattle.texts.specs.Texts.{Outcome, text_outcome}

-- "10, a faulty list, with the offset of its first faulty record (and 0 in a text), before 1 and 5"; "any other word as before"
abbrev pub with_listing : (List ℕ → Reading) → Listing → List ℕ → Outcome
with_listing rule (faulty_at_lem place) text = record { number = 10; stemmed = place; left = 0; text = text }
with_listing rule (holding entries) text = text_outcome (excepting entries rule) text

unfoldable pub listed_text : (List ℕ → Reading) → List ℕ → List ℕ → Outcome
listed_text rule list text = with_listing rule (read_list list) text

-- the word rule of a list that was judged before, whatever its bytes
abbrev pub rule_with : List ℕ → List ℕ → Reading
rule_with list = excepting (passed list) (stem shipped)
