-- A text run with a list, shown: its numbers are small, and demand 2 for texts holds with a list too.
use Rattle.std.specs.Prelude.{ℕ, ◌≤◌, ◌≡◌, List, map, length}
use Rattle.std.proofs.Common.{sym, ap, ◌∙◌, inl, inr, arith}
use Rattle.std.proofs.Math.Option.{none, some}
use Rattle.paper.specs.Groups.{Reading, done}
use Rattle.paper.specs.LengthLaws.{Stems}
use Rattle.paper.proofs.ShippedLaws.{stem_done}
use Rattle.paper.specs.Shipped.{shipped}
use Rattle.paper.specs.Words.{placed, stem}
use Rattle.pieces.specs.Pieces.{lowered}
use Rattle.lists.specs.Lists.{Entry, holding, read_list, find, excepting}
use Rattle.lists.specs.Correspondence.{accepted_exactly}
use Rattle.lists.specs.ListedWords.{by_listing}
use Rattle.lists.specs.ExceptLaws.{excepting_stems}
use Rattle.lists.specs.ExceptLaws.{listed_reads, unlisted_reads}
use Rattle.texts.specs.Texts.{Outcome, text_outcome}
use Rattle.texts.specs.ListedTexts.{listed_text}
use Rattle.texts.specs.OutcomeLaws.{number_within}
use Rattle.texts.proofs.OutcomeLaws.{counts_within}
use Rattle.texts.specs.Demand2Texts.{CutAt, place_of, Rewritten}
use Rattle.texts.proofs.Demand2Texts.{rewritten}
use Rattle.texts.specs.ListedLaws.{refused_10, accepted_text, Bounds}

module _ (rule : List ℕ → Reading) (list text : List ℕ) where
  pub listed_bounds : Bounds rule list text
  listed_bounds =
      by_listing list
      (λ fault is.
      let known = refused_10 rule list text is in
      record {
        number = rw known (omega arith);
        left = rw known (omega arith);
        either = inl (ap (λ (o : Outcome). o.left) known);
      })
      (λ entries is.
      let known = accepted_text rule list text is in
      let few = counts_within (excepting entries rule) text in
      record {
        number = rw known (omega (arith, number_within (excepting entries rule) text));
        left = rw known (omega (arith, few));
        either = inr (rw known (omega (arith, few)));
      })

-- ## Demand 2

module _ (rule : List ℕ → Reading) (stems : Stems rule) (list text : List ℕ) {entries : List Entry} (is : read_list list ≡ holding entries)
    (within : length text ≤ 65536) where
  -- all that is said of a text without a list, by the same law
  pub rewritten_listed : Rewritten (excepting entries rule) text (listed_text rule list text)
  rewritten_listed =
      rw (accepted_text rule list text is)
      (rewritten (excepting entries rule) (excepting_stems entries ((accepted_exactly list entries).0 is).1 rule stems) text within)

  module _ (front letters back : List ℕ) (cut : CutAt text front letters back) (short : length letters ≤ 64) where
    there : (stem-of : List ℕ) → excepting entries rule (map lowered letters) ≡ done stem-of
        → place_of front letters (listed_text rule list text).text ≡ placed letters stem-of
    there stem-of reads =
        let stands = rewritten_listed.word_stemmed front letters back cut short in
        let same : stands.0 ≡ stem-of = let e = sym stands.1 ∙ reads in cc in
        stands.3 ∙ ap (placed letters) same

    -- a listed word, made small, has its listed stem
    pub listed_in_text : {stem-of : List ℕ} → find entries (map lowered letters) ≡ some stem-of
        → place_of front letters (listed_text rule list text).text ≡ placed letters stem-of
    listed_in_text {stem-of} found = there stem-of (listed_reads entries rule (map lowered letters) found)

    -- any other word has what it has without a list
    pub unlisted_in_text : find entries (map lowered letters) ≡ none
        → place_of front letters (listed_text rule list text).text ≡ place_of front letters (text_outcome rule text).text
    unlisted_in_text found =
        let stands = (rewritten rule stems text within).word_stemmed front letters back cut short in
        there stands.0 (unlisted_reads entries rule (map lowered letters) found ∙ stands.1) ∙ sym stands.3

-- by the stemmer
pub demand_2_texts_listed : (list text : List ℕ) {entries : List Entry} → read_list list ≡ holding entries → length text ≤ 65536
    → Rewritten (excepting entries (stem shipped)) text (listed_text (stem shipped) list text)
demand_2_texts_listed list text is within = rewritten_listed (stem shipped) stem_done list text is within
