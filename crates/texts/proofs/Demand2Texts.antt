-- Demand 2 for texts, shown: of any word rule that answers every word with a stem no longer than the word, and of the stemmer.
use Rattle.std.specs.Prelude.{ℕ, ◌≤◌, ◌≡◌, true, false, ltb, length}
use Rattle.std.proofs.Math.Path.{refl, ap}
use Rattle.std.proofs.Common.{◌∙◌, arith, take_at, drop_at, le-ltb}
use mathlib.Core.List.{List, [], ◌∷◌, ◌++◌, map}
use Rattle.std.proofs.Math.ListN.{length-map}
use Rattle.paper.specs.Groups.{Reading}
use Rattle.paper.specs.LengthLaws.{Stems, NeverLengthens, never_lengthens}
use Rattle.paper.proofs.ShippedLaws.{stem_done}
use Rattle.paper.specs.TestLaws.{by_test}
use Rattle.paper.specs.Shipped.{shipped}
use Rattle.paper.specs.Words.{placed, stem}
use Rattle.pieces.specs.Pieces.{lowered, Piece, word, other, pieces}
use Rattle.texts.specs.Texts.{Ran, answered, of_word, of_piece, of_pieces, run_text, text_outcome}
use Rattle.texts.specs.TextsLaws.{run_word}
use Rattle.texts.proofs.TextsLaws.{long_word, word_length_lem, length-stays, others_stay}
use Rattle.texts.specs.OutcomeLaws.{finished_within}
use Rattle.texts.specs.Demand2Texts.{short_words, long_words, CutAt, place_of, Rewritten, short_made_small}

module _ (rule : List ℕ → Reading) (always : Stems rule) where
  never : NeverLengthens rule
  never = never_lengthens rule always

  -- a word of 1 to 64 letters counts as stemmed, and its stem stands in its place
  short_word : (letters : List ℕ) → ltb 64 (length letters) ≡ false
      → of_word rule letters
      ≡ record { text = placed letters (always (map lowered letters)).0; stemmed = 1; left = 0 }
  unfolding of_word answered
  short_word letters short = rw (short, (always (map lowered letters)).1)

  over : (letters : List ℕ) → ltb 64 (length letters) ≡ true → of_word rule letters ≡ record { text = letters; stemmed = 0; left = 1 }
  unfolding of_word
  over letters long = rw long

  stemmed_are : (list : List Piece) → (of_pieces rule list).stemmed ≡ short_words list
  unfolding of_pieces of_piece short_words
  stemmed_are [] = refl
  stemmed_are (word letters ∷ rest) =
      by_test (ltb 64 (length letters)) (λ long. rw (long, over letters long) (omega (arith, stemmed_are rest)))
      (λ short. rw (short, short_word letters short) (omega (arith, stemmed_are rest)))
  stemmed_are (other byte ∷ rest) = omega (arith, stemmed_are rest)

  left_are : (list : List Piece) → (of_pieces rule list).left ≡ long_words list
  unfolding of_pieces of_piece long_words
  left_are [] = refl
  left_are (word letters ∷ rest) =
      by_test (ltb 64 (length letters)) (λ long. rw (long, over letters long) (omega (arith, left_are rest)))
      (λ short. rw (short, short_word letters short) (omega (arith, left_are rest)))
  left_are (other byte ∷ rest) = omega (arith, left_are rest)

  -- what stands where the word stood is what becomes of the word
  there : (text front letters back : List ℕ) → CutAt text front letters back
      → place_of front letters (run_text rule text).text ≡ (of_word rule letters).text
  there text front letters back cut =
      let ran = ap (run_text rule) cut.joined ∙ run_word rule front letters back cut.before cut.is_word cut.behind in
      let front_is = length-stays rule never front in
      rw (
        ran,
        drop_at (run_text rule front).text ((of_word rule letters).text ++ (run_text rule back).text) (length front) front_is,
        take_at (of_word rule letters).text (run_text rule back).text (length letters) (word_length_lem rule never letters),
      )

  pub rewritten : (text : List ℕ) → length text ≤ 65536 → Rewritten rule text (text_outcome rule text)
  unfolding run_text
  rewritten text within =
      rw (finished_within rule text within)
      (record {
        number = refl;
        length-stays = length-stays rule never text;
        word_stemmed = λ front letters back cut short.
            let found = always (map lowered letters) in
            let is = short_word letters (le-ltb 64 (length letters) short) in (
              found.0,
              found.1,
              omega (arith, found.2, length-map letters lowered),
              there text front letters back cut ∙ ap (λ (ran : Ran). ran.text) is,
            );
        word_left = λ front letters back cut long.
            there text front letters back cut ∙ ap (λ (ran : Ran). ran.text) (long_word rule letters long);
        others_stay = others_stay rule never text;
        stemmed = stemmed_are (pieces text);
        left = left_are (pieces text);
      })

-- by the stemmer
pub demand_2_texts : (text : List ℕ) → length text ≤ 65536 → Rewritten (stem shipped) text (text_outcome (stem shipped) text)
demand_2_texts text within = rewritten (stem shipped) stem_done text within

-- and so it stands in its text: `S-type` gives `s-type`
pub short_in_a_text : (text front letters back : List ℕ) → length text ≤ 65536 → CutAt text front letters back → length letters ≤ 2
    → place_of front letters (text_outcome (stem shipped) text).text ≡ map lowered letters
short_in_a_text text front letters back within cut few =
    rw (finished_within (stem shipped) text within)
    (there (stem shipped) stem_done text front letters back cut ∙ ap (λ (ran : Ran). ran.text) (short_made_small shipped letters few))
