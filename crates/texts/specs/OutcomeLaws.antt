-- What holds of every call on a text, by any word rule: it is refused exactly over 65,536 bytes. Its counts and its length are in proofs/.
use Rattle.std.specs.Prelude.{ℕ, ◌≤◌, ◌<◌, ◌≡◌, refl, ◌↔◌, ◌⊎◌, Ok, Err, List, ltb, length}
use Rattle.std.proofs.Common.{ap, inl, inr, arith, ltb-true, ltb-false, lt-ltb, le-ltb}
use Rattle.paper.specs.Groups.{Reading}
use Rattle.paper.specs.TestLaws.{by_test}
use Rattle.texts.specs.Texts.{Outcome, run_text, refused, finished, text_outcome}
use Rattle.texts.specs.TextAnswers.{Answered, counts}

module _ (rule : List ℕ → Reading) (text : List ℕ) where
  pub refused_over : 65536 < length text → text_outcome rule text ≡ refused text
  unfolding text_outcome
  refused_over long = rw (lt-ltb 65536 (length text) long)

  pub finished_within : length text ≤ 65536 → text_outcome rule text ≡ finished (run_text rule text)
  unfolding text_outcome
  finished_within short = rw (le-ltb 65536 (length text) short)

  -- what both ways of a call have, every call has
  pub either_way : (P : Outcome → Type 0) → (65536 < length text → P (refused text))
      → (length text ≤ 65536 → P (finished (run_text rule text)))
      → P (text_outcome rule text)
  either_way P long short =
      by_test (ltb 65536 (length text))
      (λ is. let over = ltb-true _ _ is in rw (refused_over over) (long over))
      (λ is. let within = ltb-false _ _ is in rw (finished_within within) (short within))

  -- ## What a call gives, by the text's length

  pub gives_refused : 65536 < length text → Answered (text_outcome rule text) (Err (record {})) text
  gives_refused long =
      rw (refused_over long) (record { number_is = refl; stemmed_is = refl; left_is = refl; text_is = refl })

  pub gives_done : {after : List ℕ} {stemmed left : ℕ} → length text ≤ 65536
      → run_text rule text ≡ record { text = after; stemmed = stemmed; left = left }
      → Answered (text_outcome rule text) (Ok (counts stemmed left)) after
  gives_done short ran =
      rw (finished_within short, ran) (record { number_is = refl; stemmed_is = refl; left_is = refl; text_is = refl })

  -- ## Every call

  -- 5 exactly when "the text has more than 65,536 bytes"
  pub answered_5 : ((text_outcome rule text).number ≡ 5) ↔ (65536 < length text)
  answered_5 = (
    either_way (λ o. o.number ≡ 5 → 65536 < length text) (λ long is. long) (λ short is. absurd (omega (arith, is))),
    λ long. ap (λ (o : Outcome). o.number) (refused_over long),
  )

  -- and otherwise 0, never 2: of the bytes outside a to z a text has capitals, which are made small, and those that separate words
  pub done_or_5 : ((text_outcome rule text).number ≡ 0) ⊎ ((text_outcome rule text).number ≡ 5)
  done_or_5 = either_way (λ o. (o.number ≡ 0) ⊎ (o.number ≡ 5)) (λ long. inr refl) (λ short. inl refl)

  pub number_within : (text_outcome rule text).number ≤ 5
  number_within = either_way (λ o. o.number ≤ 5) (λ long. omega arith) (λ short. omega arith)
