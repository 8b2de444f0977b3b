-- The record at a place, case by case of its frame, whatever is told of each kind.
use Prim.Native.Nat.{ℕ, ◌-◌}
use Rattle.std.specs.Prelude.{◌≡◌, true, not, ◌||◌, Option, None, List, eqb, take, drop}
use Rattle.std.proofs.Common.{sym, ◌∙◌, arith}
use borrow.Author.Tests.{eq-eqb, ne_eqb, eqb-true}
use Rattle.std.proofs.Math.ListN.{length, length-drop}
use Rattle.paper.specs.TestLaws.{test_ext}
use Rattle.records.specs.declared.Record.{Record}
use Rattle.records.specs.Framing.{body_length, record_length, after, cut, body_place, next_place}
use Rattle.records.specs.FramingLaws.{FramedAt, length_after}
use Rattle.records.specs.Records.{faulty_end, by_kind}
use Rattle.records.specs.RecordAnswers.{by_frame}
use Rattle.records.specs.RecordLaws.{at_group, at_rule, at_end}

module _ (of_group of_rule : ℕ → List ℕ → Option Record) (of_end : List ℕ → Option Record) (sheet : List ℕ) (at : ℕ) where
  abbrev told : Option Record
  told = by_frame of_group of_rule of_end sheet at

  pub frame_cut : cut (drop at sheet) ≡ true → None ≡ told
  frame_cut short = simp short

  module _ {k b next : ℕ} (is : FramedAt sheet at k b next) where
    pub frame_group : k ≡ 1 → of_group b (take (next - b) (drop b sheet)) ≡ told
    frame_group one = rw (is.body_is, is.place_is, is.whole, at_group _ _ _ _ _ (sym is.kind_is ∙ one))

    pub frame_rule : k ≡ 2 → of_rule b (take (next - b) (drop b sheet)) ≡ told
    frame_rule two = rw (is.body_is, is.place_is, is.whole, at_rule _ _ _ _ _ (sym is.kind_is ∙ two))

    pub frame_end : k ≡ 3 → of_end (drop at sheet) ≡ told
    frame_end three = rw (is.whole, at_end _ _ _ _ _ (sym is.kind_is ∙ three))

    pub frame_other : (k ≡ 1 → ⊥) → (k ≡ 2 → ⊥) → (k ≡ 3 → ⊥) → None ≡ told
    unfolding by_kind
    frame_other not_one not-two not_three =
        simp (is.whole, ← is.kind_is, ne_eqb k 1 not_one, ne_eqb k 2 not-two, ne_eqb k 3 not_three)

-- ## An end, by the places between which its body stands

module _ (bytes : List ℕ) (at : ℕ) {k b next : ℕ} (is : FramedAt bytes at k b next) where
  no_body : eqb next b ≡ eqb (body_length (drop at bytes)) 0
  unfolding body_place next_place record_length
  no_body =
      let first = is.place_is in
      let last = is.next_is in
      let size : ℕ = body_length (drop at bytes) in
      test_ext (eqb next b) (eqb size 0) (λ e. eq-eqb size 0 (omega (arith, eqb-true next b e)))
      (λ e. eq-eqb next b (omega (arith, eqb-true size 0 e)))

  nothing_after : eqb next (length bytes) ≡ eqb (length (after (drop at bytes))) 0
  unfolding next_place
  nothing_after =
      let last = is.next_is in
      let inside = is.inside in
      let left = length_after (drop at bytes) in
      let size = length-drop at bytes in
      let more : ℕ = length (after (drop at bytes)) in
      test_ext (eqb next (length bytes)) (eqb more 0) (λ e. eq-eqb more 0 (omega (arith, eqb-true next (length bytes) e)))
      (λ e. eq-eqb next (length bytes) (omega (arith, eqb-true more 0 e)))

  pub end_judged : (not (eqb next b) || not (eqb next (length bytes))) ≡ faulty_end (drop at bytes)
  unfolding faulty_end
  end_judged = rw (no_body, nothing_after)
