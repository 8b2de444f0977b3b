use Rattle.std.proofs.Common.{◌≡◌, ◌≤◌, ◌<◌, ◌+◌, IfSome, OnOk, Result, Ok, Err, Option, Some, None, ltb, length, take, ℕ, List, ◌++◌, arith, sym, ap, ◌∙◌, subst, length-append, append-nil, ltb-true, ltb-false}
use Rattle.std.proofs.lemmas.List.{length-take-le}
use Rattle.std.specs.Io.KnownBytes.{Appends, Consumes, IsAtEnd}
use Rattle.paper.specs.Groups.{Reading}
use Rattle.paper.specs.Shipped.{shipped}
use Rattle.paper.specs.TestLaws.{by_test}
use Rattle.paper.specs.Words.{stem}
use Rattle.texts.specs.Texts.{text_outcome}
use Rattle.texts.specs.OutcomeLaws.{refused_over}
use Rattle.stem.specs.Output.{written}
use Rattle.stem.proofs.run.Goals as goal

-- what is written of the bytes that filled the buffer, or of all that came, is what is written of the whole input
as_whole : (rule : List ℕ → Reading) (old new : Option (List ℕ)) (text : List ℕ) → Consumes old new text → (length text < 65537 → IsAtEnd new)
    → IfSome old (λ input. written (text_outcome rule input) ≡ written (text_outcome rule text))
as_whole rule None new text taken ended = tt
as_whole rule (Some input) None text taken ended = absurd taken
as_whole rule (Some input) (Some rest) text taken ended =
    let lengths : length input ≡ length text + length rest = ap length taken ∙ length-append text rest in
    by_test (ltb 65536 (length text))
    (λ is.
    let over : 65536 < length text = ltb-true _ _ is in
    ap written (refused_over rule input (omega arith)) ∙ sym (ap written (refused_over rule text over)))
    (λ is.
    let within : length text ≤ 65536 = ltb-false _ _ is in
    let all : input ≡ text = taken ∙ ap (λ l. text ++ l) (ended (omega arith)) ∙ append-nil text in
    ap (λ t. written (text_outcome rule t)) all)

-- what was written of the text read was written of the input
of_input : {E : Type 0} (wrote : Result (Unit {0}) E) (old new known : Option (List ℕ)) (text : List ℕ) (said : List ℕ → List ℕ)
    → OnOk wrote (Appends old new (said text))
    → IfSome known (λ input. said input ≡ said text)
    → OnOk wrote (IfSome known (λ input. Appends old new (said input)))
of_input (Err _) old new known text said appended same = tt
of_input (Ok _) old new None text said appended same = tt
of_input (Ok _) old new (Some input) text said appended same = subst (Appends old new) (sym same) appended

pub returns : goal.returns
returns g c =
    let count = c.in_ok-count.count in
    let buffer = c.read_input.new.buffer in
    let came : length (take count buffer) ≡ count = length-take-le count buffer c.in_ok-count.ensures.count in
    of_input _ _ _ _ _ (λ t. written (text_outcome (stem shipped) t)) c.write_answer.ensures
    (as_whole (stem shipped) _ _ (take count buffer) c.in_ok-count.ensures.taken (λ short. c.in_ok-count.ensures.ended (omega arith)))
