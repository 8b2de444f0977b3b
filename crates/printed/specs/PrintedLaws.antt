-- What a text of lines is, for any lines that some reader reads back: no two lists of lines have the same text, and how far the
-- lines of a text are taken is one place.
use Rattle.std.specs.Prelude.{ℕ, zero, suc, ◌<◌, ◌≡◌, Bool, true, false, ◌&&◌, length}
use Rattle.std.proofs.Math.Path.{refl, sym}
use Rattle.std.proofs.Common.{ap, ◌∙◌, true≢false, arith, length-append}
use mathlib.Core.List.{List, [], ◌∷◌, ◌++◌, append_assoc, append-nil}
use Rattle.paper.specs.TestLaws.{by_test, and_left, and_right, and_parts, apart}
use Rattle.printed.specs.Printed.{text_of, all_taken, TakenTo}

-- ## A reader of one line
-- what a reader finds at the start of a text: a line, and what stands behind its line feed
pub data Got (A : Type 0) : Type 0 where
  nothing : Got A
  got : A → List ℕ → Got A

-- it finds a line of the form exactly where its printed text and a line feed stand
pub record Reads {A : Type 0} (print : A → List ℕ) (form : A → Bool) (read : List ℕ → Got A) : Type 0 where
  pub sound : (rest : List ℕ) (line : A) (more : List ℕ) → read rest ≡ got line more
      → (form line ≡ true) × (rest ≡ print line ++ (10 ∷ more))
  pub complete : (line : A) (more : List ℕ) → form line ≡ true → read (print line ++ (10 ∷ more)) ≡ got line more

-- ## One line more
module _ {A : Type 0} (print : A → List ℕ) where
  pub text_more : (before : List A) (line : A) (rest : List ℕ)
      → text_of print (before ++ (line ∷ [])) ++ rest ≡ text_of print before ++ (print line ++ (10 ∷ rest))
  unfolding text_of
  text_more [] line rest = append_assoc (print line) (10 ∷ []) rest
  text_more (first ∷ before) line rest =
      append_assoc (print first) (10 ∷ text_of print (before ++ (line ∷ []))) rest
      ∙ (ap (λ (l : List ℕ). print first ++ (10 ∷ l)) (text_more before line rest)
      ∙ sym (append_assoc (print first) (10 ∷ text_of print before) (print line ++ (10 ∷ rest))))

module _ {A : Type 0} (taken : List A → A → Bool) where
  pub taken_more : (before lines : List A) (line : A) → all_taken taken before lines ≡ true → taken (before ++ lines) line ≡ true
      → all_taken taken before (lines ++ (line ∷ [])) ≡ true
  unfolding all_taken
  taken_more before [] line all this = rw (rw append-nil at this) refl
  taken_more before (first ∷ lines) line all this =
      let here = and_left (taken before first) (all_taken taken (before ++ (first ∷ [])) lines) all in
      let later = and_right (taken before first) (all_taken taken (before ++ (first ∷ [])) lines) all in
      rw (here, taken_more (before ++ (first ∷ [])) lines line later (rw append_assoc this))

-- every line is of the form
unfoldable pub all_of : {A : Type 0} → (A → Bool) → List A → Bool
all_of form [] = true
all_of form (line ∷ lines) = form line && all_of form lines

-- the text begins with these lines, each of them is taken, and this rest stands behind them
pub record Passed {A : Type 0} (print : A → List ℕ) (taken : List A → A → Bool) (text : List ℕ) (before : List A)
    (rest : List ℕ) : Type 0 where
  pub text_is : text ≡ text_of print before ++ rest
  pub all_taken_lem : all_taken taken [] before ≡ true

pub no_line_yet : {A : Type 0} (print : A → List ℕ) (taken : List A → A → Bool) (text : List ℕ) → Passed print taken text [] text
unfolding text_of all_taken
no_line_yet print taken text = record { text_is = refl; all_taken_lem = refl }

-- ## One reading
no_bytes : (l more : List ℕ) → [] ≡ l ++ (10 ∷ more) → ⊥
no_bytes l more same = omega (arith, ap length same, length-append l (10 ∷ more))

module _ {A : Type 0} {print : A → List ℕ} {form : A → Bool} {read : List ℕ → Got A} (reads : Reads print form read) where
  pub one_line : (a b : A) (x y : List ℕ) → form a ≡ true → form b ≡ true → print a ++ (10 ∷ x) ≡ print b ++ (10 ∷ y)
      → (a ≡ b) × (x ≡ y)
  one_line a b x y one other same =
      let e : got a x ≡ got b y = sym (reads.complete a x one) ∙ (ap read same ∙ reads.complete b y other) in
      ((cc), (cc))

  -- no two lists of lines have the same text
  pub one_reading : (these those : List A) → all_of form these ≡ true → all_of form those ≡ true
      → text_of print these ≡ text_of print those → these ≡ those
  unfolding text_of all_of
  one_reading [] [] one other same = refl
  one_reading [] (b ∷ those) one other same = absurd (no_bytes (print b) (text_of print those) same)
  one_reading (a ∷ these) [] one other same = absurd (no_bytes (print a) (text_of print these) (sym same))
  one_reading (a ∷ these) (b ∷ those) one other same =
      let both =
      one_line a b (text_of print these) (text_of print those) (and_left (form a) (all_of form these) one)
      (and_left (form b) (all_of form those) other) same in
      let later =
      one_reading these those (and_right (form a) (all_of form these) one) (and_right (form b) (all_of form those) other) both.1 in
      let first = both.0 in
      cc

  -- ## How far the lines of a text are taken
  module _ {taken : List A → A → Bool} (of_form : (before : List A) (line : A) → taken before line ≡ true → form line ≡ true) where
    -- lines that are taken after others cannot go on where a text stops
    unfoldable Stops : List A → List ℕ → Type 0
    Stops before rest = (line : A) (more : List ℕ) → rest ≡ print line ++ (10 ∷ more) → taken before line ≡ false

    same_end : (before these those : List A) (x y : List ℕ) → text_of print these ++ x ≡ text_of print those ++ y
        → all_taken taken before these ≡ true → all_taken taken before those ≡ true
        → Stops (before ++ these) x → Stops (before ++ those) y → (these ≡ those) × (x ≡ y)
    unfolding text_of all_taken Stops
    same_end before [] [] x y same one other stop-x stop-y = (refl, same)
    same_end before [] (b ∷ those) x y same one other stop-x stop-y =
        let stop = stop-x b (text_of print those ++ y) (same ∙ append_assoc (print b) (10 ∷ text_of print those) y) in
        let this = and_left (taken before b) (all_taken taken (before ++ (b ∷ [])) those) other in
        absurd (true≢false (sym this ∙ rw append-nil at stop))
    same_end before (a ∷ these) [] x y same one other stop-x stop-y =
        let stop = stop-y a (text_of print these ++ x) (sym same ∙ append_assoc (print a) (10 ∷ text_of print these) x) in
        let this = and_left (taken before a) (all_taken taken (before ++ (a ∷ [])) these) one in
        absurd (true≢false (sym this ∙ rw append-nil at stop))
    same_end before (a ∷ these) (b ∷ those) x y same one other stop-x stop-y =
        let here-a = and_parts (taken before a) (all_taken taken (before ++ (a ∷ [])) these) one in
        let here-b = and_parts (taken before b) (all_taken taken (before ++ (b ∷ [])) those) other in
        let both =
        one_line a b (text_of print these ++ x) (text_of print those ++ y) (of_form before a here-a.0) (of_form before b here-b.0)
        (sym (append_assoc (print a) (10 ∷ text_of print these) x) ∙ (same ∙ append_assoc (print b) (10 ∷ text_of print those) y)) in
        let is : b ≡ a = sym both.0 in
        let later =
        same_end (before ++ (a ∷ [])) these those x y both.1 here-a.1 (rw is at here-b.1) (rw append_assoc stop-x)
        (rw (append_assoc, ← is) stop-y) in
        let first = both.0 in
        let rest = later.0 in
        ((cc), later.1)

    -- the lines that are taken, and what stands behind them, are one
    pub taken_one : {text : List ℕ} {these those : List A} {x y : List ℕ} → TakenTo print taken text these x
        → TakenTo print taken text those y → (these ≡ those) × (x ≡ y)
    unfolding Stops
    taken_one {these = these} {those} {x} {y} one other =
        same_end [] these those x y (sym one.text_is ∙ other.text_is) one.all_taken_lem other.all_taken_lem one.stops other.stops

    -- ## Going through the lines
    module _ {text : List ℕ} {before : List A} {rest : List ℕ} (so_far : Passed print taken text before rest) where
      stopped : Stops before rest → TakenTo print taken text before rest
      unfolding Stops
      stopped stop = record { text_is = so_far.text_is; all_taken_lem = so_far.all_taken_lem; stops = stop }

      -- no line stands here
      pub at_nothing : read rest ≡ nothing → TakenTo print taken text before rest
      unfolding Stops
      at_nothing is =
          stopped
          (λ line more same.
          by_test (taken before line)
          (λ taken_here.
          let no : got line more ≡ nothing =
          sym (reads.complete line more (of_form before line taken_here)) ∙ (ap read (sym same) ∙ is) in
          apart (cc))
          (λ is-not. is-not))

      -- one stands here, and is not taken
      pub at_fault : {line : A} {more : List ℕ} → read rest ≡ got line more → taken before line ≡ false
          → TakenTo print taken text before rest
      unfolding Stops
      at_fault {line} {more} is fault =
          stopped
          (λ other after same.
          by_test (taken before other)
          (λ taken_here.
          let this : got other after ≡ got line more =
          sym (reads.complete other after (of_form before other taken_here)) ∙ (ap read (sym same) ∙ is) in
          let one : other ≡ line = cc in
          rw one fault)
          (λ is-not. is-not))

      -- one stands here, and is taken
      pub one_more : {line : A} {more : List ℕ} → read rest ≡ got line more → taken before line ≡ true
          → Passed print taken text (before ++ (line ∷ [])) more
      one_more {line} {more} is taken_here =
          record {
            text_is =
                so_far.text_is
                ∙ (ap (λ (l : List ℕ). text_of print before ++ l) (reads.sound rest line more is).1
                ∙ sym (text_more print before line more));
            all_taken_lem = taken_more taken [] before line so_far.all_taken_lem taken_here;
          }

      -- a line takes some bytes
      pub fewer : {line : A} {more : List ℕ} → read rest ≡ got line more → length more < length rest
      fewer {line} {more} is =
          omega (arith, ap length (reads.sound rest line more is).1, length-append (print line) (10 ∷ more))

    -- nothing is left
    pub at_end : {text : List ℕ} {before : List A} → Passed print taken text before [] → TakenTo print taken text before []
    unfolding Stops
    at_end so_far = stopped so_far (λ line more same. absurd (no_bytes (print line) more same))

    -- every text has lines that are taken, and a rest
    taken_from : (most : ℕ) {text : List ℕ} {before : List A} {rest : List ℕ} → length rest < most → Passed print taken text before rest
        → (lines : List A) × (end : List ℕ) × TakenTo print taken text lines end
    taken_from zero {rest = rest} short so_far = absurd (omega arith)
    taken_from (suc most) {text} {before} {rest} short so_far =
        by (λ l r. taken_from most {text = text} {before = l} {rest = r}) (read rest) refl
      where
        by : ((l : List A) (r : List ℕ) → length r < most → Passed print taken text l r
            → (lines : List A) × (end : List ℕ) × TakenTo print taken text lines end)
            → (found : Got A) → read rest ≡ found → (lines : List A) × (end : List ℕ) × TakenTo print taken text lines end
        by further nothing is = (before, rest, at_nothing so_far is)
        by further (got line more) is =
            let less = fewer so_far is in
            by_test (taken before line) (λ taken_here. further (before ++ (line ∷ [])) more (omega arith) (one_more so_far is taken_here))
            (λ is-not. (before, rest, at_fault so_far is is-not))

    pub taken_some : (text : List ℕ) → (lines : List A) × (end : List ℕ) × TakenTo print taken text lines end
    taken_some text = taken_from (suc (length text)) (omega arith) (no_line_yet print taken text)
