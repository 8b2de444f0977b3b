-- Rising letters, and what the search for one of them finds: its place, as counting from the first finds it. The letters that stand
-- before a tail rise because those of the alphabet do; in bounded endings no other letter stands there.
use Rattle.std.specs.Prelude.{ℕ, zero, suc, ◌+◌, ◌<◌, ◌≤◌, ◌≡◌, refl, Bool, true, false, ◌&&◌, List, [], ◌∷◌, eqb, ltb, leb, length, get_or}
use Rattle.std.proofs.Common.{sym, ap, ◌∙◌, add-zero, arith, ltb-true, ltb-false, lt-ltb, eqb-true, eq-eqb, ne_eqb, leb-true}
use Rattle.std.proofs.lemmas.Bool.{false≢true, eqb-false}
use Rattle.std.proofs.Math.Bool.{and-false}
use Rattle.paper.specs.Groups.{Rule}
use Rattle.paper.specs.Letters.{letters, among}
use Rattle.paper.specs.Nodes.{tails_of, member}
use Rattle.paper.specs.Numbered.{number_of}
use Rattle.paper.specs.TestLaws.{and_parts, and_both, by_test, neither_left, neither_right}
use Rattle.paper.specs.Words.{small}
use Rattle.sheets.specs.SheetBytes.{all_allowed}
use Rattle.paths.specs.Children.{letter, sought}
use Rattle.levels.specs.Layout.{alphabet, standing}
use Rattle.levels.specs.TailBounds.{fit_first, member_fits}
use Rattle.levels.specs.RowLaws.{Placed}
use Rattle.levels.specs.PlacedLaws.{placed_behind}

-- ## Rising letters

-- each is greater than the one before it, and the first than `least`
unfoldable pub rising : ℕ → List ℕ → Bool
rising least [] = true
rising least (one ∷ more) = ltb least one && rising one more

pub alphabet_rising : rising 0 alphabet ≡ true
unfolding rising alphabet letters
alphabet_rising = refl

rising_lower : (low least : ℕ) (list : List ℕ) → low ≤ least → rising least list ≡ true → rising low list ≡ true
unfolding rising
rising_lower low least [] h e = refl
rising_lower low least (one ∷ more) h e =
    let both = and_parts (ltb least one) (rising one more) e in
    let above = ltb-true least one both.0 in
    and_both (lt-ltb low one (omega arith)) both.1

pub standing_rising : (rules : List Rule) (tail : List ℕ) (least : ℕ) (list : List ℕ) → rising least list ≡ true
    → rising least (standing rules tail list) ≡ true
unfolding standing rising
standing_rising rules tail least [] e = refl
standing_rising rules tail least (one ∷ more) e =
    let both = and_parts (ltb least one) (rising one more) e in
    let above = ltb-true least one both.0 in
    let later = standing_rising rules tail one more both.1 in
    by_test (member (one ∷ tail) (tails_of rules))
    (λ stands. rw stands (and_both both.0 later))
    (λ stands. rw stands (rising_lower least one (standing rules tail more) (omega arith) later))

pub rising_next : (least : ℕ) (list : List ℕ) → rising least list ≡ true → (k : ℕ) → suc k < length list
    → get_or list k 0 < get_or list (suc k) 0
unfolding rising
rising_next least [] e k h = absurd (omega arith)
rising_next least (one ∷ []) e k h = absurd (omega arith)
rising_next least (one ∷ next ∷ more) e zero h =
    let both = and_parts (ltb least one) (rising one (next ∷ more)) e in
    ltb-true one next (and_parts (ltb one next) (rising next more) both.1).0
rising_next least (one ∷ next ∷ more) e (suc k) h =
    rising_next one (next ∷ more) (and_parts (ltb least one) (rising one (next ∷ more)) e).1 k (omega arith)

-- ## Whether a letter is one of them

-- the letter stands there, and counting finds it there
pub record Numbered (one : ℕ) (list : List ℕ) : Type 0 where
  pub place : ℕ
  pub placed : Placed list place one
  pub number : (at : ℕ) → number_of (eqb one) at list ≡ at + place

pub number_there : (one : ℕ) (list : List ℕ) → among one list ≡ true → Numbered one list
unfolding among number_of
number_there one [] e = absurd (false≢true e)
number_there one (next ∷ more) e =
    by_test (eqb one next)
    (λ p.
    let same : one ∷ more ≡ next ∷ more = ap (λ (x : ℕ). x ∷ more) (eqb-true one next p) in
    record {
      place = 0;
      placed = record { front = []; later = more; split = same; place = refl };
      number = λ at. rw (p, add-zero);
    })
    (λ p.
    let rest = number_there one more (rw p at e) in
    record {
      place = 1 + rest.place;
      placed = placed_behind (next ∷ []) rest.placed;
      number = λ at. rw p (rest.number (suc at) ∙ omega arith);
    })

pub number_missing : (one : ℕ) (list : List ℕ) (at : ℕ) → among one list ≡ false → number_of (eqb one) at list ≡ 0
unfolding among number_of
number_missing one [] at e = refl
number_missing one (next ∷ more) at e =
    rw (neither_left (eqb one next) (among one more) e)
    (number_missing one more (suc at) (neither_right (eqb one next) (among one more) e))

-- a letter that is not above `least` is not one of those that rise above it
pub rising_past : (one least : ℕ) (list : List ℕ) → one ≤ least → rising least list ≡ true → among one list ≡ false
unfolding among rising
rising_past one least [] h e = refl
rising_past one least (next ∷ more) h e =
    let both = and_parts (ltb least next) (rising next more) e in
    let above = ltb-true least next both.0 in
    rw (ne_eqb one next (λ same. omega arith)) (rising_past one next more (omega arith) both.1)

-- a letter is kept exactly if it stands before the tail in an ending
standing-among : (rules : List Rule) (tail : List ℕ) (one : ℕ) (list : List ℕ)
    → among one (standing rules tail list) ≡ (among one list && member (one ∷ tail) (tails_of rules))
unfolding standing among
standing-among rules tail one [] = refl
standing-among rules tail one (next ∷ more) =
    let rest = standing-among rules tail one more in
    by_test (eqb one next)
    (λ p. rw (← eqb-true one next p, eq-eqb one one refl)
    (by_test (member (one ∷ tail) (tails_of rules))
    (λ q. rw (q, eq-eqb one one refl))
    (λ q. rw q (rest ∙ rw (q, and-false)))))
    (λ p. by_test (member (next ∷ tail) (tails_of rules)) (λ q. rw (q, p) rest) (λ q. rw (q, p) rest))

-- ## The search among them

-- the nodes from `at` on have these letters
abbrev pub Reads : List ℕ → ℕ → List ℕ → Type 0
Reads table at list = (k : ℕ) → k < length list → letter table (at + k) ≡ get_or list k 0

-- a search that stops at a greater letter misses nothing
pub sought_number : (table : List ℕ) (one least : ℕ) (list : List ℕ) (at : ℕ) → rising least list ≡ true → Reads table at list
    → sought (length list) table one at ≡ number_of (eqb one) at list
unfolding sought number_of rising
sought_number table one least [] at e reads = refl
sought_number table one least (next ∷ more) at e reads =
    let both = and_parts (ltb least next) (rising next more) e in
    let here : letter table at ≡ next = rw add-zero at (reads 0 (omega arith)) in
    let rest = sought_number table one next more (suc at) both.1
    (λ k h. let moved : suc at + k ≡ at + suc k = omega arith in rw moved (reads (suc k) (omega arith))) in
    rw here
    (by_test (ltb next one)
    (λ p. let less = ltb-true next one p in rw (p, ne_eqb one next (λ same. omega arith)) rest)
    (λ p. rw p (by_test (eqb one next)
    (λ q. rw q)
    (λ q. rw q (sym (number_missing one more (suc at) (rising_past one next more (ltb-false next one p) both.1)))))))

-- ## The alphabet

-- so many numbers one after another
unfoldable pub run : ℕ → ℕ → List ℕ
run zero from = []
run (suc count) from = from ∷ run count (suc from)

pub among_run : (count from one : ℕ) → from ≤ one → one < from + count → among one (run count from) ≡ true
unfolding run among
among_run zero from one low high = absurd (omega arith)
among_run (suc count) from one low high =
    by_test (eqb one from) (λ p. rw p)
    (λ p.
    let other = eqb-false one from p in
    rw p (among_run count (suc from) one (omega arith) (omega arith)))

pub run_past : (count from one : ℕ) → one < from → among one (run count from) ≡ false
unfolding run among
run_past zero from one h = refl
run_past (suc count) from one h = rw (ne_eqb one from (λ same. omega arith)) (run_past count (suc from) one (omega arith))

pub alphabet_run : alphabet ≡ run 26 97
unfolding run alphabet letters
alphabet_run = refl

small_among : (one : ℕ) → small one ≡ true → among one alphabet ≡ true
small_among one is =
    let both = and_parts (leb 97 one) (leb one 122) is in
    let low = leb-true 97 one both.0 in
    let high = leb-true one 122 both.1 in
    rw alphabet_run (among_run 26 97 one low (omega arith))

-- bounded endings have no letter beyond the alphabet
pub letters_stand : (rules : List Rule) → all_allowed rules ≡ true → (letter : ℕ) (parent : List ℕ)
    → among letter (standing rules parent alphabet) ≡ member (letter ∷ parent) (tails_of rules)
letters_stand rules all letter parent =
    standing-among rules parent letter alphabet
    ∙ by_test (member (letter ∷ parent) (tails_of rules))
    (λ stands. rw (stands, small_among letter (fit_first letter parent (member_fits rules all (letter ∷ parent) stands))))
    (λ stands. rw (stands, and-false))
