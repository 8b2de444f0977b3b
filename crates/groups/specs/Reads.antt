-- What a group leaves of a word, how a word that is being read stands in its place, and when a table and some of its rows are all of a
-- group that need be read.
use Rattle.std.specs.Prelude.{ℕ, ◌+◌, ◌-◌, ◌*◌, ◌≤◌, ◌<◌, ◌≡◌, Bool, true, cond, List, eqb, length, take, get_or}
use Rattle.paper.specs.Groups.{written, Rule, same, ends_with, before, obeyed, result, opens_next}
use Rattle.paper.specs.ReadingLaws.{every}
use Rattle.paper.specs.LongerFirst.{longer_first}
use Rattle.paper.specs.FirstFits.{decides, NoneFits, rule_of}
use Rattle.paper.specs.Noted.{Noted, holds_noted}
use Rattle.rules.specs.Rows.{size_at, added_at, rule_at}
use Rattle.rules.specs.RowsLaws.{Held}

-- ## What is left

-- what a group leaves of a word
unfoldable pub leaves : List Rule → List ℕ → List ℕ
leaves rules word = result word (obeyed word rules)

-- the group leaves the first r letters of the word
pub record Cut (rules : List Rule) (word : List ℕ) (r : ℕ) : Type 0 where
  pub within : r ≤ length word
  pub left : take r word ≡ leaves rules word

-- and tells whether it opens the next
pub record CutOpens (rules : List Rule) (word : List ℕ) (r : ℕ) (opened : Bool) : Type 0 where
  pub cut : Cut rules word r
  pub opens : opened ≡ opens_next (obeyed word rules)

-- the rule leaves the front of its ending, or a single letter less, so that a word that obeys it is only cut
unfoldable pub cuts : Rule → Bool
cuts rule = let s2 = written rule.action in same s2 (take (length s2) rule.ending)

-- the rule has no condition
unfoldable pub free : Rule → Bool
free rule = eqb rule.condition 0

-- a word of so many letters stands first in its place, and its states are noted
pub record Stands (place states : List ℕ) (len : ℕ) : Type 0 where
  pub within : len ≤ length place
  pub short : length place ≤ 64
  pub room : length states ≡ 65
  pub noted : Noted (take len place) states

-- what stands in the place of a word that a group was read in: what the group leaves
pub record Written (rules : List Rule) (word place states : List ℕ) (r : ℕ) : Type 0 where
  pub left : take r place ≡ leaves rules word
  pub stands : Stands place states r

-- ## Which rows are read

-- the table holds a group in which the first rule that ends a word decides, and only rules from a number up to another can end this word
pub record Narrowed (table : List ℕ) (rules : List Rule) (from to : ℕ) (word : List ℕ) : Type 0 where
  pub held : Held table rules
  pub decided : decides rules ≡ true
  pub known : to ≤ length rules
  pub none_earlier : NoneFits (rule_of rules) 0 from word
  pub none_later : NoneFits (rule_of rules) to (length rules) word

-- the table holds a group of so many rules, the last two with one ending, which ends the word, and those before without a condition
pub record Paired (table : List ℕ) (rules : List Rule) (to : ℕ) (word : List ℕ) : Type 0 where
  pub held : Held table rules
  pub order : longer_first rules ≡ true
  pub all : length rules ≡ to
  pub two : 2 ≤ to
  pub one_ending : (rule_of rules (to - 1)).ending ≡ (rule_of rules (to - 2)).ending
  pub ends : ends_with word (rule_of rules (to - 2)).ending ≡ true
  pub always : (k : ℕ) → k < to - 2 → (rule_of rules k).condition ≡ 0

-- ## What a row says

-- the condition of a rule, asked of the part before its ending by the states of the word
abbrev pub asks : List ℕ → ℕ → List ℕ → List ℕ → Bool
asks table k word states = holds_noted (rule_at table k).condition (before word (rule_at table k).ending) states

-- how many letters of n a rule leaves that only cuts
unfoldable pub cut_at : List ℕ → ℕ → ℕ → ℕ
cut_at table k n = cond (eqb (get_or table (16 * k + 1) 0) 1) (n - size_at table k - 1) (n - size_at table k + added_at table k)

-- ## What is promised, of whatever group it is

abbrev pub CutsBy : List ℕ → ℕ → ℕ → List ℕ → List ℕ → ℕ → Bool → Type 0
CutsBy table from to word states r opened =
    (group : List Rule) → Noted word states → Narrowed table group from to word → every cuts group ≡ true → CutOpens group word r opened

abbrev pub CutsFree : List ℕ → ℕ → List ℕ → ℕ → Type 0
CutsFree table to word r =
    (group : List Rule) → Narrowed table group 0 to word → every free group ≡ true → every cuts group ≡ true → Cut group word r

abbrev pub CutsPaired : List ℕ → ℕ → List ℕ → List ℕ → ℕ → Type 0
CutsPaired table to word states r =
    (group : List Rule) → Noted word states → Paired table group to word → every cuts group ≡ true → Cut group word r

abbrev pub WritesBy : List ℕ → ℕ → ℕ → List ℕ → List ℕ → ℕ → List ℕ → List ℕ → ℕ → Type 0
WritesBy table from to place states len after new r =
    (group : List Rule)
    → Stands place states len
    → Narrowed table group from to (take len place)
    → length (leaves group (take len place)) ≤ length place
    → Written group (take len place) after new r

abbrev pub WritesPaired : List ℕ → ℕ → List ℕ → List ℕ → ℕ → List ℕ → List ℕ → ℕ → Type 0
WritesPaired table to place states len after new r =
    (group : List Rule)
    → Stands place states len
    → Paired table group to (take len place)
    → length (leaves group (take len place)) ≤ length place
    → Written group (take len place) after new r
