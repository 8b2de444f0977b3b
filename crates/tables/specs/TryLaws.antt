-- Trying the rules of a group in sheet order, record by record.
use Rattle.std.specs.Prelude.{ℕ, suc, ◌+◌, ◌-◌, ◌≤◌, ◌<◌, ◌≡◌, refl, Bool, true, false, ◌&&◌, List, [], ◌∷◌, eqb, leb, length, take, drop}
use Rattle.std.specs.Prelude.{Option as Answer, Some, None}
use Rattle.std.proofs.Common.{sym, ap, ◌∙◌, add-one}
use Rattle.std.proofs.Math.Option.{Option, none, some}
use borrow.Author.Tests.{lt-leb, le-leb}
use Rattle.paper.specs.Conditions.{holds}
use Rattle.paper.specs.Groups.{Rule, Group, before}
use Rattle.paper.specs.TestLaws.{by_test, and_parts}
use Rattle.passing.specs.Passed.{passed_at}
use Rattle.records.specs.RecordPlaces.{RuleFacts}
use Rattle.records.specs.declared.Record.{Record}
use Rattle.records.specs.declared.Record.TheVariants.{Group as GroupRecord, Rule as RuleRecord, End as EndRecord}
use Rattle.records.specs.declared.RuleRecord.{RuleRecord as RuleNumbers}
use Rattle.sheets.specs.Sheets.{Rest, faulty_at_lem, holding, rest_at}
use Rattle.walks.specs.Walk.{Nodes, reached, held}
use Rattle.walks.specs.PickLaws.{pick}
use Rattle.sheets.specs.SheetPlaces.{Holding, RuleNext, group_next, end_next}

-- the rules up to the next group, and the groups, that the rest of a sheet holds
unfoldable pub rules_of : Rest → List Rule
rules_of (faulty_at_lem place) = []
rules_of (holding rules groups) = rules

unfoldable pub groups_after : Rest → List Group
groups_after (faulty_at_lem place) = []
groups_after (holding rules groups) = groups

-- the rest of the sheet is not refused
abbrev pub Readable : List ℕ → ℕ → ℕ → ℕ → Type 0
Readable sheet at groups rules = rest_at sheet at groups rules
    ≡ holding (rules_of (rest_at sheet at groups rules)) (groups_after (rest_at sheet at groups rules))

-- whether a rule of this number, condition and ending is the one that a walk which found `found` obeys
unfoldable pub obeys : Nodes → ℕ → ℕ → List ℕ → ℕ → ℕ → List ℕ → Bool
obeys nodes root found word number condition s1 =
    leb found number && (eqb found (held nodes (reached nodes root s1)) && holds condition (before word s1))

-- the first such rule, of rules that are counted from `number`
unfoldable pub picked : Nodes → ℕ → ℕ → List ℕ → ℕ → List Rule → Option Rule
picked nodes root found word number rules =
    pick (λ rule. eqb found (held nodes (reached nodes root rule.ending))) (λ rule. holds rule.condition
    (before word rule.ending)) found number rules

-- this is the record of the rule that was picked
pub record Recorded (sheet : List ℕ) (found : Option Rule) (r : RuleNumbers) : Type 0 where
  pub one : Rule
  pub is_one : found ≡ some one
  pub facts : RuleFacts sheet r.condition r.action r.opens r.start r.middle r.next one

-- what is handed back of the rule that was picked: its record, or none
abbrev pub PickedAs : List ℕ → Option Rule → Answer RuleNumbers → Type 0
PickedAs sheet found None = found ≡ none
PickedAs sheet found (Some r) = Recorded sheet found r

pub record Trying (nodes : Nodes) (root found : ℕ) (word sheet : List ℕ) (groups start first place rules : ℕ) : Type 0 where
  pub list : List Rule
  pub more : List Group
  pub holds_here : Holding sheet place groups rules list more
  pub decides :
      picked nodes root found word (rules + 1) list
      ≡ picked nodes root found word (first + 1) (rules_of (rest_at sheet start groups first))

picked_none : (nodes : Nodes) (root found : ℕ) (word : List ℕ) (number : ℕ) (list : List Rule) → list ≡ []
    → picked nodes root found word number list ≡ none
unfolding picked pick
picked_none nodes root found word number list e = rw e

module _ (nodes : Nodes) (root found : ℕ) (word : List ℕ) (number : ℕ) (list : List Rule) (one : Rule) (more : List Rule)
    (split : list ≡ one ∷ more) where
  picked_here : obeys nodes root found word number one.condition one.ending ≡ true
      → picked nodes root found word number list ≡ some one
  unfolding picked pick obeys
  picked_here t = rw (split, t)

  picked_next : obeys nodes root found word number one.condition one.ending ≡ false
      → picked nodes root found word number list ≡ picked nodes root found word (suc number) more
  unfolding picked pick obeys
  picked_next t = rw (split, t)

module _ {nodes : Nodes} {root found : ℕ} {word sheet : List ℕ} {groups start first place rules : ℕ}
    (state : Trying nodes root found word sheet groups start first place rules) where
  abbrev answer : Option Rule
  answer = picked nodes root found word (first + 1) (rules_of (rest_at sheet start groups first))

  none_picked : state.list ≡ [] → answer ≡ none
  none_picked e = sym state.decides ∙ picked_none nodes root found word (rules + 1) state.list e

  -- no rule stands here
  pub trying_over : (record_here : Record) → passed_at sheet place ≡ Some record_here
      → ((r : RuleNumbers) → record_here ≡ RuleRecord r → ⊥) → answer ≡ none
  trying_over (GroupRecord number next) e no_rule_lem = none_picked (group_next state.holds_here e).none_before
  trying_over (RuleRecord r) e no_rule_lem = absurd (no_rule_lem r refl)
  trying_over EndRecord e no_rule_lem = none_picked (end_next state.holds_here e).0

  module _ {c a o start_of_lem middle after : ℕ} (found_rule : RuleNext state.holds_here c a o start_of_lem middle after) where
    -- how the rule that stands here was judged
    abbrev Judged : Bool → Type 0
    Judged judged = judged ≡ obeys nodes root found word (rules + 1) c (take (middle - start_of_lem) (drop start_of_lem sheet))

    tested : {judged : Bool} (test : Bool) → Judged judged → judged ≡ test
        → obeys nodes root found word (rules + 1) found_rule.one.condition found_rule.one.ending ≡ test
    tested test is t = rw (found_rule.facts.condition_is, found_rule.facts.ending_is) (sym is ∙ t)

    pub trying_here : {judged : Bool} → Judged judged → judged ≡ true → answer ≡ some found_rule.one
    trying_here is t =
        sym state.decides
        ∙ picked_here nodes root found word (rules + 1) state.list found_rule.one found_rule.rules_then
        found_rule.rule_first (tested true is t)

    pub trying_next : {judged : Bool} → Judged judged → judged ≡ false
        → Trying nodes root found word sheet groups start first after (rules + 1)
    trying_next is t =
        let passed =
        picked_next nodes root found word (rules + 1) state.list found_rule.one found_rule.rules_then
        found_rule.rule_first (tested false is t) in
        record {
          list = found_rule.rules_then;
          more = state.more;
          holds_here = found_rule.holds;
          decides =
              ap (λ (n : ℕ). picked nodes root found word n found_rule.rules_then) (add-one (rules + 1)) ∙ sym passed ∙ state.decides;
        }

-- ## One rule, test by test

module _ (found number there : ℕ) {first : Bool} where
  pub both_tested : found ≤ number → first ≡ eqb found there → first ≡ leb found number && eqb found there
  both_tested h is = is ∙ rw (le-leb found number h)

  pub one_tested : number < found → first ≡ leb found number → first ≡ leb found number && eqb found there
  one_tested h is = is ∙ rw (lt-leb found number h)

-- the condition is tried where the first two tests hold
module _ (nodes : Nodes) (root found : ℕ) (word : List ℕ) (number condition : ℕ) (s1 : List ℕ) {first : Bool}
    (is : first ≡ leb found number && eqb found (held nodes (reached nodes root s1))) where
  pub obeys_tried : {answer : Bool} {part : ℕ} → first ≡ true → part ≡ length word - length s1 → answer ≡ holds condition (take part word)
      → answer ≡ obeys nodes root found word number condition s1
  unfolding obeys before
  obeys_tried t p j =
      let both = and_parts (leb found number) (eqb found (held nodes (reached nodes root s1))) (sym is ∙ t) in
      rw (both.0, both.1, ← p) j

  pub obeys_other : first ≡ false → first ≡ obeys nodes root found word number condition s1
  unfolding obeys
  obeys_other t =
      let none = sym is ∙ t in
      t ∙ by_test (leb found number)
      (λ p. let other : eqb found (held nodes (reached nodes root s1)) ≡ false = rw p at none in rw (p, other)) (λ p. rw p)
