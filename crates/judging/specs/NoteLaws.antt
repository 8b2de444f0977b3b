-- Noting one rule after another, in sheet order.
use Rattle.std.specs.Prelude.{ℕ, suc, ◌+◌, ◌-◌, ◌<◌, ◌≡◌, refl, true, false, Some, List, [], ◌∷◌, ◌++◌, map, eqb, length, take, drop, get_or, set}
use Rattle.std.proofs.Common.{sym, ap, subst, ◌∙◌, true≢false, append_assoc, append-nil, add-one, arith, lit<, length-append, length-set, get_or-set_same, get_or-set_other, eqb-true, eq-eqb, ne_eqb}
use Rattle.std.proofs.Math.Option.{Option, none, some}
use Rattle.std.proofs.lemmas.Bool.{eqb-false}
use Rattle.paper.specs.Groups.{Rule, Gate, Group}
use Rattle.paper.specs.Numbered.{number_of}
use Rattle.paper.specs.NumberedLaws.{every_append, every_last, every_false, number_kept, number_found, number_last}
use Rattle.paper.specs.TestLaws.{by_test, apart}
use Rattle.passing.specs.Passed.{passed_at}
use Rattle.records.specs.declared.Record.TheVariants.{End as EndRecord}
use Rattle.sheets.specs.Accepted.{groups_of, Accepted}
use Rattle.sheets.specs.SheetPlaces.{Holding, holding_start, GroupNext, RuleNext, end_next}
use Rattle.paths.specs.Children.{nodes_in}
use Rattle.walks.specs.Walk.{reached}
use Rattle.walks.specs.Faithful.{exists}
use Rattle.walks.specs.Ends.{Node, node, ends}
use Rattle.judging.specs.Led.{is_at, ends_at}
use Rattle.judging.specs.Notes.{noted, Paths, Noted}

-- ## One rule more

module _ (table : List ℕ) (so_far : List Node) (group : ℕ) (ending : List ℕ) (notes : List ℕ) (so_noted : Noted table so_far notes) where
  abbrev end : Node
  end = node group ending

  -- a node where the rule does not end
  elsewhere : (i : ℕ) → i < length notes → ends_at table i end ≡ false → get_or notes i 0 ≡ number_of (ends_at table i) 1 (so_far ++ end ∷ [])
  elsewhere i h e = so_noted i h ∙ sym (number_kept (ends_at table i) 1 so_far end e)

  -- the node where it ends
  module _ (at : ℕ) (is : reached (nodes_in table) group ending ≡ some at) (inside : at < length notes) where
    ends_here : ends_at table at end ≡ true
    unfolding ends_at is_at
    ends_here = rw is (eq-eqb at at refl)

    ends_elsewhere : (i : ℕ) → (i ≡ at → ⊥) → ends_at table i end ≡ false
    unfolding ends_at is_at
    ends_elsewhere i apart = rw is (ne_eqb i at apart)

    at_first : (rule : ℕ) → rule ≡ suc (length so_far) → get_or notes at 0 ≡ 0 → Noted table (so_far ++ end ∷ []) (set notes at rule)
    at_first rule counted none_yet i h =
        let long = length-set notes at rule in
        by_test (eqb i at)
        (λ p.
        let here = eqb-true i at p in
        let none-ended = every_false (ends_at table at) 1 so_far (lit< tt) (sym (so_noted at inside) ∙ none_yet) in
        let last = number_last (ends_at table at) 1 so_far end none-ended ends_here in
        let number : suc (length so_far) ≡ 1 + length so_far = omega arith in
        rw here (get_or-set_same notes at rule 0 inside ∙ counted ∙ number ∙ sym last))
        (λ p.
        let apart = eqb-false i at p in
        get_or-set_other notes at i rule 0 apart ∙ elsewhere i (omega arith) (ends_elsewhere i apart))

    at_later : (get_or notes at 0 ≡ 0 → ⊥) → Noted table (so_far ++ end ∷ []) notes
    at_later some-ended i h =
        by_test (eqb i at)
        (λ p.
        let here = eqb-true i at p in
        rw here (so_noted at inside ∙ sym (number_found (ends_at table at) 1 so_far end (λ z. some-ended (so_noted at inside ∙ z)))))
        (λ p. elsewhere i h (ends_elsewhere i (eqb-false i at p)))

  pub noted_one : (found : Option ℕ) → reached (nodes_in table) group ending ≡ found → (rule : ℕ) → rule ≡ suc (length so_far)
      → ((at : ℕ) → found ≡ some at → at < length notes) → Noted table (so_far ++ end ∷ []) (noted found rule notes)
  unfolding noted ends_at is_at
  noted_one none is rule counted inside = λ i h. elsewhere i h (ap (is_at i) is)
  noted_one (some at) is rule counted inside =
      by_test (eqb (get_or notes at 0) 0)
      (λ p. rw p (at_first at is (inside at refl) rule counted (eqb-true _ 0 p)))
      (λ p. rw p (at_later at is (inside at refl) (eqb-false _ 0 p)))

-- what an ending's path says, and what is noted, by the node that it leads to and by what was noted there
module _ (found : Option ℕ) (rule : ℕ) (notes : List ℕ) where
  pub note_missed : found ≡ none → (false ≡ exists found) × (notes ≡ noted found rule notes)
  unfolding exists noted
  note_missed e = (rw e, rw e)

  pub note_first : (at : ℕ) → found ≡ some at → get_or notes at 0 ≡ 0 → (true ≡ exists found) × (set notes at rule ≡ noted found rule notes)
  unfolding exists noted
  note_first at e free = (rw e, rw e (rw free))

  pub note_later : (at : ℕ) → found ≡ some at → (get_or notes at 0 ≡ 0 → ⊥) → (true ≡ exists found) × (notes ≡ noted found rule notes)
  unfolding exists noted
  note_later at e taken = (rw e, rw e (rw (ne_eqb (get_or notes at 0) 0 taken)))

-- ## Going through a sheet

-- the node where each rule ends that is left: those of the group at hand, then those of the groups after it
abbrev ends_left : ℕ → ℕ → List Rule → List Group → List Node
ends_left root next list more = map (λ rule. node root rule.ending) list ++ ends next more

-- so many rules of the sheet are noted
pub record Noting (sheet table : List ℕ) (at root groups rules : ℕ) (notes : List ℕ) : Type 0 where
  pub list : List Rule
  pub more : List Group
  pub holds : Holding sheet at groups rules list more
  pub total : groups + length more ≡ length (groups_of sheet)
  pub root_in : (list ≡ [] → ⊥) → root < length (groups_of sheet)
  pub so_far : List Node
  pub left : so_far ++ ends_left root groups list more ≡ ends 0 (groups_of sheet)
  pub counted : rules ≡ length so_far
  pub paths : Paths table so_far
  pub so_noted : Noted table so_far notes

ends_group : (root next : ℕ) (list : List Rule) (more : List Group) (gate : Gate) (rules : List Rule) (groups : List Group) → list ≡ []
    → more ≡ record { gate = gate; rules = rules } ∷ groups → ends_left root next list more ≡ ends_left next (next + 1) rules groups
unfolding ends
ends_group root next list more gate rules groups over first = rw (over, first, add-one next)

ends_rule : (root next : ℕ) (list : List Rule) (more : List Group) (one : Rule) (rules : List Rule) → list ≡ one ∷ rules
    → ends_left root next list more ≡ node root one.ending ∷ ends_left root next rules more
ends_rule root next list more one rules first = rw first

ends_over : (root next : ℕ) (list : List Rule) (more : List Group) → list ≡ [] → more ≡ [] → ends_left root next list more ≡ []
unfolding ends
ends_over root next list more no-rules no-groups = rw (no-rules, no-groups)

pub noting_start : (sheet table notes : List ℕ) → Accepted sheet → ((i : ℕ) → i < length notes → get_or notes i 0 ≡ 0)
    → Noting sheet table 0 0 0 0 notes
unfolding number_of
noting_start sheet table notes is blank =
    record {
      list = [];
      more = groups_of sheet;
      holds = holding_start sheet (groups_of sheet) is;
      total = omega arith;
      root_in = λ e. absurd (e refl);
      so_far = [];
      left = refl;
      counted = refl;
      paths = tt;
      so_noted = blank;
    }

module _ {sheet table : List ℕ} {at root groups rules : ℕ} {notes : List ℕ} (state : Noting sheet table at root groups rules notes) where
  pub noting_group : {number next : ℕ} → GroupNext state.holds number next → Noting sheet table next groups (groups + 1) rules notes
  noting_group found =
      let shorter = ap length found.group_first in
      record {
        list = found.rules_then;
        more = found.groups_then;
        holds = found.holds;
        total = omega (arith, state.total, shorter);
        root_in = λ e. omega (arith, state.total, shorter);
        so_far = state.so_far;
        left = ap (λ (list : List Node). state.so_far ++ list) (sym (ends_group root groups state.list state.more found.gate_then
            found.rules_then found.groups_then found.none_before found.group_first)) ∙ state.left;
        counted = state.counted;
        paths = state.paths;
        so_noted = state.so_noted;
      }

  pub noting_end : passed_at sheet at ≡ Some EndRecord
      → Paths table (ends 0 (groups_of sheet)) × Noted table (ends 0 (groups_of sheet)) notes
  noting_end here =
      let over = end_next state.holds here in
      let all : state.so_far ≡ ends 0 (groups_of sheet) = sym (append-nil state.so_far)
      ∙ ap (λ (list : List Node). state.so_far ++ list) (sym (ends_over root groups state.list state.more over.0 over.1))
      ∙ state.left in
      (subst (Paths table) all state.paths, subst (λ (all : List Node). Noted table all notes) all state.so_noted)

  module _ {c a o start middle next : ℕ} (found : RuleNext state.holds c a o start middle next) where
    pub root_here : root < length (groups_of sheet)
    root_here = state.root_in (λ e. apart (let no = sym e ∙ found.rule_first in cc))

    abbrev letters : List ℕ
    letters = take (middle - start) (drop start sheet)

    abbrev there : Option ℕ
    there = reached (nodes_in table) root letters

    end_here : ends_left root groups state.list state.more ≡ node root letters ∷ ends_left root groups found.rules_then state.more
    end_here =
        ends_rule root groups state.list state.more found.one found.rules_then found.rule_first
        ∙ rw found.facts.ending_is

    -- the ending leads nowhere
    pub noting_missing : exists there ≡ false → Paths table (ends 0 (groups_of sheet)) → ⊥
    noting_missing missing all =
        let here = (every_append _ state.so_far (node root letters ∷ ends_left root groups found.rules_then state.more)
        (subst (Paths table) (sym (ap (λ (list : List Node). state.so_far ++ list) (sym end_here) ∙ state.left)) all)).1 in
        true≢false (sym here.0 ∙ missing)

    pub noting_rule : (rule : ℕ) → rule ≡ rules + 1 → ((at : ℕ) → there ≡ some at → at < length notes) → exists there ≡ true
        → Noting sheet table next root groups (rules + 1) (noted there rule notes)
    noting_rule rule is inside leads =
        let end = node root letters in
        record {
          list = found.rules_then;
          more = state.more;
          holds = found.holds;
          total = state.total;
          root_in = λ e. root_here;
          so_far = state.so_far ++ end ∷ [];
          left = append_assoc state.so_far (end ∷ []) (ends_left root groups found.rules_then state.more)
              ∙ ap (λ (list : List Node). state.so_far ++ list) (sym end_here) ∙ state.left;
          counted = omega (arith, state.counted, length-append state.so_far (end ∷ []));
          paths = every_last _ state.so_far end state.paths leads;
          so_noted = noted_one table state.so_far root letters notes state.so_noted there refl rule
              (is ∙ add-one rules ∙ ap suc state.counted) inside;
        }
