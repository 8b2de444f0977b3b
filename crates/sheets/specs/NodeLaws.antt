-- Counting the nodes of an accepted sheet record by record: where the rules of the group so far stand, and what is left to count.
use Rattle.std.specs.Prelude.{ℕ, ◌+◌, ◌*◌, ◌-◌, ◌≤◌, ◌≡◌, Some, length, take, drop}
use Rattle.std.proofs.Math.Path.{refl, ap}
use Rattle.std.proofs.Common.{◌∙◌, arith}
use mathlib.Core.List.{List, [], ◌∷◌, ◌++◌}
use Rattle.std.proofs.Math.ListN.{length-append}
use Rattle.paper.specs.Groups.{Rule, Group}
use Rattle.paper.specs.Nodes.{tails_of, distinct, node_count}
use Rattle.paper.specs.LookBack.{shared, shared_at_most, look_back}
use Rattle.passing.specs.Passed.{passed_at}
use Rattle.records.specs.declared.Record.TheVariants.{End as EndRecord}
use Rattle.tails.specs.Earlier.{tails_in}
use Rattle.sheets.specs.Accepted.{groups_of, Accepted}
use Rattle.sheets.specs.SheetBytes.{rules_bytes}
use Rattle.sheets.specs.SheetPlaces.{Holding, holding_start, GroupNext, RuleNext, end_next}
use Rattle.sheets.specs.EarlierRules.{tails_in_lem, one_more}

-- so many nodes are counted: the rules of the group so far stand from `first` on, these rules of it are left, and these groups
pub record Counting (sheet : List ℕ) (at nodes first count : ℕ) : Type 0 where
  pub groups : ℕ
  pub rules : ℕ
  pub few_groups : groups ≤ 16
  pub few_rules : rules ≤ 128
  pub few_nodes : nodes ≤ groups + 12 * rules
  pub own : count ≤ rules
  pub list : List Rule
  pub more : List Group
  pub holds : Holding sheet at groups rules list more
  pub earlier : List Rule
  pub counted : count ≡ length earlier
  pub stand : drop first sheet ≡ rules_bytes earlier ++ drop at sheet
  pub left : nodes + (distinct (tails_of earlier) (tails_of list) + node_count more) ≡ node_count (groups_of sheet)

pub counting-start : (sheet : List ℕ) → Accepted sheet → Counting sheet 0 0 0 0
unfolding rules_bytes tails_of distinct
counting-start sheet is =
    record {
      groups = 0;
      rules = 0;
      few_groups = omega arith;
      few_rules = omega arith;
      few_nodes = omega arith;
      own = omega arith;
      list = [];
      more = groups_of sheet;
      holds = holding_start sheet (groups_of sheet) is;
      earlier = [];
      counted = refl;
      stand = refl;
      left = omega arith;
    }

module _ {sheet : List ℕ} {at nodes first count : ℕ} (state : Counting sheet at nodes first count) where
  pub counting_end : passed_at sheet at ≡ Some EndRecord → nodes ≡ node_count (groups_of sheet)
  unfolding distinct tails_of node_count
  counting_end here =
      let over = end_next state.holds here in
      let none : distinct (tails_of state.earlier) (tails_of state.list) ≡ 0 = rw over.0 refl in
      let no-groups : node_count state.more ≡ 0 = rw over.1 refl in
      omega (arith, state.left)

  pub counting_group : {number next : ℕ} → GroupNext state.holds number next → Counting sheet next (nodes + 1) next 0
  unfolding rules_bytes tails_of distinct node_count
  counting_group found =
      let none : distinct (tails_of state.earlier) (tails_of state.list) ≡ 0 = rw found.none_before refl in
      let here : node_count state.more ≡ node_count (record { gate = found.gate_then; rules = found.rules_then } ∷ found.groups_then)
      = ap node_count found.group_first in
      record {
        groups = state.groups + 1;
        rules = state.rules;
        few_groups = omega (arith, found.few);
        few_rules = state.few_rules;
        few_nodes = omega (arith, state.few_nodes);
        own = omega arith;
        list = found.rules_then;
        more = found.groups_then;
        holds = found.holds;
        earlier = [];
        counted = refl;
        stand = refl;
        left = omega (arith, state.left, none, here);
      }

  module _ {c a o start middle next : ℕ} (found : RuleNext state.holds c a o start middle next) (longest : ℕ)
      (longest-is : longest ≡ shared (take (middle - start) (drop start sheet)) (tails_in count (drop first sheet))) where
    shared_here : longest ≡ shared found.one.ending (tails_of state.earlier)
    shared_here = longest-is ∙ rw (found.facts.ending_is, state.counted, state.stand, tails_in_lem state.earlier (drop at sheet))

    pub shared_short : longest ≤ middle - start
    shared_short =
        let is = shared_here in
        omega (arith, found.facts.ending_long, shared_at_most found.one.ending (tails_of state.earlier))

    pub counting_rule : Counting sheet next (nodes + (middle - start - longest)) first (count + 1)
    unfolding tails_of
    counting_rule =
        let one = found.one in
        let new = look_back state.earlier one (tails_of found.rules_then) in
        let here = ap (λ (list : List Rule). distinct (tails_of state.earlier) (tails_of list)) found.rule_first in
        record {
          groups = state.groups;
          rules = state.rules + 1;
          few_groups = state.few_groups;
          few_rules = omega (arith, found.few);
          few_nodes = omega (arith, state.few_nodes, found.facts.short_ending);
          own = omega (arith, state.own);
          list = found.rules_then;
          more = state.more;
          holds = found.holds;
          earlier = state.earlier ++ (one ∷ []);
          counted = omega (arith, state.counted, length-append state.earlier (one ∷ []));
          stand =
              state.stand
              ∙ (ap (λ (bytes : List ℕ). rules_bytes state.earlier ++ bytes) found.bytes_here
              ∙ one_more state.earlier one (drop next sheet));
          left = omega (arith, state.left, here, new, found.facts.ending_long, shared_here);
        }
