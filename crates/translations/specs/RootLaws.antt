-- Storing the roots, record by record of the sheet.
use Rattle.std.specs.Prelude.{Some, ℕ, ◌+◌, ◌*◌, ◌≤◌, ◌≡◌, refl, List, [], ◌∷◌, ◌++◌}
use Rattle.std.proofs.Math.Path.{sym, ap}
use Rattle.std.proofs.Common.{◌∙◌, append_assoc, append-nil, zero-add, arith, length-append}
use Rattle.std.proofs.Math.ListN.{length}
use Rattle.paper.specs.Groups.{Rule, Gate, Group}
use Rattle.paper.specs.Nodes.{node_count}
use Rattle.passing.specs.Passed.{passed_at}
use Rattle.records.specs.declared.Record.TheVariants.{End as EndRecord}
use Rattle.sheets.specs.Accepted.{groups_of, Accepted}
use Rattle.sheets.specs.SheetPlaces.{Holding, holding_start, GroupNext, RuleNext, end_next}
use Rattle.sheets.specs.WriteBack.{write_back}
use Rattle.levels.specs.CountLaws.{table-length}
use Rattle.levels.specs.Layout.{Node, node, roots, nodes_of, table_of}
use Rattle.levels.specs.LevelLaws.{nodes_again}
use Rattle.translations.specs.Midway.{Pending, Waiting, nobody, another, Midway}
use Rattle.translations.specs.Storing.{put_row}
use Rattle.translations.specs.StoreLaws.{row_length, four, row_behind}
use Rattle.translations.specs.WaitingLaws.{waits_length, waits_append}

-- up to a place of the sheet, behind so many groups and rules: the roots so far wait in the table
pub record Rooting (sheet table : List ℕ) (at count rules : ℕ) : Type 0 where
  pub list : List Rule
  pub more : List Group
  pub holds : Holding sheet at count rules list more
  pub queue : List Node
  pub waits : List ℕ
  pub spare : List ℕ
  pub table_is : table ≡ waits ++ spare
  pub waiting : Waiting sheet queue waits
  pub counted : length queue ≡ count
  pub total : count + length more ≡ length (groups_of sheet)
  pub roots_are : queue ++ roots (rules + length list + 1) more ≡ roots 1 (groups_of sheet)
  pub room : length table ≡ 4 * node_count (groups_of sheet)

pub rooting_start : (sheet table : List ℕ) → Accepted sheet → length table ≡ 4 * node_count (groups_of sheet) → Rooting sheet table 0 0 0
rooting_start sheet table accepted room =
    record {
      list = [];
      more = groups_of sheet;
      holds = holding_start sheet (groups_of sheet) accepted;
      queue = [];
      waits = [];
      spare = table;
      table_is = refl;
      waiting = nobody;
      counted = refl;
      total = zero-add (length (groups_of sheet));
      roots_are = refl;
      room = room;
    }

-- there is a node for each group
roots_fit : (groups : List Group) → length groups ≤ node_count groups
unfolding node_count
roots_fit [] = omega arith
roots_fit (group ∷ groups) = let rest = roots_fit groups in omega arith

roots_group : (queue : List Node) (list : List Rule) (more : List Group) (rules : ℕ) (gate : Gate) (rules_then : List Rule)
    (groups_then : List Group) → list ≡ [] → more ≡ record { gate = gate; rules = rules_then } ∷ groups_then
    → (queue ++ node (rules + 1) rules_then [] ∷ []) ++ roots (rules + length rules_then + 1) groups_then
    ≡ queue ++ roots (rules + length list + 1) more
unfolding roots
roots_group queue list more rules gate rules_then groups_then none first =
    let here : rules + 0 + 1 ≡ rules + 1 = omega arith in
    let behind : rules + 1 + length rules_then ≡ rules + length rules_then + 1 = omega arith in
    rw (none, first, here, behind, append_assoc)

-- the row of a root, still to be finished
root_pending : (sheet : List ℕ) (next count rules : ℕ) (list : List Rule) (more : List Group) → Holding sheet next count rules list more
    → Pending sheet (node (rules + 1) list []) 0 next 0 rules
root_pending sheet next count rules list more holds =
    record {
      depth_is = refl;
      reads = record { groups = count; more = more; holds = holds };
      number_is = refl;
      tail_there = record { long = omega arith; inside = omega arith; letters_are = refl };
    }

module _ {sheet table : List ℕ} {at count rules : ℕ} (state : Rooting sheet table at count rules) where
  pub rooting_group : {number next : ℕ} → GroupNext state.holds number next → (table-then : List ℕ)
      → table-then ≡ put_row count 0 next 0 rules table → Rooting sheet table-then next (count + 1) rules
  rooting_group {number} {next} found table-then is =
      let waits-long = waits_length state.waiting in
      let shorter = ap length found.group_first in
      let parts = ap length state.table_is ∙ length-append state.waits state.spare in
      let behind = four state.spare (omega (arith, parts, state.room, roots_fit (groups_of sheet), state.total, state.counted)) in
      let one = node (rules + 1) found.rules_then [] in
      let row : List ℕ = 0 ∷ next ∷ 0 ∷ rules ∷ [] in
      let pending = root_pending sheet next (count + 1) rules found.rules_then found.groups_then found.holds in
      let long : length state.waits ≡ 4 * count = omega (arith, state.counted) in
      record {
        list = found.rules_then;
        more = found.groups_then;
        holds = found.holds;
        queue = state.queue ++ one ∷ [];
        waits = state.waits ++ row;
        spare = behind.rest;
        table_is =
            is
            ∙ (ap (put_row count 0 next 0 rules) state.table_is
            ∙ row_behind state.waits state.spare count 0 next 0 rules long behind);
        waiting = waits_append state.waiting (another pending nobody);
        counted = omega (arith, length-append state.queue (one ∷ []), state.counted);
        total = omega (arith, state.total);
        roots_are =
            roots_group state.queue state.list state.more rules found.gate_then found.rules_then found.groups_then
            found.none_before found.group_first
            ∙ state.roots_are;
        room = ap length is ∙ (row_length count 0 next 0 rules table ∙ state.room);
      }

  pub rooting_rule : {c a o start middle after : ℕ} → RuleNext state.holds c a o start middle after
      → Rooting sheet table after count (rules + 1)
  rooting_rule found =
      let same_number : rules + 1 + length found.rules_then + 1 ≡ rules + length state.list + 1
      = omega (arith, ap length found.rule_first) in
      record {
        list = found.rules_then;
        more = state.more;
        holds = found.holds;
        queue = state.queue;
        waits = state.waits;
        spare = state.spare;
        table_is = state.table_is;
        waiting = state.waiting;
        counted = state.counted;
        total = state.total;
        roots_are = rw same_number state.roots_are;
        room = state.room;
      }

  pub rooting_end : Accepted sheet → passed_at sheet at ≡ Some EndRecord → Midway sheet table 0 count
  unfolding roots table_of
  rooting_end accepted here =
      let over = end_next state.holds here in
      let all = (write_back sheet (groups_of sheet) accepted).1 in
      let groups_are : count ≡ length (groups_of sheet) = omega (arith, state.total, ap length over.1) in
      let queue_is = rw (over.1, append-nil) at state.roots_are in
      record {
        queue = state.queue;
        later = nodes_of (groups_of sheet);
        front = [];
        waits = state.waits;
        spare = state.spare;
        table_is = state.table_is;
        finished = refl;
        waiting = state.waiting;
        next_is = omega (arith, state.counted);
        later_is = rw queue_is (nodes_again (groups_of sheet) all);
        whole = rw groups_are;
        room = state.room ∙ sym (table-length (groups_of sheet) all);
      }
