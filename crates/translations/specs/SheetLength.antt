-- "at most 4,196 bytes": an accepted sheet is short, so that its places are numbers of 16 bits.
use Rattle.std.specs.Prelude.{ℕ, ◌+◌, ◌*◌, ◌≤◌, ◌≡◌, true, List, [], ◌∷◌, ◌++◌, length}
use Rattle.std.proofs.Common.{ap, ◌∙◌, arith, length-append}
use Rattle.paper.specs.Groups.{written, Rule, Group}
use Rattle.paper.specs.TestLaws.{and_left, and_right}
use Rattle.records.specs.Framing.{two, record_of}
use Rattle.records.specs.RecordBytes.{gate_body, rule_body, allowed}
use Rattle.records.specs.WrittenRules.{bounds, short_replacement}
use Rattle.sheets.specs.Accepted.{groups_of, Accepted}
use Rattle.sheets.specs.ReadBack.{within}
use Rattle.sheets.specs.SheetBytes.{rules_bytes, groups_bytes, sheet_of, all_allowed, groups_allowed, rule_count}
use Rattle.sheets.specs.WriteBack.{write_back}

record_length_lem : (kind : ℕ) (body : List ℕ) → length (record_of kind body) ≡ 4 + length body
unfolding record_of two
record_length_lem kind body = omega arith

-- a rule's record has at most 32 bytes
rule_short : (rule : Rule) → allowed rule ≡ true → length (record_of 2 (rule_body rule)) ≤ 32
unfolding rule_body
rule_short rule is =
    let within_bounds = bounds rule is in
    omega (
      arith,
      record_length_lem 2 (rule_body rule),
      length-append rule.ending (written rule.action),
      within_bounds.short_ending,
      short_replacement rule rule.action within_bounds.fit_action,
    )

rules_short : (rules : List Rule) → all_allowed rules ≡ true → length (rules_bytes rules) ≤ 32 * length rules
unfolding rules_bytes all_allowed
rules_short [] all = omega arith
rules_short (rule ∷ rules) all =
    omega (
      arith,
      length-append (record_of 2 (rule_body rule)) (rules_bytes rules),
      rule_short rule (and_left (allowed rule) (all_allowed rules) all),
      rules_short rules (and_right (allowed rule) (all_allowed rules) all),
    )

-- and a group's has 6
groups_short : (groups : List Group) → groups_allowed groups ≡ true → length (groups_bytes groups) ≤ 6 * length groups + 32 * rule_count groups
unfolding groups_bytes groups_allowed rule_count gate_body two
groups_short [] all = omega arith
groups_short (group ∷ groups) all =
    omega (
      arith,
      length-append (record_of 1 (gate_body group.gate)) (rules_bytes group.rules ++ groups_bytes groups),
      length-append (rules_bytes group.rules) (groups_bytes groups),
      record_length_lem 1 (gate_body group.gate),
      rules_short group.rules (and_left (all_allowed group.rules) (groups_allowed groups) all),
      groups_short groups (and_right (all_allowed group.rules) (groups_allowed groups) all),
    )

pub sheet_short : (sheet : List ℕ) → Accepted sheet → length sheet ≤ 4196
unfolding sheet_of
sheet_short sheet accepted =
    let groups = groups_of sheet in
    let back = write_back sheet groups accepted in
    let is = within groups back.1 in
    omega (
      arith,
      ap length back.0 ∙ length-append (groups_bytes groups) (record_of 3 []),
      record_length_lem 3 [],
      groups_short groups is.each,
      is.at_most_16,
      is.at_most_128,
    )
