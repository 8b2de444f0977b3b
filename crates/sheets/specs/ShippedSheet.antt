-- The shipped rules as a sheet: 861 bytes, within the bounds, accepted with 162 nodes and 9 groups.
use Rattle.std.specs.Prelude.{ℕ, ◌≡◌, refl, true, length}
use Rattle.std.proofs.Common.{ap, ◌∙◌}
use Rattle.paper.specs.Groups.{same}
use Rattle.paper.specs.Shipped.{shipped}
use Rattle.paper.specs.Words.{all_small}
use Rattle.records.specs.Framing.{two, record_of}
use Rattle.records.specs.RecordBytes.{gate_body, rule_body, at_most12, allowed_action, allowed}
use Rattle.sheets.specs.SheetBytes.{rules_bytes, groups_bytes, sheet_of, all_allowed, groups_allowed, rule_count, bounded}
use Rattle.sheets.specs.Sheets.{accepted, read_sheet}
use Rattle.paper.specs.Nodes.{tails, tails_of, member, distinct, node_count}
use Rattle.answers.specs.Answers.{counting}
use Rattle.sheets.specs.Checks.{check_of, checked}
use Rattle.sheets.specs.ReadBack.{read_back}

pub size : length (sheet_of shipped) ≡ 861
unfolding shipped two record_of gate_body rule_body rules_bytes groups_bytes sheet_of
size = refl

pub within_bounds : bounded shipped ≡ true
unfolding shipped all_small at_most12 allowed_action allowed all_allowed groups_allowed rule_count bounded
within_bounds = refl

pub nodes : node_count shipped ≡ 162
unfolding shipped same tails tails_of member distinct node_count
nodes = refl

pub reads : read_sheet (sheet_of shipped) ≡ accepted shipped
reads = read_back shipped within_bounds

pub accepts : checked (sheet_of shipped) ≡ counting 162 9
unfolding checked shipped
accepts = ap check_of reads ∙ ap (λ (count : ℕ). counting count 9) nodes
