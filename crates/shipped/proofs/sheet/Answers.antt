-- `shipped::sheet` meets its contract: the constant is the bytes of the shipped rules.
use mathlib.Core.Path.{refl}
use Rattle.paper.specs.Shipped.{shipped}
use Rattle.records.specs.Framing.{two, record_of}
use Rattle.records.specs.RecordBytes.{gate_body, rule_body}
use Rattle.sheets.specs.SheetBytes.{rules_bytes, groups_bytes, sheet_of}
use Rattle.shipped.proofs.sheet.Goals as goal

-- one computed test over all bytes of the constant
pub returns : goal.returns
unfolding shipped two record_of gate_body rule_body rules_bytes groups_bytes sheet_of
returns c = refl
