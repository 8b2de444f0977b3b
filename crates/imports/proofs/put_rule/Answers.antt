-- `imports::put_rule` meets its contract: the three parts of the record are put one behind the other.
use native.Mathlib.Omega.{arith}
use Rattle.imports.specs.RuleRecords.{short_parts, rule_size, rule_appends}
use Rattle.imports.proofs.put_rule.Goals as goal

pub overflow_add-size-2 : goal.overflow_add-size-2
overflow_add-size-2 c = omega (arith, short_parts c.args.rest.now c.args.rule c.requires.1.0 c.requires.1.1)

pub overflow_cast-head : goal.overflow_cast-head
overflow_cast-head c = omega (arith, short_parts c.args.rest.now c.args.rule c.requires.1.0 c.requires.1.1)

pub overflow_cast-head-2 : goal.overflow_cast-head-2
overflow_cast-head-2 c = omega (arith, short_parts c.args.rest.now c.args.rule c.requires.1.0 c.requires.1.1)

pub overflow_add-result-2 : goal.overflow_add-result-2
overflow_add-result-2 c = omega (arith, c.requires.0, short_parts c.args.rest.now c.args.rule c.requires.1.0 c.requires.1.1)

pub returns : goal.returns
returns c = let rest = c.args.rest.now in
    let rule = c.args.rule in record {
      appends = rule_appends rest rule c.requires.1.0 c.requires.1.1 c.args.at c.put.ensures c.put-2.ensures
          c.put-3.ensures;
      value = omega (arith, rule_size rest rule c.requires.1.0 c.requires.1.1);
    }
