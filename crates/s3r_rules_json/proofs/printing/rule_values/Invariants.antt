use Rattle.std.proofs.Common.{◌≡◌, map, take}
use Rattle.serde_json.specs.View.{view}
use Rattle.s3r_rules_json.specs.Printing.{rule_data}
use Rattle.s3r_rules_json.proofs.printing.rule_values.Given as goal

abbrev pub invariant-loop-rule : goal.invariant-loop-rule
invariant-loop-rule l = map view l.values.items ≡ map rule_data (take l.rule-index l.rules)
