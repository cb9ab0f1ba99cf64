use Rattle.std.proofs.Common.{◌≡◌, drop}
use Rattle.s3r_rules.specs.Destinations.{names_from, destinations}
use Rattle.s3r_rules.proofs.buckets.names_of.Given as goal

abbrev pub invariant-loop-rule : goal.invariant-loop-rule
invariant-loop-rule l = names_from l.names.items (drop l.rule-index l.rules) ≡ destinations l.rules
