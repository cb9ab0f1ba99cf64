use Rattle.std.proofs.Common.{◌≡◌, drop}
use Rattle.s3r_rules.specs.Choice.{fits, greatest_from, greatest}
use Rattle.s3r_rules.specs.Writes.{seen}
use Rattle.s3r_rules.proofs.choice.greatest.Given as goal

abbrev pub invariant-loop-rule : goal.invariant-loop-rule
invariant-loop-rule l = greatest_from (fits l.to (seen l.write)) l.most (drop l.rule-index l.rules) ≡ greatest (fits l.to (seen l.write)) l.rules
