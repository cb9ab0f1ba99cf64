use Rattle.std.proofs.Common.{◌≡◌, take}
use Rattle.s3r_rules.specs.Writes.{seen}
use Rattle.s3r_rules.specs.Choices.{choices_of}
use Rattle.s3r_rules.proofs.per_destination.choices.Given as goal

abbrev pub invariant-loop-place : goal.invariant-loop-place
invariant-loop-place l = l.choices.items ≡ choices_of (seen l.write) (take l.place l.rules)
