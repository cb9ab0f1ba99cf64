use Rattle.std.proofs.Common.{◌≡◌, length, take}
use Rattle.s3r_desk.specs.Steps.{location, regions_of}
use Rattle.s3r_desk.specs.Lookups.{views_of}
use Rattle.s3r_desk.proofs.replication.regions_of.Given as goal

abbrev pub invariant-loop-rule : goal.invariant-loop-rule
invariant-loop-rule l = l.regions.items ≡ regions_of (location (length l.stores) (views_of l.stores)) (take l.rule-index l.rules)
