use Rattle.std.proofs.Common.{length}
use Rattle.s3r_rules.proofs.lawful.+have_own_priorities.Given as goal

abbrev pub decreases-have_own_priorities : goal.decreases-have_own_priorities
decreases-have_own_priorities l = length l.rules.now
