use Rattle.std.proofs.Common.{length}
use Rattle.s3r_rules.proofs.lawful.+have_own_ids.Given as goal

abbrev pub decreases-have_own_ids : goal.decreases-have_own_ids
decreases-have_own_ids l = length l.rules.now
