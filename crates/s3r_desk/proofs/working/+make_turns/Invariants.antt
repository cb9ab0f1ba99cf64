use Rattle.std.proofs.Common.{length}
use Rattle.s3r_desk.proofs.working.+make_turns.Given as goal

abbrev pub decreases-make_turns : goal.decreases-make_turns
decreases-make_turns g l = length l.turns.now
