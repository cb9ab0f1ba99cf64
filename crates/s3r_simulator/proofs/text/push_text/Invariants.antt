use Rattle.std.proofs.Common.{length}
use Rattle.s3r_simulator.proofs.text.push_text.Given as goal

abbrev pub decreases-loop-piece : goal.decreases-loop-piece
decreases-loop-piece l = length l.rest
