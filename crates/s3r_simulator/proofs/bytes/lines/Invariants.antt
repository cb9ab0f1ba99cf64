use Rattle.std.proofs.Common.{length}
use Rattle.s3r_simulator.proofs.bytes.lines.Given as goal

abbrev pub decreases-loop-line : goal.decreases-loop-line
decreases-loop-line l = length l.rest
