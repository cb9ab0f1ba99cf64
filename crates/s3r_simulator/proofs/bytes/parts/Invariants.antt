use Rattle.std.proofs.Common.{length}
use Rattle.s3r_simulator.proofs.bytes.parts.Given as goal

abbrev pub decreases-loop-rest : goal.decreases-loop-rest
decreases-loop-rest l = length l.rest
