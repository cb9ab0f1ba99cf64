use Rattle.std.proofs.Common.{◌≤◌, length}
use Rattle.s3r_world.proofs.folder.read_from.Given as goal

abbrev pub invariant-loop : goal.invariant-loop
invariant-loop g l = l.filled ≤ length l.into
