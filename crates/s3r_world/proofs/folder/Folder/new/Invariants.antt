use Rattle.std.proofs.Common.{◌≡◌, vec_len}
use Rattle.s3r_world.proofs.folder.Folder.new.Given as goal

abbrev pub invariant-loop : goal.invariant-loop
invariant-loop g l = vec_len l.files ≡ l.counter
