use Rattle.std.proofs.Common.{◌≡◌, reverse, vec_len}
use Rattle.s3r_world.specs.Events.{reads_of, picked, AgreesBelow, IsSettled}
use Rattle.s3r_world.proofs.disk.Disk.image.Given as goal

abbrev pub invariant-loop-v : goal.invariant-loop-v
invariant-loop-v l = record {
  volumes : vec_len l.disk.volumes ≡ l.count;
  agrees : AgreesBelow l.v (reads_of (reverse l.disk.events.items)) (picked l.pick (reverse l.self.events.items));
  settled : IsSettled (reverse l.disk.events.items);
}
