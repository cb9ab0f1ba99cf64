use Rattle.std.proofs.Common.{◌≡◌, take, reverse}
use Rattle.s3r_world.specs.Events.{reads_of, left_of}
use Rattle.s3r_world.proofs.disk.Disk.left.Given as goal

abbrev pub invariant-loop-event : goal.invariant-loop-event
invariant-loop-event l = record {
  read : l.replay.read.items ≡ (reads_of (reverse (take l.event-index l.self.events.items))).volume l.v;
  left : l.replay.left.items ≡ left_of l.pick (reverse (take l.event-index l.self.events.items)) l.v;
}
