use Rattle.std.proofs.Common.{◌≤◌, ◌-◌, length, IsTrue}
use Rattle.s3r_world.specs.Outside.{KeepsShape, NoneFalls}
use Rattle.s3r_service.specs.Sends.{Sends}
use Rattle.s3r_service.proofs.sending.emit_all.Given as goal

abbrev pub invariant-loop-sent : goal.invariant-loop-sent
invariant-loop-sent g l = record {
  within : l.sent ≤ length l.bytes;
  told : IsTrue g.W.World.tells → Sends l.bytes l.sent (g.W.World.outside l.fn.world) (g.W.World.outside l.world);
  counts : NoneFalls (g.W.World.faults l.fn.world) (g.W.World.faults l.world);
  goes : g.W.World.goes l.fn.world l.world;
  shape : KeepsShape (g.W.World.shape l.fn.world) (g.W.World.shape l.world);
}

abbrev pub decreases-loop-sent : goal.decreases-loop-sent
decreases-loop-sent g l = length l.bytes - l.sent
