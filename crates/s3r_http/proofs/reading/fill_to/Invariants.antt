use Rattle.std.proofs.Common.{◌≡◌, ◌-◌, length, take, IsTrue}
use Rattle.s3r_world.specs.Outside.{KeepsShape, NoneFalls}
use Rattle.s3r_http.specs.Input.{ReadsOn}
use Rattle.s3r_http.proofs.reading.fill_to.Given as goal

abbrev pub invariant-filling : goal.invariant-filling
invariant-filling g l = record {
  kept : take (length l.fn.buffer) l.buffer ≡ l.fn.buffer;
  told : IsTrue g.W.World.tells → ReadsOn l.fn.buffer l.buffer (g.W.World.outside l.fn.world) (g.W.World.outside l.world);
  counts : NoneFalls (g.W.World.faults l.fn.world) (g.W.World.faults l.world);
  goes : g.W.World.goes l.fn.world l.world;
  shape : KeepsShape (g.W.World.shape l.fn.world) (g.W.World.shape l.world);
}

abbrev pub decreases-filling : goal.decreases-filling
decreases-filling g l = l.count - length l.buffer
