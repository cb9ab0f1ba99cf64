use Rattle.std.proofs.Common.{◌≡◌, ◌+◌, ◌-◌, ◌≤◌, ◌^◌, IsTrue, length}
use Rattle.s3r_world.specs.Outside.{KeepsShape, NoneFalls, Looks}
use Rattle.s3r_journal.specs.Scan.{IsReadTo}
use Rattle.s3r_journal.specs.Windows.{Shows}
use Rattle.s3r_history.specs.Words.{History}
use Rattle.s3r_history.specs.Accepts.{IsLawful}
use Rattle.s3r_region.specs.After.{IsAfter}
use Rattle.s3r_store.specs.Stands.{spelled}
use Rattle.s3r_store.proofs.reading.read_volume.Given as goal

abbrev pub invariant-records : goal.invariant-records
invariant-records g l = record {
  known : (h : History) × IsAfter l.state h × IsLawful l.regions l.v h × (length h + 16 ≤ l.from)
      × (IsTrue g.W.World.tells → IsReadTo l.v (spelled h) l.from ((g.W.World.outside l.world).as_read.volume l.v));
  region : l.state.region ≡ l.v;
  regions : l.state.regions ≡ l.regions;
  told : IsTrue g.W.World.tells → Looks (g.W.World.outside l.fn.world) (g.W.World.outside l.world);
  shows : IsTrue g.W.World.tells → Shows l.v l.window (g.W.World.outside l.world);
  counts : NoneFalls (g.W.World.faults l.fn.world) (g.W.World.faults l.world);
  goes : g.W.World.goes l.fn.world l.world;
  shape : KeepsShape (g.W.World.shape l.fn.world) (g.W.World.shape l.world);
}

abbrev pub decreases-records : goal.decreases-records
decreases-records g l = 2 ^ 64 - l.from
