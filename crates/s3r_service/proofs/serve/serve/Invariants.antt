use Rattle.std.proofs.Common.{◌≡◌, ◌++◌, List, IsTrue, length}
use Rattle.s3r_world.specs.Outside.{KeepsShape, NoneFalls}
use Rattle.s3r_desk.specs.Keeping.{AreNumbered, AreTied}
use Rattle.s3r_service.specs.Turns.{Turn}
use Rattle.s3r_service.specs.Serving.{IsServing}
use Rattle.s3r_service.proofs.serve.serve.Given as goal

abbrev pub invariant-loop : goal.invariant-loop
invariant-loop g l = record {
  told : IsTrue g.W.World.tells → (turns : List Turn) × (length turns ≡ l.counter)
      × IsServing l.fn.regions (g.W.World.shape l.fn.world).room turns (l.buffer ++ (g.W.World.outside l.world).input) l.desk.stores.items
      (g.W.World.outside l.fn.world) (g.W.World.outside l.world) (g.W.World.faults l.fn.world) (g.W.World.faults l.world);
  tied : IsTrue g.W.World.tells → AreTied l.desk.stores.items (g.W.World.outside l.world);
  count : length l.desk.stores.items ≡ l.fn.regions;
  numbered : AreNumbered l.desk.stores.items;
  counts : NoneFalls (g.W.World.faults l.fn.world) (g.W.World.faults l.world);
  goes : g.W.World.goes l.fn.world l.world;
  shape : KeepsShape (g.W.World.shape l.fn.world) (g.W.World.shape l.world);
}
