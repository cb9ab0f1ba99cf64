use Rattle.std.proofs.Common.{◌≡◌, ◌<◌, ℕ, IsTrue, IsSome, Some, Ok, length}
use Rattle.std.specs.Prelude.{slice_get}
use Rattle.s3r_world.specs.Outside.{KeepsShape, NoneFalls, Looks}
use Rattle.s3r_store.specs.declared.store.Store.{Store}
use Rattle.s3r_desk.specs.Events.{Events}
use Rattle.s3r_desk.specs.Keeping.{AreNumbered, AreTied, Keeps}
use Rattle.s3r_desk.specs.Responds.{Touches}
use Rattle.s3r_desk.proofs.touching.touch_all.Given as goal

abbrev pub invariant-loop-r : goal.invariant-loop-r
invariant-loop-r g l = record {
  count : length l.stores.items ≡ length l.fn.stores.items;
  numbered : AreNumbered l.stores.items;
  tied : IsTrue g.W.World.tells → AreTied l.stores.items (g.W.World.outside l.world);
  read : (q : ℕ) (s : Store) → q < l.r → slice_get l.stores.items q ≡ Some s → IsSome s.held;
  looks : IsTrue g.W.World.tells → Looks (g.W.World.outside l.fn.world) (g.W.World.outside l.world);
  told : IsTrue g.W.World.tells → (before : Events) → Keeps before l.fn.stores.items (g.W.World.outside l.fn.world)
      → Touches before (Ok tt) l.fn.stores.items l.stores.items (g.W.World.outside l.fn.world) (g.W.World.outside l.world);
  counts : NoneFalls (g.W.World.faults l.fn.world) (g.W.World.faults l.world);
  goes : g.W.World.goes l.fn.world l.world;
  shape : KeepsShape (g.W.World.shape l.fn.world) (g.W.World.shape l.world);
}
