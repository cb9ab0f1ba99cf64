use Rattle.std.proofs.Common.{◌≡◌, ◌*◌, ◌≤◌, IsTrue, Ok, [], length}
use Rattle.s3r_world.specs.Outside.{KeepsShape, NoneFalls}
use Rattle.s3r_desk.specs.Events.{Events}
use Rattle.s3r_desk.specs.Keeping.{AreNumbered, AreTied, Keeps}
use Rattle.s3r_desk.specs.Rounds.{round, rounds, summary, total}
use Rattle.s3r_desk.specs.Worked.{MakesTurns}
use Rattle.s3r_desk.specs.Happened.{Happened}
use Rattle.s3r_desk.proofs.working.work.Given as goal

abbrev pub invariant-loop : goal.invariant-loop
invariant-loop g l = record {
  turns : l.turns.items ≡ round (length l.fn.stores.items);
  few : total l.summary ≤ 72 * l.counter;
  count : length l.stores.items ≡ length l.fn.stores.items;
  numbered : AreNumbered l.stores.items;
  tied : IsTrue g.W.World.tells → AreTied l.stores.items (g.W.World.outside l.world);
  told : IsTrue g.W.World.tells → (before : Events) → Keeps before l.fn.stores.items (g.W.World.outside l.fn.world)
      → Happened (MakesTurns (rounds l.counter (length l.fn.stores.items)) (length l.fn.stores.items) (g.W.World.shape l.fn.world).room
      (g.W.World.outside l.fn.world).as_read before (summary 0 []) (Ok l.summary) (g.W.World.faults l.fn.world) (g.W.World.faults l.world)) before
      l.fn.stores.items l.stores.items (g.W.World.outside l.fn.world) (g.W.World.outside l.world);
  counts : NoneFalls (g.W.World.faults l.fn.world) (g.W.World.faults l.world);
  goes : g.W.World.goes l.fn.world l.world;
  shape : KeepsShape (g.W.World.shape l.fn.world) (g.W.World.shape l.world);
}
