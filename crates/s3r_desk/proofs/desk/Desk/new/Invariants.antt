use Rattle.std.proofs.Common.{◌≡◌, ℕ, Some, None, length}
use Rattle.std.specs.Prelude.{slice_get}
use Rattle.s3r_store.specs.declared.store.Store.{Store}
use Rattle.s3r_desk.proofs.desk.Desk.new.Given as goal

abbrev pub invariant-loop-v : goal.invariant-loop-v
invariant-loop-v l = record {
  count : length l.stores.items ≡ l.v;
  each : (r : ℕ) (s : Store) → slice_get l.stores.items r ≡ Some s → (s.v ≡ r) × (s.regions ≡ l.fn.regions) × (s.held ≡ None);
}
