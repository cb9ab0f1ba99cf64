-- Stores, and what is known of their regions.
use Rattle.std.specs.Prelude.{◌≡◌, ℕ, List, length, Option, Some, None, slice_get, IsSome}
use Rattle.s3r_world.specs.Outside.{Outside}
use Rattle.s3r_history.specs.Words.{History}
use Rattle.s3r_store.specs.declared.loaded_region.LoadedRegion.{LoadedRegion}
use Rattle.s3r_store.specs.declared.store.Store.{Store}
use Rattle.s3r_store.specs.Knows.{Knows, Ties}
use Rattle.s3r_desk.specs.Events.{Events, known}

-- each store has its place as its number, and the number of regions
pub record AreNumbered (stores : List Store) : Type 0 where
  pub v : (r : ℕ) (s : Store) → slice_get stores r ≡ Some s → s.v ≡ r
  pub regions : (r : ℕ) (s : Store) → slice_get stores r ≡ Some s → s.regions ≡ length stores

-- what was read of a region, one of n, is what was found last, and nothing was read where nothing is known
abbrev pub IsHeld : ℕ → Events → ℕ → Option LoadedRegion → Outside → Type 0
IsHeld n events r None w = known events r ≡ None
IsHeld n events r (Some held) w = (h : History) × (known events r ≡ Some h) × Knows n r held h w

-- so it is of each store
abbrev pub Keeps : Events → List Store → Outside → Type 0
Keeps events stores w = (r : ℕ) (s : Store) → slice_get stores r ≡ Some s → IsHeld s.regions events r s.held w

-- each store was read
abbrev pub AreRead : List Store → Type 0
AreRead stores = (r : ℕ) (s : Store) → slice_get stores r ≡ Some s → IsSome s.held

-- each store that was read has the history of its volume
abbrev pub AreTied : List Store → Outside → Type 0
AreTied stores w = (r : ℕ) (s : Store) → slice_get stores r ≡ Some s → Ties s w

-- none was read
abbrev pub IsFresh : List Store → Type 0
IsFresh stores = (r : ℕ) (s : Store) → slice_get stores r ≡ Some s → s.held ≡ None
