-- A store and the volume that it was read from.
use Rattle.std.specs.Prelude.{◌≡◌, ℕ, List, [], Option, Some, None, IfSome, IsSomeAnd}
use Rattle.s3r_world.specs.Outside.{Outside}
use Rattle.s3r_journal.specs.Volume.{StandsTo}
use Rattle.s3r_journal.specs.Step.{IsReady, IsVacant}
use Rattle.s3r_history.specs.Words.{History}
use Rattle.s3r_history.specs.Accepts.{IsLawful}
use Rattle.s3r_region.specs.After.{IsAfter}
use Rattle.s3r_store.specs.declared.loaded_region.LoadedRegion.{LoadedRegion}
use Rattle.s3r_store.specs.declared.store.Store.{Store}
use Rattle.s3r_store.specs.Stands.{spelled}

-- a command may be put at the end, where there is one, or behind a header that is to be made
abbrev pub CanCommit : ℕ → Option ℕ → Outside → Type 0
CanCommit v None w = IsVacant v w
CanCommit v (Some end) w = IsReady v end w

-- besides, the volume stands for commands of these spellings, in some format
abbrev pub IsAtEnd : ℕ → Option ℕ → List (List ℕ) → Outside → Type 0
IsAtEnd v None spellings w = (spellings ≡ []) × IsVacant v w
IsAtEnd v (Some end) spellings w = IsReady v end w × (format : ℕ) × StandsTo v format spellings end (w.as_read.volume v)

-- The state is after a lawful history, for which the volume stands, with this end, in each image. n is the number of
-- regions.
pub record Knows (n v : ℕ) (held : LoadedRegion) (h : History) (w : Outside) : Type 0 where
  pub after : IsAfter held.state h
  pub region : held.state.region ≡ v
  pub regions : held.state.regions ≡ n
  pub lawful : IsLawful n v h
  pub volume : IsAtEnd v held.end (spelled h) w

abbrev pub IsKnown : (n v : ℕ) → LoadedRegion → Outside → Type 0
IsKnown n v held w = (h : History) × Knows n v held h w

-- the store was read, and its state is after this history
abbrev pub IsStoreAfter : Store → History → Type 0
IsStoreAfter store h = IsSomeAnd store.held (λ held. IsAfter held.state h)

-- it is after some lawful history, whatever the world tells
abbrev pub IsAfterSome : Store → Type 0
IsAfterSome store = ∥ ((h : History) × IsStoreAfter store h × IsLawful store.regions store.v h) ∥₁

-- the store was read, and its history is this one
abbrev pub Holds : Store → History → Outside → Type 0
Holds store h w = IsSomeAnd store.held (λ held. Knows store.regions store.v held h w)

-- where the store was read, it has the history of its volume
abbrev pub Ties : Store → Outside → Type 0
Ties store w = IfSome store.held (λ held. IsKnown store.regions store.v held w)
