-- How a fault leaves commits that are made one after another.
use Rattle.std.specs.Prelude.{◌≡◌, ◌⊎◌, ℕ, ◌<◌, ◌≤◌, List, [], ◌∷◌, ◌++◌}
use Rattle.s3r_store.specs.Commits.{length_with}
use Rattle.s3r_desk.specs.Events.{began, Events}
use Rattle.s3r_desk.specs.Steps.{Histories, Commit, after_commits, made, FitRooms}

-- A first part of the commits was made sure, and the next one wasn't.
pub record StopsAt (room : ℕ → ℕ) (at : Histories) (commits : List Commit) (events : Events) : Type 0 where
  pub first : List Commit
  pub next : Commit
  pub others : List Commit
  pub parts : commits ≡ first ++ next ∷ others
  pub fit : FitRooms room at first
  -- what happened to the next
  pub last : Events
  pub events_are : events ≡ last ++ made at first

-- the next commit began, and is in doubt
abbrev pub IsInDoubt : Commit → Events → Type 0
IsInDoubt commit events = events ≡ began commit.region commit.command ∷ []

-- the next commit is one to this volume, which has room for it, and is in doubt
pub record IsBegun (room : ℕ → ℕ) (v : ℕ) (at : Histories) (commits : List Commit) (events : Events) : Type 0 where
  pub stops : StopsAt room at commits events
  pub region : stops.next.region ≡ v
  pub fits : length_with v (after_commits stops.first at v) stops.next.command ≤ room v
  pub doubt : IsInDoubt stops.next stops.last

-- the next commit would pass the room of this volume, and wasn't begun
pub record PassesRoom (room : ℕ → ℕ) (v : ℕ) (at : Histories) (commits : List Commit) (events : Events) : Type 0 where
  pub stops : StopsAt room at commits events
  pub region : stops.next.region ≡ v
  pub full : room v < length_with v (after_commits stops.first at v) stops.next.command
  pub none : stops.last ≡ []

-- there was no memory: nothing was done, or the next commit wasn't begun, or is in doubt
abbrev pub IsStarved : (ℕ → ℕ) → Histories → List Commit → Events → Type 0
IsStarved room at commits events = (events ≡ []) ⊎ ((stops : StopsAt room at commits events) × ((stops.last ≡ []) ⊎ IsInDoubt stops.next stops.last))
