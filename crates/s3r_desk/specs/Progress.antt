-- What events leave in the images of a world.
use Rattle.std.specs.Prelude.{◌≡◌, ℕ, ◌<◌, List, [], ◌∷◌, ◌++◌, Some}
use Rattle.s3r_world.specs.Image.{Image, Reached, Follows}
use Rattle.s3r_world.specs.Outside.{Outside, Elapses, KeepsInput}
use Rattle.s3r_history.specs.Words.{History}
use Rattle.s3r_store.specs.Stands.{StandsFor, KeepsFormat}
use Rattle.s3r_desk.specs.Events.{found, began, answered, Events, known, Leads}

-- no commit to the region began
abbrev pub IsLeft : Events → ℕ → Type 0
IsLeft [] r = Unit {0}
IsLeft (found s h ∷ events) r = IsLeft events r
IsLeft (began s c ∷ events) r = (s ≡ r → ⊥) × IsLeft events r
IsLeft (answered text ∷ events) r = IsLeft events r

-- What events leave of a region's volume; n is the number of regions.
pub record Advances (n : ℕ) (events : Events) (r : ℕ) (old new : List ℕ) : Type 0 where
  -- what stood for a lawful history stands for one to which the events lead
  pub leads : (h : History) → StandsFor n r h old → (k : History) × StandsFor n r k new × Leads events r h k
  -- what is known of the region is what the volume stands for
  pub known_is : (h : History) → known events r ≡ Some h → StandsFor n r h new
  -- where no commit began no byte was written
  pub left : IsLeft events r → new ≡ old
  pub format : KeepsFormat old new

-- so each volume below n does, and the output is the same
pub record Progress (n : ℕ) (events : Events) (old new : Image) : Type 0 where
  pub volume : (r : ℕ) → r < n → Advances n events r (old.volume r) (new.volume r)
  pub output : new.output ≡ old.output

-- an image after the first so many of the events
pub record IsWithin (n : ℕ) (events : Events) (images : Image → Type 0) (c : Image) : Type 0 where
  pub later : Events
  pub earlier : Events
  pub parts : events ≡ later ++ earlier
  pub reached : Reached (Progress n earlier) images c

-- The events happened, one after another. At each moment each image is one of the old ones after the first of them.
pub record Happens (n : ℕ) (events : Events) (old new : Outside) : Type 0 where
  pub time : Elapses old new (IsWithin n events old.images)
  pub images : Follows (Progress n events) old.images new.images
  pub as_read : Progress n events old.as_read new.as_read
  pub input : KeepsInput old new
