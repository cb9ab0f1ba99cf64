-- What is left in the images of a world while events come.
use Rattle.std.specs.Prelude.{◌≡◌, ◌⊎◌, ℕ, ◌<◌, List, [], ◌∷◌, ◌++◌}
use Rattle.s3r_world.specs.Image.{Image, Reached, Follows}
use Rattle.s3r_world.specs.Outside.{Outside, Elapses}
use Rattle.s3r_desk.specs.Events.{found, began, answered, Events}
use Rattle.s3r_desk.specs.Progress.{Advances}

-- what the events put out
abbrev pub output_of : Events → List ℕ
output_of [] = []
output_of (found r h ∷ events) = output_of events
output_of (began r c ∷ events) = output_of events
output_of (answered text ∷ events) = output_of events ++ text

-- Each volume below n stands for a history to which the events lead, and their answers are out.
pub record Brings (n : ℕ) (events : Events) (old new : Image) : Type 0 where
  pub volume : (r : ℕ) → r < n → Advances n events r (old.volume r) (new.volume r)
  pub output : new.output ≡ old.output ++ output_of events

-- what may be out of what comes next: nothing, or a front of its answer
abbrev pub IsFront : List ℕ → Events → Type 0
IsFront front later = (front ≡ []) ⊎ ((rest : List ℕ) × (more : Events) × (later ≡ more ++ answered (front ++ rest) ∷ []))

-- an image after the first so many of the events, and with a front of the answer that is next
pub record AtMoment (n : ℕ) (events : Events) (images : Image → Type 0) (c : Image) : Type 0 where
  pub later : Events
  pub earlier : Events
  pub parts : events ≡ later ++ earlier
  pub front : List ℕ
  pub next : IsFront front later
  pub reached : Reached (Brings n (answered front ∷ earlier)) images c

-- The events came to pass, one after another. At each moment each image is one of the old ones after the first of them.
pub record Passes (n : ℕ) (events : Events) (old new : Outside) : Type 0 where
  pub time : Elapses old new (AtMoment n events old.images)
  pub images : Follows (Brings n events) old.images new.images
  pub as_read : Brings n events old.as_read new.as_read
