-- What a write with its sync, and two of them in turn, do to a world.
use Rattle.std.specs.Prelude.{ℕ, ◌<◌, Bool, IsTrue, List, length}
use Rattle.s3r_world.specs.Image.{Holds, Torn, OnVolume, Reached, Follows}
use Rattle.s3r_world.specs.Outside.{Outside, Elapses, KeepsInput, IsStable}
use Rattle.s3r_journal.specs.Volume.{IsEmptyVolume}

-- These bytes were written and made stable, or a call failed.
pub record WritesThrough (v at : ℕ) (bytes : List ℕ) (ok : Bool) (old new : Outside) : Type 0 where
  pub written : IsTrue ok → OnVolume v (Holds at bytes) old.as_read new.as_read
  pub stable : IsTrue ok → IsStable v new
  pub as_read : OnVolume v (Torn at (length bytes)) old.as_read new.as_read
  pub images : Follows (OnVolume v (Torn at (length bytes))) old.images new.images
  -- at each moment
  pub time : Elapses old new (Reached (OnVolume v (Torn at (length bytes))) old.images)
  pub input : KeepsInput old new

-- each image has of the volume what a read gives, and a byte is at this place
pub record IsReady (v end : ℕ) (w : Outside) : Type 0 where
  pub stable : IsStable v w
  pub long : end < length (w.as_read.volume v)

-- each image has of the volume what a read gives, and that is an empty volume
pub record IsVacant (v : ℕ) (w : Outside) : Type 0 where
  pub stable : IsStable v w
  pub empty : IsEmptyVolume (w.as_read.volume v)

-- Volume v was changed by a gate that was opened last, or the change is in doubt. After Ok it ends at this gate.
pub record Changed (v end : ℕ) (May Does : List ℕ → List ℕ → Type 0) (ok : Bool) (old new : Outside) : Type 0 where
  -- at each moment each image is as before or as changed
  pub time : Elapses old new (Reached (OnVolume v May) old.images)
  pub images : Follows (OnVolume v May) old.images new.images
  pub as_read : OnVolume v May old.as_read new.as_read
  -- after Ok it is changed
  pub done : IsTrue ok → Follows (OnVolume v Does) old.images new.images
  pub read : IsTrue ok → OnVolume v Does old.as_read new.as_read
  pub ready : IsTrue ok → IsReady v end new
  pub input : KeepsInput old new
