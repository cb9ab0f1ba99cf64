-- The header gate of an empty volume: closed first, and opened over the header.
use Rattle.std.specs.Prelude.{◌≢◌, ◌⊎◌, ℕ, ◌<◌, Bool, IsTrue, List, [], ◌∷◌, ◌++◌, length, drop, slice_index}
use Rattle.s3r_world.specs.Image.{OnVolume, Reached, Follows}
use Rattle.s3r_world.specs.Outside.{Outside, Elapses, KeepsInput, IsStable}
use Rattle.s3r_journal.specs.Volume.{header, StandsTo, IsEmptyVolume}

-- what stands behind the gate of a header of no records: the header, and a closed gate
abbrev pub header_frame : ℕ → List ℕ
header_frame region = drop 1 (header region 1) ++ 0 ∷ []

-- the header gate is there, and closed
pub record IsShut (bytes : List ℕ) : Type 0 where
  pub long : 0 < length bytes
  pub closed : slice_index bytes 0 ≢ 1

-- An empty volume v has a closed header gate, or is still empty.
pub record Shuts (v : ℕ) (ok : Bool) (old new : Outside) : Type 0 where
  pub time : Elapses old new (Reached (OnVolume v (λ a b. IsEmptyVolume a → IsEmptyVolume b)) old.images)
  pub images : Follows (OnVolume v (λ a b. IsEmptyVolume a → IsEmptyVolume b)) old.images new.images
  pub as_read : OnVolume v (λ a b. IsEmptyVolume a → IsEmptyVolume b) old.as_read new.as_read
  pub stable : IsTrue ok → IsStable v new
  pub shut : IsTrue ok → IsShut (new.as_read.volume v)
  pub input : KeepsInput old new

-- a closed header gate was opened over the header
abbrev pub Opens : ℕ → List ℕ → List ℕ → Type 0
Opens region old new = IsShut old → StandsTo region 1 [] 16 new

-- or the volume is empty
abbrev pub MayOpen : ℕ → List ℕ → List ℕ → Type 0
MayOpen region old new = IsShut old → IsEmptyVolume new ⊎ StandsTo region 1 [] 16 new
