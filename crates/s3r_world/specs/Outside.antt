-- What a world holds, and what each of its calls does to it.
use Rattle.std.specs.Prelude.{◌≡◌, ◌⊎◌, ◌↔◌, ℕ, ◌+◌, ◌≤◌, min, Bool, true, IsTrue, List, [], ◌∷◌, ◌++◌, length, take, drop, Option, Some, None, Result, IfOk, IfErr, OnErr}
use Rattle.s3r_world.specs.Image.{Image, Holds, Torn, OnVolume, Puts, Reached, Follows, NoMore}
use Rattle.s3r_world.specs.declared.world.Side.{Side}
use Rattle.s3r_world.specs.declared.world.Side.TheVariants as side
use Rattle.s3r_world.specs.declared.world.VolumeFault.{VolumeFault}
use Rattle.s3r_world.specs.declared.world.InputFault.{InputFault}
use Rattle.s3r_world.specs.declared.world.OutputFault.{OutputFault}
use Rattle.s3r_world.specs.declared.world.DoorFault.{DoorFault}

-- what never changes: the number of volumes, and the room of each
pub record Shape : Type 0 where
  pub volumes : ℕ
  pub room : ℕ → ℕ

-- neither changes
pub record KeepsShape (old new : Shape) : Type 0 where
  pub volumes : new.volumes ≡ old.volumes
  pub room : (v : ℕ) → new.room v ≡ old.room v

-- how often each side has failed
pub record Counts : Type 0 where
  pub volume : ℕ → ℕ
  pub input : ℕ
  pub output : ℕ
  pub door : ℕ
  -- the number at which each of them stays, if there is one
  pub most : Option ℕ

-- how often one side has failed
abbrev pub count_of : Side → Counts → ℕ
count_of (side.Volume v) counts = counts.volume v
count_of side.Input counts = counts.input
count_of side.Output counts = counts.output
count_of side.Door counts = counts.door

-- all that a world holds, at a moment of its clock
pub record Outside : Type 1 where
  -- what reads give now, and what has been put out
  pub as_read : Image
  -- what a crash at this moment may leave
  pub images : Image → Type 0
  -- the moment, as a number that doesn't fall
  pub moment : ℕ
  -- what a crash at some moment from that one on might have left
  pub since : ℕ → Image → Type 0
  -- the bytes of the current input that haven't been taken
  pub input : List ℕ
  -- the inputs of the connections still to come
  pub connections : List (List ℕ)

-- Time goes on: each image since an earlier moment might have been left before, or has P. None is forgotten.
pub record Elapses (old new : Outside) (P : Image → Type 0) : Type 0 where
  pub later : old.moment ≤ new.moment
  pub each : (t : ℕ) (c : Image) → t ≤ old.moment → new.since t c → old.since t c ⊎ P c
  pub keeps : (t : ℕ) (c : Image) → t ≤ old.moment → old.since t c → new.since t c

-- no byte has been taken, and no connection has come
pub record KeepsInput (old new : Outside) : Type 0 where
  pub input : new.input ≡ old.input
  pub connections : new.connections ≡ old.connections

-- nothing has changed but the moment, and that a crash may leave less
pub record Looks (old new : Outside) : Type 0 where
  pub as_read : new.as_read ≡ old.as_read
  pub images : NoMore old.images new.images
  pub time : Elapses old new old.images
  pub input : KeepsInput old new

-- Bytes were written to a volume, or a write failed: then any bytes may be read in the range. Until a sync, a
-- crash may leave any bytes in the range.
pub record Writes (v at : ℕ) (bytes : List ℕ) (ok : Bool) (old new : Outside) : Type 0 where
  pub written : IsTrue ok → OnVolume v (Holds at bytes) old.as_read new.as_read
  pub as_read : OnVolume v (Torn at (length bytes)) old.as_read new.as_read
  pub images : Follows (OnVolume v (Torn at (length bytes))) old.images new.images
  pub time : Elapses old new (Reached (OnVolume v (Torn at (length bytes))) old.images)
  pub input : KeepsInput old new

-- each image has of this volume what a read gives
abbrev pub IsStable : ℕ → Outside → Type 0
IsStable v w = (c : Image) → w.images c → c.volume v ≡ w.as_read.volume v

-- What reads give of a volume was made stable, or a sync failed.
pub record Syncs (v : ℕ) (ok : Bool) (old new : Outside) : Type 0 where
  pub looks : Looks old new
  pub stable : IsTrue ok → IsStable v new

-- The front of these bytes was put out.
pub record Emits (bytes : List ℕ) (result : Result ℕ OutputFault) (old new : Outside) : Type 0 where
  pub count : ℕ
  pub ok : IfOk result (λ k. k ≡ count)
  pub within : count ≤ length bytes
  pub as_read : Puts (take count bytes) old.as_read new.as_read
  pub images : Follows (Puts (take count bytes)) old.images new.images
  pub time : Elapses old new (λ c. (n : ℕ) × (n ≤ count) × Reached (Puts (take n bytes)) old.images c)
  pub input : KeepsInput old new

-- no volume and no output has changed
pub record KeepsVolumes (old new : Outside) : Type 0 where
  pub as_read : new.as_read ≡ old.as_read
  pub images : NoMore old.images new.images
  pub time : Elapses old new old.images

-- The next bytes of the input went to the front of a buffer. A failed call took none.
pub record Takes (buffer after : List ℕ) (result : Result ℕ InputFault) (old new : Outside) : Type 0 where
  pub bytes : IfOk result (λ k. after ≡ take k old.input ++ drop k buffer)
  pub ok : IfOk result (λ k. new.input ≡ drop k old.input)
  pub within : IfOk result (λ k. k ≤ length old.input)
  pub over : IfOk result (λ k. (k ≡ 0) ↔ (old.input ≡ []))
  pub err : OnErr result (new.input ≡ old.input)
  pub connections : new.connections ≡ old.connections
  pub volumes : KeepsVolumes old new

-- the next connection has come, and its input is the current one
abbrev pub Comes : Outside → Outside → Type 0
Comes old new = old.connections ≡ new.input ∷ new.connections

-- The next connection has come where there is one. After a failed call it may have.
pub record Connects (result : Result Bool DoorFault) (old new : Outside) : Type 0 where
  pub come : IfOk result (λ b. IsTrue b → Comes old new)
  pub none : IfOk result (λ b. (b ≡ true) ⊎ ((old.connections ≡ []) × KeepsInput old new))
  pub err : OnErr result (Comes old new ⊎ KeepsInput old new)
  pub volumes : KeepsVolumes old new

-- what a count shows of so many failures, by the number at which it stays, if there is one
abbrev pub shown : Option ℕ → ℕ → ℕ
shown None failures = failures
shown (Some most) failures = min failures most

-- The count has risen by at least so many. Only one that stays at a number is excused: there it counts as risen by any.
abbrev pub HasRisen : Option ℕ → ℕ → ℕ → ℕ → Type 0
HasRisen most by old new = shown most (old + by) ≤ new

-- the count of a side has risen by at least so many
abbrev pub Rises : ℕ → Side → Counts → Counts → Type 0
Rises by side old new = HasRisen old.most by (count_of side old) (count_of side new)

-- no count has fallen, and the number at which they stay is the same
pub record NoneFalls (old new : Counts) : Type 0 where
  pub most : new.most ≡ old.most
  pub volume : (u : ℕ) → old.volume u ≤ new.volume u
  pub input : old.input ≤ new.input
  pub output : old.output ≤ new.output
  pub door : old.door ≤ new.door

-- a fault of volume v is told only where it was counted
pub record VolumeCause {T : Type 0} (v : ℕ) (result : Result T VolumeFault) (old new : Counts) : Type 0 where
  pub counts : NoneFalls old new
  pub fault : IfErr result (λ e. (e.0 ≡ v) × Rises 1 (side.Volume v) old new)

pub record InputCause {T : Type 0} (result : Result T InputFault) (old new : Counts) : Type 0 where
  pub counts : NoneFalls old new
  pub fault : OnErr result (Rises 1 side.Input old new)

pub record OutputCause {T : Type 0} (result : Result T OutputFault) (old new : Counts) : Type 0 where
  pub counts : NoneFalls old new
  pub fault : OnErr result (Rises 1 side.Output old new)

pub record DoorCause {T : Type 0} (result : Result T DoorFault) (old new : Counts) : Type 0 where
  pub counts : NoneFalls old new
  pub fault : OnErr result (Rises 1 side.Door old new)
