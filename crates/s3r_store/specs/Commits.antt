-- What a commit does.
use Rattle.std.specs.Prelude.{◌≡◌, ◌⊎◌, ℕ, ◌+◌, ◌<◌, ◌≤◌, Bool, true, false, IsTrue, List, ◌∷◌, ◌++◌, length, Some, None, Result, Ok, Err}
use Rattle.s3r_world.specs.Image.{OnVolume, Reached, Follows}
use Rattle.s3r_world.specs.declared.world.Side.TheVariants as side
use Rattle.s3r_world.specs.Outside.{Outside, Elapses, KeepsInput, Counts, Rises}
use Rattle.s3r_record.specs.declared.command.Command.{Command}
use Rattle.s3r_record.specs.Spelling.{spelling, frame}
use Rattle.s3r_journal.specs.Volume.{header, records}
use Rattle.s3r_history.specs.Words.{History}
use Rattle.s3r_history.specs.Accepts.{refusal}
use Rattle.s3r_store.specs.declared.fault.StoreFault.{StoreFault}
use Rattle.s3r_store.specs.declared.fault.StoreFault.TheVariants as faults
use Rattle.s3r_store.specs.declared.loaded_region.LoadedRegion.{LoadedRegion}
use Rattle.s3r_store.specs.Stands.{spelled, StandsFor, KeepsFormat}
use Rattle.s3r_store.specs.Knows.{Knows, IsAtEnd}

-- the volume stands for the history, or for it with the command
pub record IsEither (n v : ℕ) (h : History) (c : Command) (old new : List ℕ) : Type 0 where
  pub stands : StandsFor n v h new ⊎ StandsFor n v (c ∷ h) new
  pub format : KeepsFormat old new

-- it stands for the history with the command
pub record IsWith (n v : ℕ) (h : History) (c : Command) (old new : List ℕ) : Type 0 where
  pub stands : StandsFor n v (c ∷ h) new
  pub format : KeepsFormat old new

-- A command was committed to volume v behind this history, or is in doubt.
pub record Commits (n v : ℕ) (h : History) (c : Command) (ok : Bool) (old new : Outside) : Type 0 where
  -- at each moment each image has the history as before or with the command
  pub time : Elapses old new (Reached (OnVolume v (IsEither n v h c)) old.images)
  pub images : Follows (OnVolume v (IsEither n v h c)) old.images new.images
  pub as_read : OnVolume v (IsEither n v h c) old.as_read new.as_read
  -- after Ok each has the command
  pub done : IsTrue ok → Follows (OnVolume v (IsWith n v h c)) old.images new.images
  pub read : IsTrue ok → OnVolume v (IsWith n v h c) old.as_read new.as_read
  pub input : KeepsInput old new

-- so many bytes the volume has with one record more and the gate behind it
abbrev pub length_with : ℕ → History → Command → ℕ
length_with v h c = length (header v 1 ++ records (spelled h)) + 1 + length (frame (spelling c))

-- what came of putting a command's record on the volume
abbrev pub HasWritten : (n v : ℕ) → History → Command → Result ℕ StoreFault → ℕ → Outside → Outside → Type 0
HasWritten n v h c (Ok end) room old new =
    (refusal n v h c ≡ None) × (length_with v h c ≤ room) × IsAtEnd v (Some end) (spelled (c ∷ h)) new × Commits n v h c true old new
HasWritten n v h c (Err (faults.Refused f)) room old new = refusal n v h c ≡ Some f
HasWritten n v h c (Err (faults.Full u)) room old new = (refusal n v h c ≡ None) × (room < length_with v h c)
HasWritten n v h c (Err (faults.Volume u)) room old new = (refusal n v h c ≡ None) × (length_with v h c ≤ room) × Commits n v h c false old new
HasWritten n v h c (Err (faults.Damaged u offset)) room old new = ⊥
HasWritten n v h c (Err faults.OutOfMemory) room old new = (refusal n v h c ≡ None) × Commits n v h c false old new

-- what is held after a commit, and what came of it
abbrev pub HasCommitted : (n v : ℕ) → History → Command → Result ℕ StoreFault → ℕ → LoadedRegion → LoadedRegion → Outside → Outside → Type 0
HasCommitted n v h c (Ok index) room a b old new =
    (index ≡ length h + 1) × (refusal n v h c ≡ None) × (length_with v h c ≤ room) × Knows n v b (c ∷ h) new × Commits n v h c true old new
HasCommitted n v h c (Err fault) room a b old new = HasWritten n v h c (Err fault) room old new

-- a volume's fault was counted, and is told of that volume
abbrev pub IsCause : {A : Type 0} → ℕ → Result A StoreFault → Counts → Counts → Type 0
IsCause v (Ok x) old new = Unit {0}
IsCause v (Err (faults.Refused f)) old new = Unit {0}
IsCause v (Err (faults.Full u)) old new = u ≡ v
IsCause v (Err (faults.Volume u)) old new = (u ≡ v) × Rises 1 (side.Volume v) old new
IsCause v (Err (faults.Damaged u offset)) old new = ⊥
IsCause v (Err faults.OutOfMemory) old new = Unit {0}

-- what holds where the history refused the command, or the room did
abbrev pub WhereDenied : {A : Type 0} → Result A StoreFault → Type 0 → Type 0
WhereDenied (Ok x) P = Unit {0}
WhereDenied (Err (faults.Refused f)) P = P
WhereDenied (Err (faults.Full u)) P = P
WhereDenied (Err (faults.Volume u)) P = Unit {0}
WhereDenied (Err (faults.Damaged u offset)) P = Unit {0}
WhereDenied (Err faults.OutOfMemory) P = Unit {0}
