-- What a scan finds in the bytes of a volume.
use Rattle.std.specs.Prelude.{◌≡◌, ◌⊎◌, ◌==◌, ℕ, ◌+◌, ◌&&◌, if◌then◌else◌, nat_le, ◌≤◌, List, [], ◌∷◌, ◌++◌, length, take, drop, Result, Ok, Err, IfOk}
use Rattle.std.specs.Int.{from_be_bytes, w32}
use Rattle.std.specs.Str.{bytes_eq}
use Rattle.s3r_world.specs.declared.world.Side.TheVariants as side
use Rattle.s3r_world.specs.Outside.{Outside, Looks, IsStable, Counts, Rises}
use Rattle.s3r_journal.specs.declared.scanning.Scanned.{Scanned}
use Rattle.s3r_journal.specs.declared.scanning.Scanned.TheVariants.{Empty, End, Record}
use Rattle.s3r_journal.specs.declared.scanning.ScanFault.{ScanFault}
use Rattle.s3r_journal.specs.declared.scanning.ScanFault.TheVariants.{Volume, Damaged, OutOfMemory}
use Rattle.s3r_journal.specs.Volume.{label, IsEmptyVolume, is_empty_volume, Front, StandsTo, Stands}
use Rattle.s3r_journal.specs.Step.{IsReady, IsVacant}

-- what is at a place: no header yet, no record that is whole, a closed gate, or a record and the next place
pub data Finding : Type 0 where
  no_header : Finding
  damaged_at : (offset : ℕ) → Finding
  end_at : (gate : ℕ) → Finding
  one_record : (spelling : List ℕ) (next : ℕ) → Finding

-- an open record of this length at a place, by the bytes behind its gate
abbrev pub record_of : ℕ → ℕ → List ℕ → Finding
record_of at n behind = if nat_le n 16777216 && nat_le (4 + n) (length behind) then one_record (take n (drop 4 behind)) (at + 5 + n) else damaged_at at

-- what is at a place, by the bytes from there on
abbrev pub found_in : ℕ → List ℕ → Finding
found_in at [] = damaged_at at
found_in at (gate ∷ behind) = if gate == 1 then record_of at (from_be_bytes w32 (take 4 behind)) behind else end_at at

-- what is in a volume, by its header and the bytes behind it
abbrev pub first_in : ℕ → List ℕ → Finding
first_in region bytes = if is_empty_volume bytes then no_header else (if bytes_eq (take 14 (drop 1 bytes)) (label region) then found_in 16
    (drop 16 bytes) else damaged_at 1)

-- What a scan from a place on finds. It reads the header where the records begin.
abbrev pub finding : ℕ → ℕ → List ℕ → Finding
finding region from bytes = if from == 16 then first_in region bytes else found_in from (drop from bytes)

-- an answer tells this finding
abbrev pub Answers : Finding → Result Scanned ScanFault → Type 0
Answers f (Ok Empty) = f ≡ no_header
Answers f (Ok (End at)) = f ≡ end_at at
Answers f (Ok (Record bytes next)) = f ≡ one_record bytes.items next
Answers f (Err (Volume u)) = Unit {0}
Answers f (Err (Damaged u at)) = f ≡ damaged_at at
Answers f (Err OutOfMemory) = Unit {0}

-- nothing has been read, or all up to this place: the header and the records of these spellings
abbrev pub IsReadTo : ℕ → List (List ℕ) → ℕ → List ℕ → Type 0
IsReadTo region h at bytes = ((h ≡ []) × (at ≡ 16)) ⊎ Front region h at bytes

-- What is known after an answer of bytes that were read up to this place: what they stand for, one record more, or
-- that they stand for nothing.
abbrev pub ReadsOn : ℕ → List (List ℕ) → ℕ → List ℕ → Result Scanned ScanFault → Type 0
ReadsOn region h from bytes (Ok Empty) = (h ≡ []) × IsEmptyVolume bytes
ReadsOn region h from bytes (Ok (End at)) = (at ≡ from) × (format : ℕ) × StandsTo region format h at bytes
ReadsOn region h from bytes (Ok (Record r next)) = Front region (h ++ r.items ∷ []) next bytes
ReadsOn region h from bytes (Err (Volume u)) = Unit {0}
ReadsOn region h from bytes (Err (Damaged u at)) = (k : List (List ℕ)) → Stands region k bytes → ⊥
ReadsOn region h from bytes (Err OutOfMemory) = Unit {0}

-- the volume is stable, and what may be written to it next has its condition met
abbrev pub Permits : ℕ → Scanned → Outside → Type 0
Permits v Empty w = IsVacant v w
Permits v (End at) w = IsReady v at w
Permits v (Record bytes next) w = IsStable v w

-- Volume v of a region was scanned from a place on.
pub record Scans (v region from : ℕ) (result : Result Scanned ScanFault) (old new : Outside) : Type 0 where
  pub looks : Looks old new
  pub answer : Answers (finding region from (old.as_read.volume v)) result
  pub permits : IfOk result (λ s. Permits v s new)
  pub reads : (h : List (List ℕ)) → IsReadTo region h from (old.as_read.volume v) → ReadsOn region h from (new.as_read.volume v) result

-- a fault of the volume was counted, and damage is told of that volume
abbrev pub HasCause : ℕ → ScanFault → Counts → Counts → Type 0
HasCause v (Volume u) old new = (u ≡ v) × Rises 1 (side.Volume v) old new
HasCause v (Damaged u at) old new = u ≡ v
HasCause v OutOfMemory old new = Unit {0}

-- a fault of the volume was counted, or there was no memory
abbrev pub HasFailed : ℕ → ScanFault → Counts → Counts → Type 0
HasFailed v (Volume u) old new = (u ≡ v) × Rises 1 (side.Volume v) old new
HasFailed v (Damaged u at) old new = ⊥
HasFailed v OutOfMemory old new = Unit {0}

-- scans in turn from this place on find these spellings, and then the end
abbrev pub ScansTo : ℕ → List (List ℕ) → ℕ → ℕ → List ℕ → Type 0
ScansTo region [] end from bytes = finding region from bytes ≡ end_at end
ScansTo region (s ∷ ss) end from bytes = (finding region from bytes ≡ one_record s (from + 5 + length s)) × ScansTo region ss end (from + 5 + length s) bytes

-- the history ends at this place, or the next place is behind the record
abbrev pub GoesOn : ℕ → Scanned → Type 0
GoesOn from Empty = Unit {0}
GoesOn from (End at) = at ≡ from
GoesOn from (Record bytes next) = (next ≡ from + 5 + length bytes.items) × (length bytes.items ≤ 16777216)
