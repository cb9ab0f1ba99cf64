-- What each read of a scan tells.
use Rattle.std.specs.Prelude.{◌≡◌, ◌≢◌, ◌⊎◌, ℕ, ◌+◌, ◌≤◌, ◌<◌, ◌^◌, List, [], ◌∷◌, ◌++◌, length, take, drop, slice_index, Result, Ok, Err}
use Rattle.std.specs.Int.{to_be_bytes, w32}
use Rattle.s3r_journal.specs.declared.scanning.Header.{Header}
use Rattle.s3r_journal.specs.declared.scanning.Header.TheVariants.{Missing, Wrong, Right}
use Rattle.s3r_journal.specs.declared.scanning.Head.{Head}
use Rattle.s3r_journal.specs.declared.scanning.Head.TheVariants.{Closed, Cut, Open}
use Rattle.s3r_journal.specs.declared.scanning.Scanned.{Scanned}
use Rattle.s3r_journal.specs.declared.scanning.Scanned.TheVariants.{Empty, End, Record}
use Rattle.s3r_journal.specs.declared.scanning.ScanFault.{ScanFault}
use Rattle.s3r_journal.specs.declared.scanning.ScanFault.TheVariants.{Volume, Damaged, OutOfMemory}
use Rattle.s3r_journal.specs.Volume.{label, IsEmptyVolume}

-- the first bytes of a volume are no header yet, another's, or the region's
abbrev pub IsHeader : ℕ → List ℕ → Header → Type 0
IsHeader region bytes Missing = IsEmptyVolume bytes
IsHeader region bytes Wrong = (16 ≤ length bytes) × (slice_index bytes 0 ≡ 1) × (take 14 (drop 1 bytes) ≢ label region)
IsHeader region bytes Right = (16 ≤ length bytes) × (slice_index bytes 0 ≡ 1) × (take 14 (drop 1 bytes) ≡ label region)

-- the bytes from a place on begin with a closed gate, are cut in the head, or begin with an open gate and a length
abbrev pub IsHead : List ℕ → Head → Type 0
IsHead rest Closed = (gate : ℕ) × (behind : List ℕ) × (gate ≢ 1) × (rest ≡ gate ∷ behind)
IsHead rest Cut = (rest ≡ []) ⊎ ((behind : List ℕ) × (length behind < 4) × (rest ≡ 1 ∷ behind))
IsHead rest (Open n) = (n < 2 ^ 32) × ((behind : List ℕ) × (rest ≡ 1 ∷ to_be_bytes w32 n ++ behind))

-- behind a head of this length the record is whole, or it is too long or cut
abbrev pub IsBody : ℕ → ℕ → List ℕ → Result Scanned ScanFault → Type 0
IsBody at n rest (Ok Empty) = ⊥
IsBody at n rest (Ok (End gate)) = ⊥
IsBody at n rest (Ok (Record bytes next)) = (next ≡ at + 5 + n) × (n ≤ 16777216) × (5 + n ≤ length rest) × (bytes.items ≡ take n (drop 5 rest))
IsBody at n rest (Err (Volume u)) = Unit {0}
IsBody at n rest (Err (Damaged u offset)) = (offset ≡ at) × ((16777216 < n) ⊎ (length rest < 5 + n))
IsBody at n rest (Err OutOfMemory) = Unit {0}

-- at a place is a closed gate, a record that is whole, or neither
abbrev pub IsThere : ℕ → List ℕ → Result Scanned ScanFault → Type 0
IsThere at rest (Ok Empty) = ⊥
IsThere at rest (Ok (End gate)) = (gate ≡ at) × IsHead rest Closed
IsThere at rest (Ok (Record bytes next)) =
    (next ≡ at + 5 + length bytes.items) × (length bytes.items ≤ 16777216)
    × ((behind : List ℕ) × (rest ≡ 1 ∷ to_be_bytes w32 (length bytes.items) ++ bytes.items ++ behind))
IsThere at rest (Err (Volume u)) = Unit {0}
IsThere at rest (Err (Damaged u offset)) = (offset ≡ at) × (IsHead rest Cut ⊎ ((n : ℕ) × IsHead rest (Open n) × ((16777216 < n) ⊎ (length rest < 5 + n))))
IsThere at rest (Err OutOfMemory) = Unit {0}
