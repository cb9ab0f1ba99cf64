-- What the bytes of a volume stand for.
use Rattle.std.specs.Prelude.{◌≡◌, ◌≢◌, ◌⊎◌, ◌==◌, ℕ, ◌+◌, ◌-◌, ◌<◌, ◌≤◌, Bool, not, ◌||◌, nat_lt}
use Rattle.std.specs.Prelude.{List, [], ◌∷◌, ◌++◌, length, take, drop, slice_index}
use Rattle.std.specs.Int.{to_be_bytes, w32}

-- the bytes between a header's gate and its format: S3RVOL, the region's digit and zeros
abbrev pub label : ℕ → List ℕ
label region = 83 ∷ 51 ∷ 82 ∷ 86 ∷ 79 ∷ 76 ∷ (48 + region) ∷ 0 ∷ 0 ∷ 0 ∷ 0 ∷ 0 ∷ 0 ∷ 0 ∷ []

-- the header of a region's volume, its gate open
abbrev pub header : ℕ → ℕ → List ℕ
header region format = 1 ∷ label region ++ format ∷ []

-- the length of a command's spelling, the spelling, and the closed gate behind it
abbrev pub frame_of : List ℕ → List ℕ
frame_of s = to_be_bytes w32 (length s) ++ s ++ 0 ∷ []

-- the spelling in a frame
abbrev pub spelling_of : List ℕ → List ℕ
spelling_of frame = take (length frame - 5) (drop 4 frame)

-- a frame of a spelling that is short enough
pub record IsFrame (frame : List ℕ) : Type 0 where
  pub short : length (spelling_of frame) ≤ 16777216
  pub whole : frame ≡ frame_of (spelling_of frame)

-- the records of these spellings, each with its open gate
abbrev pub records : List (List ℕ) → List ℕ
records [] = []
records (s ∷ ss) = 1 ∷ to_be_bytes w32 (length s) ++ s ++ records ss

-- each is as short as a spelling may be
abbrev pub AreShort : List (List ℕ) → Type 0
AreShort [] = Unit {0}
AreShort (s ∷ ss) = (length s ≤ 16777216) × AreShort ss

-- The header is open and right, and the bytes up to this place are it and the records of these spellings.
pub record Front (region : ℕ) (spellings : List (List ℕ)) (at : ℕ) (bytes : List ℕ) : Type 0 where
  pub format : ℕ
  pub rest : List ℕ
  pub whole : bytes ≡ (header region format ++ records spellings) ++ rest
  pub place : length (header region format ++ records spellings) ≡ at
  pub short : AreShort spellings

-- The volume's header gate is open, its header has this format, and it has the records of these spellings and then, at
-- this end, a closed gate.
pub record StandsTo (region format : ℕ) (spellings : List (List ℕ)) (end : ℕ) (bytes : List ℕ) : Type 0 where
  pub gate : ℕ
  pub rest : List ℕ
  pub closed : gate ≢ 1
  pub whole : bytes ≡ (header region format ++ records spellings) ++ gate ∷ rest
  pub place : length (header region format ++ records spellings) ≡ end
  pub short : AreShort spellings

-- fewer bytes than a header has, or a closed header gate
abbrev pub IsEmptyVolume : List ℕ → Type 0
IsEmptyVolume bytes = (length bytes < 16) ⊎ (slice_index bytes 0 ≢ 1)

-- the test of that
abbrev pub is_empty_volume : List ℕ → Bool
is_empty_volume bytes = nat_lt (length bytes) 16 || not (slice_index bytes 0 == 1)

-- the format of a volume that has an open header
abbrev pub format_of : List ℕ → ℕ
format_of bytes = slice_index bytes 15

-- what a volume's bytes stand for, in some format
abbrev pub Stands : ℕ → List (List ℕ) → List ℕ → Type 0
Stands region spellings bytes = (IsEmptyVolume bytes × (spellings ≡ [])) ⊎ ((end : ℕ) × (format : ℕ) × StandsTo region format spellings end bytes)
