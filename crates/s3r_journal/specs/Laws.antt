-- The laws of what bytes stand for and of scans.
use Rattle.std.specs.Prelude.{◌≡◌, ℕ, ◌<◌, List, ◌++◌, All}
use Rattle.s3r_journal.specs.Volume.{Front, StandsTo, Stands, format_of}
use Rattle.s3r_journal.specs.Scan.{ScansTo}

-- no bytes stand for two histories
abbrev pub OneHistory : Type 0
OneHistory = (region : ℕ) (bytes : List ℕ) (h k : List (List ℕ)) → Stands region h bytes → Stands region k bytes → h ≡ k

-- nor in two formats, or to two ends
abbrev pub OneEnd : Type 0
OneEnd =
    (region format other : ℕ) (bytes : List ℕ) (h k : List (List ℕ)) (e f : ℕ) →
    StandsTo region format h e bytes → StandsTo region other k f bytes → (h ≡ k) × (e ≡ f) × (format ≡ other)

-- scans find the history that the bytes stand for
abbrev pub StandingScans : Type 0
StandingScans = (region format : ℕ) (bytes : List ℕ) (h : List (List ℕ)) (e : ℕ) → StandsTo region format h e bytes → ScansTo region h e 16 bytes

-- and bytes stand for the history that scans find
abbrev pub ScanningStands : Type 0
ScanningStands =
    (region : ℕ) (bytes : List ℕ) (h : List (List ℕ)) (e : ℕ) → All (λ b. b < 256) bytes → ScansTo region h e 16 bytes →
    StandsTo region (format_of bytes) h e bytes

-- what has been read begins each history that the bytes stand for
abbrev pub FrontBegins : Type 0
FrontBegins = (region : ℕ) (bytes : List ℕ) (h k : List (List ℕ)) (at : ℕ) → Front region h at bytes → Stands region k bytes → (ss : List (List ℕ))
    × (k ≡ h ++ ss)
