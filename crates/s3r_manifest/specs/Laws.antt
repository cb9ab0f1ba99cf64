-- What the lines of a manifest and its refusals mean, record by record.
use Rattle.std.specs.Prelude.{◌≡◌, ◌↔◌, ◌<◌, ◌≤◌, ◌+◌, ℕ, Bool, List, ◌∷◌, ◌++◌, length, map, take, Result, Ok, Err}
use Rattle.s3r_lines.specs.declared.object.ObjectRef.{ObjectRef}
use Rattle.s3r_lines.specs.declared.kind.LineKind.{LineKind}
use Rattle.s3r_manifest.specs.declared.fault.ManifestFault.{ManifestFault}
use Rattle.s3r_manifest.specs.declared.fault.ManifestFault.TheVariants.{ManifestTooLong, BadLine, TooManyLines, OutOfMemory}
use Rattle.s3r_manifest.specs.Lines.{Row, most_bytes, most_records, line_of, rows_of, manifest}

-- each of these records names the object at its place
abbrev pub AreLines : Bool → List Row → List ObjectRef → Type 0
AreLines versions rows lines = map (line_of versions) rows ≡ map Ok lines

-- Of records that are numbered from `first` on, the one of this number is wrong in this way, and all before it are right.
pub record IsFirstWrong (versions : Bool) (first : ℕ) (rows : List Row) (number : ℕ) (kind : LineKind) : Type 0 where
  pub before : List Row
  pub row : Row
  pub behind : List Row
  pub parted : rows ≡ before ++ row ∷ behind
  pub place : number ≡ first + length before
  pub lines : List ObjectRef
  pub right : AreLines versions before lines
  pub wrong : line_of versions row ≡ Err kind

-- what a text is where this is its reading
abbrev pub Means : Bool → List ℕ → Result (List ObjectRef) ManifestFault → Type 0
Means versions text (Ok lines) = (length text ≤ most_bytes) × (length (rows_of text) ≤ most_records) × AreLines versions (rows_of text) lines
Means versions text (Err ManifestTooLong) = most_bytes < length text
Means versions text (Err (BadLine number kind)) =
    (length text ≤ most_bytes) × (number ≤ most_records) × IsFirstWrong versions 1 (rows_of text) number kind
Means versions text (Err TooManyLines) =
    (length text ≤ most_bytes) × (most_records < length (rows_of text))
    × ((lines : List ObjectRef) × AreLines versions (take most_records (rows_of text)) lines)
Means versions text (Err OutOfMemory) = ⊥

-- Each text has exactly one reading, which is `manifest`'s.
abbrev pub OneReading : Type 0
OneReading = (versions : Bool) (text : List ℕ) (reading : Result (List ObjectRef) ManifestFault)
    → (manifest versions text ≡ reading) ↔ Means versions text reading
