-- The lines of a manifest, and its first refusal.
use Rattle.std.specs.Prelude.{ℕ, suc, ◌==◌, nat_lt, if◌then◌else◌, List, [], ◌∷◌, length, take, unwrap_or, Bool, Option, Some, None, Result, Ok, Err}
use Rattle.csv.specs.Reading.{records, default_config, strip_bom}
use Rattle.csv.specs.Records.{field_at}
use Rattle.s3r_names.specs.declared.version.VersionId.{VersionId}
use Rattle.s3r_lines.specs.declared.object.ObjectRef.{ObjectRef}
use Rattle.s3r_lines.specs.declared.kind.LineKind.{LineKind}
use Rattle.s3r_lines.specs.declared.kind.LineKind.TheVariants.{Fields, Bucket, Key, Version}
use Rattle.s3r_routes.specs.declared.fault.RouteFault.{RouteFault}
use Rattle.s3r_routes.specs.Names.{bucket_named, key_written, version_named}
use Rattle.s3r_manifest.specs.declared.fault.ManifestFault.{ManifestFault}
use Rattle.s3r_manifest.specs.declared.fault.ManifestFault.TheVariants.{ManifestTooLong, BadLine, TooManyLines}

-- the most bytes of a manifest
abbrev pub most_bytes : ℕ
most_bytes = 4194304

-- the most records of a manifest
abbrev pub most_records : ℕ
most_records = 20000

-- what comes of a value, or what was wrong before
infixl 10 ◌>>=◌
abbrev pub ◌>>=◌ : {A B E : Type 0} → Result A E → (A → Result B E) → Result B E
(Ok x) >>= f = f x
(Err fault) >>= f = Err fault

-- the fields of a record
abbrev pub Row : Type 0
Row = List (List ℕ)

-- the field at a place, from 0; nothing where there is none
abbrev pub field : ℕ → Row → List ℕ
field place row = unwrap_or (field_at row place) []

-- a name, or what is wrong of the record that doesn't have it
abbrev pub named : {X : Type 0} → LineKind → Result X RouteFault → Result X LineKind
named kind (Ok x) = Ok x
named kind (Err fault) = Err kind

abbrev pub bucket_of : List ℕ → Result (List ℕ) LineKind
bucket_of bytes = named Bucket (bucket_named bytes)

-- only the key is percent-decoded
abbrev pub key_of : List ℕ → Result (List ℕ) LineKind
key_of bytes = named Key (key_written bytes)

-- nothing stands for the latest version
abbrev pub version_of : List ℕ → Result (Option VersionId) LineKind
version_of [] = Ok None
version_of (byte ∷ bytes) = named Version (version_named (byte ∷ bytes)) >>= (λ id. Ok (Some id))

-- a bucket and a key, and a version where it is asked for
abbrev pub columns : Bool → ℕ
columns versions = if versions then 3 else 2

-- the object that a record names, or what is wrong of the record first
abbrev pub line_of : Bool → Row → Result ObjectRef LineKind
line_of versions row =
    if length row == columns versions
    then bucket_of (field 0 row)
    >>= (λ bucket. key_of (field 1 row)
    >>= (λ key. version_of (if versions then field 2 row else [])
    >>= (λ version. Ok (record { bucket = bucket; key = key; version = version }))))
    else Err Fields

-- the same, with the number of the record that is wrong
abbrev pub numbered : {X : Type 0} → ℕ → Result X LineKind → Result X ManifestFault
numbered number (Ok x) = Ok x
numbered number (Err kind) = Err (BadLine number kind)

-- a line in front of those of the records behind it
abbrev pub onto : Result ObjectRef ManifestFault → Result (List ObjectRef) ManifestFault → Result (List ObjectRef) ManifestFault
onto line more = line >>= (λ first. more >>= (λ lines. Ok (first ∷ lines)))

-- the lines of records, of which the first has this number, or the first fault among them
unfoldable pub lines_from : Bool → ℕ → List Row → Result (List ObjectRef) ManifestFault
lines_from versions number [] = Ok []
lines_from versions number (row ∷ rows) = onto (numbered number (line_of versions row)) (lines_from versions (suc number) rows)

-- lines of records, where those are no more than so many
abbrev pub within : ℕ → List Row → List ObjectRef → Result (List ObjectRef) ManifestFault
within most rows lines = if nat_lt most (length rows) then Err TooManyLines else Ok lines

-- the lines of all records of a text: what is wrong of the first 20,000 comes before that there are more
abbrev pub lines_of : Bool → List Row → Result (List ObjectRef) ManifestFault
lines_of versions rows = lines_from versions 1 (take most_records rows) >>= (λ lines. within most_records rows lines)

-- the records of a text, as `csv` reads them with its defaults behind a byte order mark
abbrev pub rows_of : List ℕ → List Row
rows_of text = records default_config (strip_bom text)

-- the lines of a manifest, or its first refusal
abbrev pub manifest : Bool → List ℕ → Result (List ObjectRef) ManifestFault
manifest versions text = if nat_lt most_bytes (length text) then Err ManifestTooLong else lines_of versions (rows_of text)
