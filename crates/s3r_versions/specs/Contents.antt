-- What a bucket keeps of its versions, and how it changes.
use Rattle.std.specs.Prelude.{◌≡◌, ℕ, Bool, not, List, [], ◌∷◌, if◌then◌else◌, filter, map}
use Rattle.s3r_names.specs.Stamp.{is_before}
use Rattle.s3r_names.specs.declared.stamp.Stamp.{Stamp}
use Rattle.s3r_names.specs.declared.tags.Tag.{Tag}
use Rattle.s3r_names.specs.declared.version.VersionId.{VersionId}
use Rattle.s3r_versions.specs.declared.row.Row.{Row}
use Rattle.s3r_versions.specs.Order.{comes_before}
use Rattle.s3r_versions.specs.Lookup.{is_version}

-- the rows as they are listed, and the ids that were removed, rising
pub record Contents (B : Type 0) : Type 0 where
  pub rows : List (Row B)
  pub removed : List VersionId

-- the rows and one more, which goes before the first that it comes before
abbrev pub with_row : {B : Type 0} → Row B → List (Row B) → List (Row B)
with_row row [] = row ∷ []
with_row row (other ∷ rows) = if comes_before row other then row ∷ other ∷ rows else other ∷ with_row row rows

-- the rows but for those of a version
abbrev pub without_version : {B : Type 0} → List ℕ → VersionId → List (Row B) → List (Row B)
without_version key id rows = filter (λ row. not (is_version key id row)) rows

-- the row, changed where it is the version
abbrev pub if_version : {B : Type 0} → List ℕ → VersionId → (Row B → Row B) → Row B → Row B
if_version key id f row = if is_version key id row then f row else row

-- the rows, those of a version changed
abbrev pub on_version : {B : Type 0} → List ℕ → VersionId → (Row B → Row B) → List (Row B) → List (Row B)
on_version key id f rows = map (if_version key id f) rows

-- the row with these tags, where its own were written before the stamp
abbrev pub with_tags : {B : Type 0} → Stamp → List Tag → Row B → Row B
with_tags stamp tags row = if is_before row.tags_stamp stamp then record row { tags = tags; tags_stamp = stamp } else row

-- the row with this hold, where its own was written before the stamp
abbrev pub with_hold : {B : Type 0} → Stamp → Bool → Row B → Row B
with_hold stamp hold row = if is_before row.hold_stamp stamp then record row { hold = hold; hold_stamp = stamp } else row

-- the function leaves a row what its place in the listing order depends on
pub record KeepsPlace {A B : Type 0} (f : Row A → Row B) : Type 0 where
  pub key : (row : Row A) → (f row).key ≡ row.key
  pub id : (row : Row A) → (f row).id ≡ row.id
  pub n : (row : Row A) → (f row).n ≡ row.n
