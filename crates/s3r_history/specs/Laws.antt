-- What is true of every history.
use Rattle.std.specs.Prelude.{◌≡◌, ◌<◌, ℕ, Bool, true, false, not, ◌&&◌, List, [], ◌∷◌, Some, None, Contains, length}
use Rattle.std.specs.List.{list_any}
use Rattle.std.specs.Str.{bytes_eq}
use Rattle.s3r_names.specs.declared.stamp.Stamp.{Stamp}
use Rattle.s3r_names.specs.declared.tags.Tag.{Tag}
use Rattle.s3r_names.specs.declared.version.VersionId.{VersionId}
use Rattle.s3r_record.specs.declared.command.Command.TheVariants as command
use Rattle.s3r_versions.specs.Order.{is_listed}
use Rattle.s3r_history.specs.Words.{Name, History}
use Rattle.s3r_history.specs.Buckets.{is_there, names}
use Rattle.s3r_history.specs.Past.{Entry, clock}
use Rattle.s3r_history.specs.Judging.{is_ahead}
use Rattle.s3r_history.specs.Deeds.{deeds, next_stamp, version, marker}
use Rattle.s3r_history.specs.Rows.{life, rows, row_at, latest}
use Rattle.s3r_history.specs.Writes.{tags_written, hold_written, IsFirstGreatest}
use Rattle.s3r_history.specs.BucketView.{BucketView}
use Rattle.s3r_history.specs.Told.{told}
use Rattle.s3r_history.specs.Accepts.{IsLawful}

-- a bucket's rows stand in the listing order
abbrev pub RowsAreListed : Type 0
RowsAreListed = (r : ℕ) (h : History) (b : Name) → is_listed (rows (deeds r h) b) ≡ true

-- a row's id isn't one that the region gives with a later command
abbrev pub IdsAreGiven : Type 0
IdsAreGiven = (r : ℕ) (h : History) (b : Name) (row : Entry) → Contains (rows (deeds r h) b) row → is_ahead r (length h) row.id ≡ false

-- the id that the next command gives isn't there
abbrev pub IdsAreNew : Type 0
IdsAreNew = (r : ℕ) (h : History) (b key : Name) (id : VersionId) → id.region ≡ r → id.index ≡ (next_stamp r (deeds r h)).index
    → row_at (deeds r h) b key id ≡ None

-- what a Put wrote is the latest row of its key, while the clock runs
abbrev pub PutIsLatest : Type 0
PutIsLatest = (r : ℕ) (h : History) (b key : Name) (tags : List Tag) (hold : Bool) (class body : List ℕ) → clock (deeds r h) < 18446744073709551615
    → latest (deeds r (command.Put b key tags hold class body ∷ h)) b key ≡ Some (version (next_stamp r (deeds r h)) key tags hold class body)

-- so is a marker, which hides the versions before it
abbrev pub MarkerIsLatest : Type 0
MarkerIsLatest = (r : ℕ) (h : History) (b key : Name) → clock (deeds r h) < 18446744073709551615
    → latest (deeds r (command.Marker b key ∷ h)) b key ≡ Some (marker (next_stamp r (deeds r h)) key)

-- a removed version isn't there
abbrev pub RemovedIsGone : Type 0
RemovedIsGone = (r : ℕ) (h : History) (b key : Name) (id : VersionId) → row_at (deeds r (command.Remove b key id ∷ h)) b key id ≡ None

-- The tags of a row that is told are those of the first write whose stamp no other exceeds, among all that was written of the
-- version's tags since the bucket's last creation: what it was added with, what was set, and what was received. So is its hold.
abbrev pub RowsAreWritten : Type 0
RowsAreWritten = (n r : ℕ) (h : History) (b : Name) (at : BucketView) (row : Entry) → IsLawful n r h → told r h b ≡ Some at → Contains at.rows row
    → IsFirstGreatest (tags_written (life b (deeds r h)) b row.key row.id) (row.tags_stamp, row.tags)
    × IsFirstGreatest (hold_written (life b (deeds r h)) b row.key row.id) (row.hold_stamp, row.hold)

-- Of a row that was put here, and not received, it is so among all that the history ever wrote of the version. A version that was
-- received may have been there before the bucket's last creation, and other tags may have been written of it then.
abbrev pub PutRowsAreWritten : Type 0
PutRowsAreWritten = (n r : ℕ) (h : History) (b : Name) (at : BucketView) (row : Entry) → IsLawful n r h → told r h b ≡ Some at → Contains at.rows row
    → row.origin ≡ None
    → IsFirstGreatest (tags_written (deeds r h) b row.key row.id) (row.tags_stamp, row.tags)
    × IsFirstGreatest (hold_written (deeds r h) b row.key row.id) (row.hold_stamp, row.hold)

-- of several writes only one is that
abbrev pub FirstGreatestIsOne : Type 0
FirstGreatestIsOne = ((ws : List (Stamp × List Tag)) (v w : Stamp × List Tag) → IsFirstGreatest ws v → IsFirstGreatest ws w → v ≡ w)
    × ((ws : List (Stamp × Bool)) (v w : Stamp × Bool) → IsFirstGreatest ws v → IsFirstGreatest ws w → v ≡ w)

-- a name is counted where its bucket is there
abbrev pub NamesAreThose : Type 0
NamesAreThose = (h : History) (b : Name) → list_any (λ name. bytes_eq name b) (names h) ≡ is_there h b

-- no name stands among those that follow it
abbrev pub is_once : List Name → Bool
is_once [] = true
is_once (name ∷ names) = not (list_any (λ other. bytes_eq other name) names) && is_once names

abbrev pub NoNameTwice : Type 0
NoNameTwice = (h : History) → is_once (names h) ≡ true
