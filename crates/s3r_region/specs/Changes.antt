-- What one command changes.
use Rattle.std.specs.Prelude.{◌≡◌, ◌+◌, ℕ, min, Bool, true, List, [], ◌∷◌, None, is_some, is_none, if◌then◌else◌, IsTrue}
use Rattle.s3r_names.specs.declared.stamp.Stamp.{Stamp}
use Rattle.s3r_versions.specs.Lookup.{find_version}
use Rattle.s3r_versions.specs.Contents.{with_row, without_version, on_version, with_tags, with_hold}
use Rattle.s3r_versions.specs.Removed.{with_id}
use Rattle.s3r_history.specs.Words.{Name}
use Rattle.s3r_history.specs.declared.sent.Sent.{Sent}
use Rattle.s3r_history.specs.Past.{Entry}
use Rattle.s3r_history.specs.Kept.{push_all}
use Rattle.s3r_region.specs.declared.bucket.Bucket.{Bucket}
use Rattle.s3r_region.specs.declared.change.Change.{Change}
use Rattle.s3r_region.specs.declared.change.Change.TheVariants as change
use Rattle.s3r_region.specs.Contents.{Contents, is_named, is_given, none_has}

-- the first element that passes the test is changed
abbrev pub set_first : {X : Type 0} → (X → Bool) → (X → X) → List X → List X
set_first p f [] = []
set_first p f (x ∷ xs) = if p x then f x ∷ xs else x ∷ set_first p f xs

-- the first element that passes the test is left out
abbrev pub without_first : {X : Type 0} → (X → Bool) → List X → List X
without_first p [] = []
without_first p (x ∷ xs) = if p x then xs else x ∷ without_first p xs

-- a bucket with no versions
abbrev pub new_bucket : Name → Bool → Bucket
new_bucket name locked = record { name = name; locked = locked; enabled = true; config = None; rows = record { rows = []; removed = [] } }

abbrev pub with_rows : List Entry → Bucket → Bucket
with_rows rows b = record b { rows = record b.rows { rows = rows } }

-- the rows where a version is received that is there: of an object the tags and the hold are written by their stamps
abbrev pub met : Entry → List Entry → List Entry
met row rows = if row.marker then rows
    else on_version row.key row.id (with_hold row.hold_stamp row.hold) (on_version row.key row.id (with_tags row.tags_stamp row.tags) rows)

-- the rows with a version that is received
abbrev pub received : Entry → List Entry → List Entry
received row rows = if is_none (find_version row.key row.id rows) then with_row row rows else met row rows

-- the bucket after the change
abbrev pub changed : Change → Bucket → Bucket
changed (change.Add row) b = with_rows (with_row row b.rows.rows) b
changed (change.Receive row) b = with_rows (received row b.rows.rows) b
changed (change.Remove key id) b = record b {
  rows = record {
    rows = without_version key id b.rows.rows;
    removed = if is_some (find_version key id b.rows.rows) then with_id id b.rows.removed else b.rows.removed;
  };
}
changed (change.Tags key id tags stamp) b = with_rows (on_version key id (with_tags stamp tags) b.rows.rows) b
changed (change.Hold key id hold stamp) b = with_rows (on_version key id (with_hold stamp hold) b.rows.rows) b
changed (change.Versioning enabled) b = record b { enabled = enabled }
changed (change.Replication config) b = record b { config = config }

-- the buckets after the change of an effect, where that is applied
abbrev pub changed_if : Bool → Name → Change → List Bucket → List Bucket
changed_if applied name c buckets = if applied then set_first (is_named name) (changed c) buckets else buckets

-- a row that is added is of no version that is there
abbrev pub IsFree : Change → Bucket → Type 0
IsFree (change.Add row) b = find_version row.key row.id b.rows.rows ≡ None
IsFree (change.Receive row) b = Unit {0}
IsFree (change.Remove key id) b = Unit {0}
IsFree (change.Tags key id tags stamp) b = Unit {0}
IsFree (change.Hold key id hold stamp) b = Unit {0}
IsFree (change.Versioning enabled) b = Unit {0}
IsFree (change.Replication config) b = Unit {0}

-- a row that is added is of a version that no bucket has
abbrev pub IsFreeIn : Change → List Bucket → Type 0
IsFreeIn (change.Add row) buckets = IsTrue (none_has row.key row.id buckets)
IsFreeIn (change.Receive row) buckets = Unit {0}
IsFreeIn (change.Remove key id) buckets = Unit {0}
IsFreeIn (change.Tags key id tags stamp) buckets = Unit {0}
IsFreeIn (change.Hold key id hold stamp) buckets = Unit {0}
IsFreeIn (change.Versioning enabled) buckets = Unit {0}
IsFreeIn (change.Replication config) buckets = Unit {0}

-- the state after one command more, which makes the change, under this number of the clock, and sends this
abbrev pub with_change : Contents → Name → Change → ℕ → List Sent → Contents
with_change s name c n sends = record s {
  commands = s.commands + 1;
  clock = n;
  buckets = set_first (is_named name) (changed c) s.buckets;
  outbox = push_all (s.commands + 1) sends s.outbox;
}

-- the stamp of the command that comes next, where it writes
abbrev pub next_stamp : Contents → Stamp
next_stamp s = record { n = min (s.clock + 1) 18446744073709551615; region = s.region; index = s.commands + 1 }

-- a row that is added has the next command's id, and one that is received has an id that was given
abbrev pub IsNext : Contents → Change → Type 0
IsNext s (change.Add row) = (row.id.region ≡ s.region) × (row.id.index ≡ s.commands + 1)
IsNext s (change.Receive row) = IsTrue (is_given s.region s.commands row)
IsNext s (change.Remove key id) = Unit {0}
IsNext s (change.Tags key id tags stamp) = Unit {0}
IsNext s (change.Hold key id hold stamp) = Unit {0}
IsNext s (change.Versioning enabled) = Unit {0}
IsNext s (change.Replication config) = Unit {0}
