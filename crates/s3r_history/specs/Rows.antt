-- A bucket's rows.
use Rattle.std.specs.Prelude.{Bool, false, not, ◌&&◌, List, [], ◌∷◌, ◌++◌, Option, Some, None, if◌then◌else◌, map}
use Rattle.std.specs.List.{list_any, cons_option}
use Rattle.std.specs.Str.{bytes_eq}
use Rattle.s3r_names.specs.Stamp.{is_before}
use Rattle.s3r_names.specs.declared.outcome.Outcome.{Outcome}
use Rattle.s3r_names.specs.declared.stamp.Stamp.{Stamp}
use Rattle.s3r_names.specs.declared.tags.Tag.{Tag}
use Rattle.s3r_names.specs.declared.version.VersionId.{VersionId}
use Rattle.s3r_record.specs.declared.command.Command.{Command}
use Rattle.s3r_record.specs.declared.command.Command.TheVariants as command
use Rattle.s3r_record.specs.declared.effect.Effect.TheVariants as effects
use Rattle.s3r_versions.specs.Lookup as lookup
use Rattle.s3r_versions.specs.Lookup.{id_eq}
use Rattle.s3r_versions.specs.Contents.{with_row}
use Rattle.s3r_versions.specs.Removed.{with_id}
use Rattle.s3r_history.specs.Words.{Name, newer_than}
use Rattle.s3r_history.specs.Buckets.{creates}
use Rattle.s3r_history.specs.Past.{Entry, Carried, Added, Deed, Past}
use Rattle.s3r_history.specs.Carried.{is_applied}

-- the command's bucket, key and id are those of the version k, i of the bucket b
abbrev pub names_it : Name → Name → VersionId → Name → Name → VersionId → Bool
names_it bucket key id b k i = bytes_eq bucket b && (bytes_eq k key && id_eq i id)

-- the command removes the version
abbrev pub removes : Name → Name → VersionId → Command → Bool
removes b k i (command.CreateBucket name locked) = false
removes b k i (command.DeleteBucket name) = false
removes b k i (command.SetVersioning name enabled) = false
removes b k i (command.SetReplication name config regions) = false
removes b k i (command.DropReplication name) = false
removes b k i (command.Put bucket key tags hold class body) = false
removes b k i (command.Marker bucket key) = false
removes b k i (command.Remove bucket key id) = names_it bucket key id b k i
removes b k i (command.SetTags bucket key id tags) = false
removes b k i (command.SetHold bucket key id hold) = false
removes b k i (command.Receive from number effect) = false
removes b k i (command.Settle to number outcome) = false
removes b k i (command.Attempt to number) = false
removes b k i (command.CreateJob spec manifest) = false
removes b k i (command.MoveJob job state) = false
removes b k i (command.SetPriority job priority) = false
removes b k i (command.Prepare job) = false
removes b k i (command.Line job line) = false
removes b k i (command.Finish job body) = false

-- what is added to the bucket, and not removed later
abbrev pub added_to : Name → List Command → Option Added → List Entry
added_to b later None = []
added_to b later (Some a) = if bytes_eq a.bucket b && not (list_any (removes b a.row.key a.row.id) later) then a.row ∷ [] else []

-- what these deeds added to the bucket, the newest first, without what a later command removes
abbrev pub standing : Name → List Command → Past → List Entry
standing b later [] = []
standing b later (d ∷ past) = added_to b later d.adds ++ standing b (d.command ∷ later) past

-- the deeds since the bucket's last creation
abbrev pub life : Name → Past → Past
life b past = newer_than (λ (d : Deed). creates b d.command) past

-- the versions of a bucket as they were added, the newest first
abbrev pub versions : Past → Name → List Entry
versions past b = standing b [] (life b past)

-- the deed added the version
abbrev pub adds_it : Name → Name → VersionId → Option Added → Bool
adds_it b k i None = false
adds_it b k i (Some a) = names_it a.bucket a.row.key a.row.id b k i

-- what an effect changes of the tags of a version that is there, and of its hold
abbrev pub tags_brought : Name → Name → VersionId → Carried → Option (Stamp × List Tag)
tags_brought b k i (effects.Replica from to key id n tags tags_stamp hold hold_stamp class body) =
    if names_it to key id b k i then Some (tags_stamp, tags) else None
tags_brought b k i (effects.Marker from to key id n) = None
tags_brought b k i (effects.Tags from to key id tags stamp) = if names_it to key id b k i then Some (stamp, tags) else None
tags_brought b k i (effects.Hold from to key id hold stamp) = None

abbrev pub hold_brought : Name → Name → VersionId → Carried → Option (Stamp × Bool)
hold_brought b k i (effects.Replica from to key id n tags tags_stamp hold hold_stamp class body) =
    if names_it to key id b k i then Some (hold_stamp, hold) else None
hold_brought b k i (effects.Marker from to key id n) = None
hold_brought b k i (effects.Tags from to key id tags stamp) = None
hold_brought b k i (effects.Hold from to key id hold stamp) = if names_it to key id b k i then Some (stamp, hold) else None

-- what a command changes of the tags of a version that is there, and of its hold; a received effect came to that
abbrev pub tags_changed : Name → Name → VersionId → Stamp → Outcome → Command → Option (Stamp × List Tag)
tags_changed b k i stamp came_to (command.CreateBucket name locked) = None
tags_changed b k i stamp came_to (command.DeleteBucket name) = None
tags_changed b k i stamp came_to (command.SetVersioning name enabled) = None
tags_changed b k i stamp came_to (command.SetReplication name config regions) = None
tags_changed b k i stamp came_to (command.DropReplication name) = None
tags_changed b k i stamp came_to (command.Put bucket key tags hold class body) = None
tags_changed b k i stamp came_to (command.Marker bucket key) = None
tags_changed b k i stamp came_to (command.Remove bucket key id) = None
tags_changed b k i stamp came_to (command.SetTags bucket key id tags) = if names_it bucket key id b k i then Some (stamp, tags) else None
tags_changed b k i stamp came_to (command.SetHold bucket key id hold) = None
tags_changed b k i stamp came_to (command.Receive from number effect) = if is_applied came_to then tags_brought b k i effect else None
tags_changed b k i stamp came_to (command.Settle to number outcome) = None
tags_changed b k i stamp came_to (command.Attempt to number) = None
tags_changed b k i stamp came_to (command.CreateJob spec manifest) = None
tags_changed b k i stamp came_to (command.MoveJob job state) = None
tags_changed b k i stamp came_to (command.SetPriority job priority) = None
tags_changed b k i stamp came_to (command.Prepare job) = None
tags_changed b k i stamp came_to (command.Line job line) = None
tags_changed b k i stamp came_to (command.Finish job body) = None

abbrev pub hold_changed : Name → Name → VersionId → Stamp → Outcome → Command → Option (Stamp × Bool)
hold_changed b k i stamp came_to (command.CreateBucket name locked) = None
hold_changed b k i stamp came_to (command.DeleteBucket name) = None
hold_changed b k i stamp came_to (command.SetVersioning name enabled) = None
hold_changed b k i stamp came_to (command.SetReplication name config regions) = None
hold_changed b k i stamp came_to (command.DropReplication name) = None
hold_changed b k i stamp came_to (command.Put bucket key tags hold class body) = None
hold_changed b k i stamp came_to (command.Marker bucket key) = None
hold_changed b k i stamp came_to (command.Remove bucket key id) = None
hold_changed b k i stamp came_to (command.SetTags bucket key id tags) = None
hold_changed b k i stamp came_to (command.SetHold bucket key id hold) = if names_it bucket key id b k i then Some (stamp, hold) else None
hold_changed b k i stamp came_to (command.Receive from number effect) = if is_applied came_to then hold_brought b k i effect else None
hold_changed b k i stamp came_to (command.Settle to number outcome) = None
hold_changed b k i stamp came_to (command.Attempt to number) = None
hold_changed b k i stamp came_to (command.CreateJob spec manifest) = None
hold_changed b k i stamp came_to (command.MoveJob job state) = None
hold_changed b k i stamp came_to (command.SetPriority job priority) = None
hold_changed b k i stamp came_to (command.Prepare job) = None
hold_changed b k i stamp came_to (command.Line job line) = None
hold_changed b k i stamp came_to (command.Finish job body) = None

-- what a deed writes about the tags of a version that is there, and about its hold
abbrev pub tag_write : Name → Name → VersionId → Deed → Option (Stamp × List Tag)
tag_write b k i d = tags_changed b k i d.stamp d.outcome d.does

abbrev pub hold_write : Name → Name → VersionId → Deed → Option (Stamp × Bool)
hold_write b k i d = hold_changed b k i d.stamp d.outcome d.does

-- what was written about a version since the deed that added it, the newest first
abbrev pub writes : {X : Type 0} → (Deed → Option X) → (Option Added → Bool) → Past → List X
writes f adds [] = []
writes f adds (d ∷ past) = if adds d.adds then [] else cons_option (f d) (writes f adds past)

-- Of the value that a version was added with and those written since, newest first: the first whose stamp no other exceeds.
abbrev pub newer_of : {X : Type 0} → Stamp × X → Stamp × X → Stamp × X
newer_of w v = if is_before v.0 w.0 then w else v

abbrev pub greatest : {X : Type 0} → Stamp × X → List (Stamp × X) → Stamp × X
greatest first [] = first
greatest first (w ∷ ws) = newer_of w (greatest first ws)

abbrev pub tags_of : Past → Name → Entry → Stamp × List Tag
tags_of past b v = greatest (v.tags_stamp, v.tags) (writes (tag_write b v.key v.id) (adds_it b v.key v.id) past)

abbrev pub hold_of : Past → Name → Entry → Stamp × Bool
hold_of past b v = greatest (v.hold_stamp, v.hold) (writes (hold_write b v.key v.id) (adds_it b v.key v.id) past)

abbrev pub set_to : Entry → Stamp × List Tag → Stamp × Bool → Entry
set_to v t h = record v { tags = t.1; tags_stamp = t.0; hold = h.1; hold_stamp = h.0 }

-- a version with its present tags and hold
abbrev pub at_present : Past → Name → Entry → Entry
at_present past b v = set_to v (tags_of past b v) (hold_of past b v)

-- rows in the listing order
abbrev pub in_order : List Entry → List Entry
in_order [] = []
in_order (row ∷ rows) = with_row row (in_order rows)

-- the rows of a bucket, as they are listed
abbrev pub rows : Past → Name → List Entry
rows past b = in_order (map (at_present past b) (versions past b))

abbrev pub row_at : Past → Name → Name → VersionId → Option Entry
row_at past b key id = lookup.find_version key id (rows past b)

abbrev pub latest : Past → Name → Name → Option Entry
latest past b key = lookup.latest key (rows past b)

-- the id that the command removes from the bucket
abbrev pub removed_id : Name → Command → Option VersionId
removed_id b (command.CreateBucket name locked) = None
removed_id b (command.DeleteBucket name) = None
removed_id b (command.SetVersioning name enabled) = None
removed_id b (command.SetReplication name config regions) = None
removed_id b (command.DropReplication name) = None
removed_id b (command.Put bucket key tags hold class body) = None
removed_id b (command.Marker bucket key) = None
removed_id b (command.Remove bucket key id) = if bytes_eq bucket b then Some id else None
removed_id b (command.SetTags bucket key id tags) = None
removed_id b (command.SetHold bucket key id hold) = None
removed_id b (command.Receive from number effect) = None
removed_id b (command.Settle to number outcome) = None
removed_id b (command.Attempt to number) = None
removed_id b (command.CreateJob spec manifest) = None
removed_id b (command.MoveJob job state) = None
removed_id b (command.SetPriority job priority) = None
removed_id b (command.Prepare job) = None
removed_id b (command.Line job line) = None
removed_id b (command.Finish job body) = None

abbrev pub with_removed : Option VersionId → List VersionId → List VersionId
with_removed None ids = ids
with_removed (Some id) ids = with_id id ids

abbrev pub ids_removed : Name → Past → List VersionId
ids_removed b [] = []
ids_removed b (d ∷ past) = with_removed (removed_id b d.command) (ids_removed b past)

-- the ids removed since the bucket's last creation, rising, each once
abbrev pub removed : Past → Name → List VersionId
removed past b = ids_removed b (life b past)
