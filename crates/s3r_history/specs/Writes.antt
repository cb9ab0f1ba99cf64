-- What commands wrote of a version's tags and of its hold, and which of these writes stands.
use Rattle.std.specs.Prelude.{◌≡◌, Bool, true, false, List, [], ◌∷◌, ◌++◌, Option, Some, None, if◌then◌else◌}
use Rattle.std.specs.List.{All, filter_map}
use Rattle.s3r_names.specs.Stamp.{is_before}
use Rattle.s3r_names.specs.declared.outcome.Outcome.{Outcome}
use Rattle.s3r_names.specs.declared.stamp.Stamp.{Stamp}
use Rattle.s3r_names.specs.declared.tags.Tag.{Tag}
use Rattle.s3r_names.specs.declared.version.VersionId.{VersionId}
use Rattle.s3r_record.specs.declared.command.Command.{Command}
use Rattle.s3r_record.specs.declared.command.Command.TheVariants as command
use Rattle.s3r_record.specs.declared.effect.Effect.TheVariants as effects
use Rattle.s3r_history.specs.Words.{Name}
use Rattle.s3r_history.specs.Past.{Carried, Added, Deed, Past}
use Rattle.s3r_history.specs.Carried.{is_applied}
use Rattle.s3r_history.specs.Rows.{names_it, adds_it}
use Rattle.s3r_history.specs.Deeds.{first_stamp}

-- the id of what a command adds under the stamp
abbrev pub id_under : Stamp → VersionId
id_under stamp = record { region = stamp.region; index = stamp.index }

-- The tags that an applied effect gives the version k, i of the bucket b: a replica's, also where its row is there already, and
-- those that are set. A marker has none where it is added; where its row is there already it writes nothing.
abbrev pub tags_received : Name → Name → VersionId → Option Added → Carried → Option (Stamp × List Tag)
tags_received b k i adds (effects.Replica from to key id n tags tags_stamp hold hold_stamp class body) =
    if names_it to key id b k i then Some (tags_stamp, tags) else None
tags_received b k i adds (effects.Marker from to key id n) = if adds_it b k i adds then Some (first_stamp id n, []) else None
tags_received b k i adds (effects.Tags from to key id tags stamp) = if names_it to key id b k i then Some (stamp, tags) else None
tags_received b k i adds (effects.Hold from to key id hold stamp) = None

-- its hold: a replica's, off for a marker that is added, and as it is set
abbrev pub hold_received : Name → Name → VersionId → Option Added → Carried → Option (Stamp × Bool)
hold_received b k i adds (effects.Replica from to key id n tags tags_stamp hold hold_stamp class body) =
    if names_it to key id b k i then Some (hold_stamp, hold) else None
hold_received b k i adds (effects.Marker from to key id n) = if adds_it b k i adds then Some (first_stamp id n, false) else None
hold_received b k i adds (effects.Tags from to key id tags stamp) = None
hold_received b k i adds (effects.Hold from to key id hold stamp) = if names_it to key id b k i then Some (stamp, hold) else None

-- The tags that a command gives the version k, i of the bucket b: those that it is put with, none for a marker, those that are
-- set, and those of a received effect that is applied. The command has this stamp, came to this, and adds this.
abbrev pub tags_given : Name → Name → VersionId → Stamp → Outcome → Option Added → Command → Option (Stamp × List Tag)
tags_given b k i stamp came_to adds (command.CreateBucket name locked) = None
tags_given b k i stamp came_to adds (command.DeleteBucket name) = None
tags_given b k i stamp came_to adds (command.SetVersioning name enabled) = None
tags_given b k i stamp came_to adds (command.SetReplication name config regions) = None
tags_given b k i stamp came_to adds (command.DropReplication name) = None
tags_given b k i stamp came_to adds (command.Put bucket key tags hold class body) =
    if names_it bucket key (id_under stamp) b k i then Some (stamp, tags) else None
tags_given b k i stamp came_to adds (command.Marker bucket key) = if names_it bucket key (id_under stamp) b k i then Some (stamp, []) else None
tags_given b k i stamp came_to adds (command.Remove bucket key id) = None
tags_given b k i stamp came_to adds (command.SetTags bucket key id tags) = if names_it bucket key id b k i then Some (stamp, tags) else None
tags_given b k i stamp came_to adds (command.SetHold bucket key id hold) = None
tags_given b k i stamp came_to adds (command.Receive from number effect) = if is_applied came_to then tags_received b k i adds effect else None
tags_given b k i stamp came_to adds (command.Settle to number outcome) = None
tags_given b k i stamp came_to adds (command.Attempt to number) = None
tags_given b k i stamp came_to adds (command.CreateJob spec manifest) = None
tags_given b k i stamp came_to adds (command.MoveJob job state) = None
tags_given b k i stamp came_to adds (command.SetPriority job priority) = None
tags_given b k i stamp came_to adds (command.Prepare job) = None
tags_given b k i stamp came_to adds (command.Line job line) = None
tags_given b k i stamp came_to adds (command.Finish job body) = None

-- its hold: as it is put, off for a marker, as it is set, and that of a received effect that is applied
abbrev pub hold_given : Name → Name → VersionId → Stamp → Outcome → Option Added → Command → Option (Stamp × Bool)
hold_given b k i stamp came_to adds (command.CreateBucket name locked) = None
hold_given b k i stamp came_to adds (command.DeleteBucket name) = None
hold_given b k i stamp came_to adds (command.SetVersioning name enabled) = None
hold_given b k i stamp came_to adds (command.SetReplication name config regions) = None
hold_given b k i stamp came_to adds (command.DropReplication name) = None
hold_given b k i stamp came_to adds (command.Put bucket key tags hold class body) =
    if names_it bucket key (id_under stamp) b k i then Some (stamp, hold) else None
hold_given b k i stamp came_to adds (command.Marker bucket key) = if names_it bucket key (id_under stamp) b k i then Some (stamp, false) else None
hold_given b k i stamp came_to adds (command.Remove bucket key id) = None
hold_given b k i stamp came_to adds (command.SetTags bucket key id tags) = None
hold_given b k i stamp came_to adds (command.SetHold bucket key id hold) = if names_it bucket key id b k i then Some (stamp, hold) else None
hold_given b k i stamp came_to adds (command.Receive from number effect) = if is_applied came_to then hold_received b k i adds effect else None
hold_given b k i stamp came_to adds (command.Settle to number outcome) = None
hold_given b k i stamp came_to adds (command.Attempt to number) = None
hold_given b k i stamp came_to adds (command.CreateJob spec manifest) = None
hold_given b k i stamp came_to adds (command.MoveJob job state) = None
hold_given b k i stamp came_to adds (command.SetPriority job priority) = None
hold_given b k i stamp came_to adds (command.Prepare job) = None
hold_given b k i stamp came_to adds (command.Line job line) = None
hold_given b k i stamp came_to adds (command.Finish job body) = None

abbrev pub tags_by : Name → Name → VersionId → Deed → Option (Stamp × List Tag)
tags_by b k i d = tags_given b k i d.stamp d.outcome d.adds d.does

abbrev pub hold_by : Name → Name → VersionId → Deed → Option (Stamp × Bool)
hold_by b k i d = hold_given b k i d.stamp d.outcome d.adds d.does

-- all that these deeds wrote of its tags, and of its hold, the newest first
abbrev pub tags_written : Past → Name → Name → VersionId → List (Stamp × List Tag)
tags_written past b k i = filter_map (tags_by b k i) past

abbrev pub hold_written : Past → Name → Name → VersionId → List (Stamp × Bool)
hold_written past b k i = filter_map (hold_by b k i) past

-- Of writes, the newest first, it is the first whose stamp no other exceeds: it is one of them, no stamp is after its own,
-- and that of each earlier write is before it.
pub record IsFirstGreatest {X : Type 0} (ws : List (Stamp × X)) (w : Stamp × X) : Type 0 where
  pub later : List (Stamp × X)
  pub earlier : List (Stamp × X)
  pub among : ws ≡ later ++ w ∷ earlier
  pub none_exceeds : All (λ (other : Stamp × X). is_before w.0 other.0 ≡ false) ws
  pub first : All (λ (other : Stamp × X). is_before other.0 w.0 ≡ true) earlier
