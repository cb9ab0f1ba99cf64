-- What a command prescribes.
use Rattle.std.specs.Prelude.{ℕ, Bool, false, ◌==◌, ◌&&◌, ◌||◌, nat_le, is_none, List, [], ◌∷◌, Option, Some, None, if◌then◌else◌, option_map, unwrap_or}
use Rattle.std.specs.List.{list_any, filter_map}
use Rattle.std.specs.Option.{option_and_then}
use Rattle.std.specs.Str.{bytes_eq}
use Rattle.s3r_names.specs.declared.stamp.Stamp.{Stamp}
use Rattle.s3r_names.specs.declared.tags.Tag.{Tag}
use Rattle.s3r_rules.specs.declared.rule.Rule.{Rule}
use Rattle.s3r_rules.specs.Choice.{choice_put, choice_marker, choice_meta}
use Rattle.s3r_rules.specs.Destinations.{destinations}
use Rattle.s3r_record.specs.declared.command.Command.{Command}
use Rattle.s3r_record.specs.declared.command.Command.TheVariants as command
use Rattle.s3r_record.specs.declared.effect.Effect.TheVariants as effects
use Rattle.s3r_versions.specs.declared.row.Origin.{Origin}
use Rattle.s3r_versions.specs.Lookup.{find_version}
use Rattle.s3r_history.specs.declared.replication.Replication.{Replication}
use Rattle.s3r_history.specs.Words.{Name, History}
use Rattle.s3r_history.specs.declared.sent.Sent.{Sent}
use Rattle.s3r_history.specs.declared.sent.Prescribed.{Prescribed}
use Rattle.s3r_history.specs.Past.{Entry, Carried, Added, Past}
use Rattle.s3r_history.specs.Rows.{names_it}
use Rattle.s3r_history.specs.Placed.{placed}
use Rattle.s3r_history.specs.BucketView.{BucketView, told_by}

-- the region beside the first rule to the bucket; rules to one bucket have one region
abbrev pub region_of : Name → List Rule → List ℕ → ℕ
region_of to [] regions = 0
region_of to (rule ∷ rules) [] = 0
region_of to (rule ∷ rules) (region ∷ regions) = if bytes_eq rule.bucket to then region else region_of to rules regions

-- a destination of a configuration: a bucket, and its region
pub record Destination : Type 0 where
  pub bucket : Name
  pub region : ℕ

-- the effect goes to the region
abbrev pub to_region : ℕ → Carried → Sent
to_region region e = record { region = region; effect = e }

-- to each destination in rising order of the names, where it is given one
abbrev pub to_each : (List Rule → Destination → Option Carried) → Option Replication → List Sent
to_each give None = []
to_each give (Some config) =
    filter_map (λ to. let at = region_of to config.config config.regions in
    option_map (to_region at) (give config.config (record { bucket = to; region = at }))) (destinations config.config)

-- a row of the bucket b as a whole, by the rule that is chosen
abbrev pub replica_by : Name → Entry → Name → Rule → Carried
replica_by b row to rule =
    effects.Replica b to row.key row.id row.n row.tags row.tags_stamp row.hold row.hold_stamp (unwrap_or rule.class row.class) row.body

abbrev pub replica_to : Name → Entry → List Rule → Destination → Option Carried
replica_to b row rules to = option_map (replica_by b row to.bucket) (choice_put rules row.key row.tags to.bucket)

-- a marker, where the rule that is chosen copies markers
abbrev pub marker_by : Name → Entry → Name → Rule → Option Carried
marker_by b row to rule = if rule.markers then Some (effects.Marker b to row.key row.id row.n) else None

abbrev pub marker_to : Name → Entry → List Rule → Destination → Option Carried
marker_to b row rules to = option_and_then (marker_by b row to.bucket) (choice_marker rules row.key to.bucket)

-- ---- changes of tags and hold

-- the effect copies the row of the bucket b as a whole to the destination
abbrev pub copies : Name → Entry → Destination → Carried → Bool
copies b row to (effects.Replica from name key id n tags tags_stamp hold hold_stamp class body) =
    bytes_eq name to.bucket && names_it from key id b row.key row.id
copies b row to (effects.Marker from name key id n) = false
copies b row to (effects.Tags from name key id tags stamp) = false
copies b row to (effects.Hold from name key id hold stamp) = false

-- it was prescribed by the command that added the row, or by a later one
abbrev pub was_sent : Name → Entry → Destination → List Prescribed → Bool
was_sent b row to sent = list_any (λ (p : Prescribed). nat_le row.place p.place && copies b row to p.effect) sent

-- the row came from the destination
abbrev pub came_from : Destination → Option Origin → Bool
came_from to None = false
came_from to (Some origin) = (origin.region == to.region) && bytes_eq origin.bucket to.bucket

-- the rule that is chosen lets a change of the row be copied: of a replica only where it says so
abbrev pub lets_change : Entry → Option Rule → Bool
lets_change row None = false
lets_change row (Some rule) = is_none row.origin || rule.replica_modifications

-- a change of the row's tags or hold goes to the destination
abbrev pub is_told : Past → Name → Entry → List Rule → Destination → Bool
is_told past b row rules to = (came_from to row.origin || was_sent b row to (placed past to.region)) && lets_change row (choice_meta rules row.key to.bucket)

abbrev pub tags_to : Past → Name → Stamp → List Tag → Entry → List Rule → Destination → Option Carried
tags_to past b stamp tags row rules to = if is_told past b row rules to then Some (effects.Tags b to.bucket row.key row.id tags stamp) else None

abbrev pub hold_to : Past → Name → Stamp → Bool → Entry → List Rule → Destination → Option Carried
hold_to past b stamp hold row rules to = if is_told past b row rules to then Some (effects.Hold b to.bucket row.key row.id hold stamp) else None

-- ---- command by command

-- of the bucket, where it is there; of its row of that key and id, where that is there
abbrev pub of_bucket : (BucketView → List Sent) → Option BucketView → List Sent
of_bucket f None = []
of_bucket f (Some at) = f at

abbrev pub of_row : (Entry → List Sent) → Option Entry → List Sent
of_row f None = []
of_row f (Some row) = f row

abbrev pub of_added : (Entry → List Sent) → Option Added → List Sent
of_added f None = []
of_added f (Some a) = f a.row

-- What a command prescribes after the commands h, which did this, where it has this stamp and adds this. A received effect
-- prescribes nothing.
abbrev pub sends_by : History → Past → Stamp → Option Added → Command → List Sent
sends_by h past stamp adds (command.CreateBucket name locked) = []
sends_by h past stamp adds (command.DeleteBucket name) = []
sends_by h past stamp adds (command.SetVersioning name enabled) = []
sends_by h past stamp adds (command.SetReplication name config regions) = []
sends_by h past stamp adds (command.DropReplication name) = []
sends_by h past stamp adds (command.Put b key tags hold class body) =
    of_bucket (λ (at : BucketView). of_added (λ (row : Entry). to_each (replica_to b row) at.config) adds) (told_by h past b)
sends_by h past stamp adds (command.Marker b key) =
    of_bucket (λ (at : BucketView). of_added (λ (row : Entry). to_each (marker_to b row) at.config) adds) (told_by h past b)
sends_by h past stamp adds (command.Remove b key id) = []
sends_by h past stamp adds (command.SetTags b key id tags) =
    of_bucket (λ (at : BucketView). of_row (λ (row : Entry). to_each (tags_to past b stamp tags row) at.config) (find_version key id at.rows))
    (told_by h past b)
sends_by h past stamp adds (command.SetHold b key id hold) =
    of_bucket (λ (at : BucketView). of_row (λ (row : Entry). to_each (hold_to past b stamp hold row) at.config) (find_version key id at.rows))
    (told_by h past b)
sends_by h past stamp adds (command.Receive from number effect) = []
sends_by h past stamp adds (command.Settle to number outcome) = []
sends_by h past stamp adds (command.Attempt to number) = []
sends_by h past stamp adds (command.CreateJob spec manifest) = []
sends_by h past stamp adds (command.MoveJob job state) = []
sends_by h past stamp adds (command.SetPriority job priority) = []
sends_by h past stamp adds (command.Prepare job) = []
sends_by h past stamp adds (command.Line job line) = []
sends_by h past stamp adds (command.Finish job body) = []
