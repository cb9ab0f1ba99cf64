-- What a write sends to the destinations of its bucket, one after the other.
use Rattle.std.specs.Prelude.{ℕ, Bool, ◌&&◌, ◌||◌, nat_le, is_none, List, [], Option, Some, None, map, option_map, if◌then◌else◌, slice_get, unwrap_or}
use Rattle.std.specs.List.{list_any, filter_map}
use Rattle.std.specs.Option.{option_and_then}
use Rattle.s3r_names.specs.declared.stamp.Stamp.{Stamp}
use Rattle.s3r_names.specs.declared.tags.Tag.{Tag}
use Rattle.s3r_names.specs.declared.version.VersionId.{VersionId}
use Rattle.s3r_queue.specs.declared.task.Task.{Task}
use Rattle.s3r_queue.specs.Queues.{to_region}
use Rattle.s3r_record.specs.declared.effect.Effect.TheVariants as effects
use Rattle.s3r_rules.specs.Choice as rules
use Rattle.s3r_rules.specs.Choice.{Write}
use Rattle.s3r_rules.specs.Choices.{choice_to}
use Rattle.s3r_rules.specs.Destinations.{destinations}
use Rattle.s3r_rules.specs.declared.rule.Rule.{Rule}
use Rattle.s3r_rules.specs.declared.per_destination.Choice.{Choice}
use Rattle.s3r_versions.specs.Lookup.{find_version}
use Rattle.s3r_history.specs.BucketView.{BucketView}
use Rattle.s3r_history.specs.declared.replication.Replication.{Replication}
use Rattle.s3r_history.specs.declared.sent.Prescribed.{Prescribed}
use Rattle.s3r_history.specs.declared.sent.Sent.{Sent}
use Rattle.s3r_history.specs.Words.{Name}
use Rattle.s3r_history.specs.Past.{Entry, Carried}
use Rattle.s3r_history.specs.Sending.{Destination, replica_by, marker_by, copies, came_from}

-- what a command wrote of a row
pub data Written : Type 0 where
  version : (row : Entry) → Written
  marker : (row : Entry) → Written
  tags : (row : Entry) (tags : List Tag) (stamp : Stamp) → Written
  hold : (row : Entry) (hold : Bool) (stamp : Stamp) → Written

-- what the rules are asked
abbrev pub asked_of : Written → Write
asked_of (version row) = rules.put row.key row.tags
asked_of (marker row) = rules.marker row.key
asked_of (tags row new stamp) = rules.meta row.key
asked_of (hold row new stamp) = rules.meta row.key

-- one of these tasks carries the row as a whole to the destination, and was prescribed since it was added
abbrev pub was_prescribed : Name → Entry → Destination → List (Task Prescribed) → Bool
was_prescribed b row to tasks = list_any (λ (t : Task Prescribed). nat_le row.place t.effect.place && copies b row to t.effect.effect) tasks

-- a change of the row's tags or hold goes to the destination of the rule that is chosen
abbrev pub goes_on : List (List (Task Prescribed)) → Name → Entry → Destination → Rule → Bool
goes_on outbox b row to rule = (came_from to row.origin || was_prescribed b row to (to_region outbox to.region)) &&
    (is_none row.origin || rule.replica_modifications)

-- what goes to a destination by the rule that is chosen
abbrev pub effect_by : List (List (Task Prescribed)) → Name → Written → Destination → Rule → Option Carried
effect_by outbox b (version row) to rule = Some (replica_by b row to.bucket rule)
effect_by outbox b (marker row) to rule = marker_by b row to.bucket rule
effect_by outbox b (tags row new stamp) to rule = if goes_on outbox b row to rule then Some (effects.Tags b to.bucket row.key row.id new stamp) else None
effect_by outbox b (hold row new stamp) to rule = if goes_on outbox b row to rule then Some (effects.Hold b to.bucket row.key row.id new stamp) else None

abbrev pub at_region : ℕ → Option Carried → Option Sent
at_region region effect = option_map (λ (e : Carried). record { region = region; effect = e }) effect

-- the same with its region, which stands beside the destination's first rule
abbrev pub sent_by : List (List (Task Prescribed)) → Name → Written → ℕ → Rule → Option Sent
sent_by outbox b w region rule = at_region region (effect_by outbox b w (record { bucket = rule.bucket; region = region }) rule)

abbrev pub choice_sends : List (List (Task Prescribed)) → Name → Written → Replication → Choice → Option Sent
choice_sends outbox b w config choice =
    option_and_then (sent_by outbox b w (unwrap_or (slice_get config.regions choice.first) 0)) (option_and_then (slice_get config.config) choice.chosen)

-- the destinations of the configuration, with the rules that are chosen
abbrev pub choices_of : Written → Replication → List Choice
choices_of w config = map (choice_to (asked_of w) config.config) (destinations config.config)

-- ---- what a command sends, by what is told of its bucket

abbrev pub sends_by_config : List (List (Task Prescribed)) → Name → Written → Option Replication → List Sent
sends_by_config outbox b w None = []
sends_by_config outbox b w (Some config) = filter_map (choice_sends outbox b w config) (choices_of w config)

-- of a new row
abbrev pub sends_at : List (List (Task Prescribed)) → Name → Written → Option BucketView → List Sent
sends_at outbox b w None = []
sends_at outbox b w (Some at) = sends_by_config outbox b w at.config

-- of a row that is changed, where it is there
abbrev pub sends_of_change : List (List (Task Prescribed)) → Name → (Entry → Written) → Option Replication → Option Entry → List Sent
sends_of_change outbox b w config None = []
sends_of_change outbox b w config (Some row) = sends_by_config outbox b (w row) config

abbrev pub sends_of_tags : List (List (Task Prescribed)) → Name → Name → VersionId → List Tag → Stamp → Option BucketView → List Sent
sends_of_tags outbox b key id new stamp None = []
sends_of_tags outbox b key id new stamp (Some at) = sends_of_change outbox b (λ row. tags row new stamp) at.config (find_version key id at.rows)

abbrev pub sends_of_hold : List (List (Task Prescribed)) → Name → Name → VersionId → Bool → Stamp → Option BucketView → List Sent
sends_of_hold outbox b key id new stamp None = []
sends_of_hold outbox b key id new stamp (Some at) = sends_of_change outbox b (λ row. hold row new stamp) at.config (find_version key id at.rows)
