-- What a region's commands did.
use Rattle.std.specs.Prelude.{ℕ, ◌+◌, min, Bool, true, false, ◌&&◌, is_none, codes, List, [], ◌∷◌, Option, Some, None, if◌then◌else◌, length}
use Rattle.s3r_names.specs.declared.outcome.Outcome.{Outcome}
use Rattle.s3r_names.specs.declared.outcome.Outcome.TheVariants as outcomes
use Rattle.s3r_names.specs.declared.stamp.Stamp.{Stamp}
use Rattle.s3r_names.specs.declared.tags.Tag.{Tag}
use Rattle.s3r_names.specs.declared.version.VersionId.{VersionId}
use Rattle.s3r_record.specs.declared.command.Command.{Command}
use Rattle.s3r_record.specs.declared.command.Command.TheVariants as command
use Rattle.s3r_record.specs.declared.effect.Effect.TheVariants as effects
use Rattle.s3r_history.specs.Words.{Name, History}
use Rattle.s3r_history.specs.declared.sent.Sent.{Sent}
use Rattle.s3r_history.specs.Past.{Entry, Carried, Added, Deed, Past, clock}
use Rattle.s3r_history.specs.Carried.{target_of, key_of, id_of, is_applied}
use Rattle.s3r_history.specs.Rows.{row_at}
use Rattle.s3r_history.specs.Judging.{judge_by}
use Rattle.s3r_history.specs.JobLines.{read_by, outcome_of_line, does_by, result_by}
use Rattle.s3r_history.specs.Sending.{sends_by}

-- the stamp of the command that comes next, where it writes; the greatest n is that of the clock's 64 bits
abbrev pub next_stamp : ℕ → Past → Stamp
next_stamp r past = record { n = min (clock past + 1) 18446744073709551615; region = r; index = length past + 1 }

-- a version that was first written under the stamp
abbrev pub version : Stamp → Name → List Tag → Bool → List ℕ → List ℕ → Entry
version stamp key tags hold class body = record {
  key = key;
  id = record { region = stamp.region; index = stamp.index };
  n = stamp.n;
  place = stamp.index;
  marker = false;
  body = body;
  length = length body;
  class = class;
  tags = tags;
  tags_stamp = stamp;
  hold = hold;
  hold_stamp = stamp;
  origin = None;
}

-- a marker that was written under the stamp
abbrev pub marker : Stamp → Name → Entry
marker stamp key = record (version stamp key [] false (codes "STANDARD") []) { marker = true }

-- when a version was first written
abbrev pub first_stamp : VersionId → ℕ → Stamp
first_stamp id n = record { n = n; region = id.region; index = id.index }

-- the version that an effect of region s brings, where it brings one, as from its bucket there; the command that receives it
-- has this index
abbrev pub brought : ℕ → ℕ → Carried → Option Added
brought place s (effects.Replica from to key id n tags tags_stamp hold hold_stamp class body) = Some (record {
  bucket = to;
  row = record (version (first_stamp id n) key tags hold class body) {
    place = place;
    tags_stamp = tags_stamp;
    hold_stamp = hold_stamp;
    origin = Some (record { region = s; bucket = from });
  };
})
brought place s (effects.Marker from to key id n) = Some (record {
  bucket = to;
  row = record (marker (first_stamp id n) key) { place = place; origin = Some (record { region = s; bucket = from }) };
})
brought place s (effects.Tags from to key id tags stamp) = None
brought place s (effects.Hold from to key id hold stamp) = None

-- what a received effect comes to; of every other command Applied
abbrev pub outcome_by : ℕ → History → Past → Command → Outcome
outcome_by r h past (command.CreateBucket name locked) = outcomes.Applied
outcome_by r h past (command.DeleteBucket name) = outcomes.Applied
outcome_by r h past (command.SetVersioning name enabled) = outcomes.Applied
outcome_by r h past (command.SetReplication name config regions) = outcomes.Applied
outcome_by r h past (command.DropReplication name) = outcomes.Applied
outcome_by r h past (command.Put bucket key tags hold class body) = outcomes.Applied
outcome_by r h past (command.Marker bucket key) = outcomes.Applied
outcome_by r h past (command.Remove bucket key id) = outcomes.Applied
outcome_by r h past (command.SetTags bucket key id tags) = outcomes.Applied
outcome_by r h past (command.SetHold bucket key id hold) = outcomes.Applied
outcome_by r h past (command.Receive from number effect) = judge_by r h past effect
outcome_by r h past (command.Settle to number outcome) = outcomes.Applied
outcome_by r h past (command.Attempt to number) = outcomes.Applied
outcome_by r h past (command.CreateJob spec manifest) = outcomes.Applied
outcome_by r h past (command.MoveJob job state) = outcomes.Applied
outcome_by r h past (command.SetPriority job priority) = outcomes.Applied
outcome_by r h past (command.Prepare job) = outcomes.Applied
outcome_by r h past (command.Line job line) = outcomes.Applied
outcome_by r h past (command.Finish job body) = outcomes.Applied

-- the version that a command adds; a received effect came to that
abbrev pub added_by : Past → Stamp → Outcome → Command → Option Added
added_by past stamp came_to (command.CreateBucket name locked) = None
added_by past stamp came_to (command.DeleteBucket name) = None
added_by past stamp came_to (command.SetVersioning name enabled) = None
added_by past stamp came_to (command.SetReplication name config regions) = None
added_by past stamp came_to (command.DropReplication name) = None
added_by past stamp came_to (command.Put bucket key tags hold class body) = Some (record { bucket = bucket; row = version stamp key tags hold class body })
added_by past stamp came_to (command.Marker bucket key) = Some (record { bucket = bucket; row = marker stamp key })
added_by past stamp came_to (command.Remove bucket key id) = None
added_by past stamp came_to (command.SetTags bucket key id tags) = None
added_by past stamp came_to (command.SetHold bucket key id hold) = None
added_by past stamp came_to (command.Receive from number effect) =
    if is_applied came_to && is_none (row_at past (target_of effect) (key_of effect) (id_of effect)) then brought stamp.index from effect else None
added_by past stamp came_to (command.Settle to number outcome) = None
added_by past stamp came_to (command.Attempt to number) = None
added_by past stamp came_to (command.CreateJob spec manifest) = None
added_by past stamp came_to (command.MoveJob job state) = None
added_by past stamp came_to (command.SetPriority job priority) = None
added_by past stamp came_to (command.Prepare job) = None
added_by past stamp came_to (command.Line job line) = None
added_by past stamp came_to (command.Finish job body) = None

-- what a command does after the commands h, which did this
abbrev pub deed : ℕ → History → Past → Command → Deed
deed r h past c =
    let stamp = next_stamp r past in
    let outcome = outcome_by r h past c in
    let adds = added_by past stamp outcome c in
    let line = outcome_of_line h past c in
    let does = does_by c line in
    record {
      command = c;
      does = does;
      stamp = stamp;
      outcome = outcome;
      adds = adds;
      sends = sends_by h past stamp adds does;
      read = read_by h past c;
      result = result_by line;
    }

-- what the commands of region r's history did
abbrev pub deeds : ℕ → History → Past
deeds r [] = []
deeds r (c ∷ h) = let past = deeds r h in deed r h past c ∷ past

-- what an effect comes to at region r after its history
abbrev pub judge : ℕ → History → Carried → Outcome
judge r h e = judge_by r h (deeds r h) e

-- what a command prescribes at region r after its history
abbrev pub effects_after : ℕ → History → Command → List Sent
effects_after r h c = (deed r h (deeds r h) c).sends
