-- What a state tells.
use Rattle.std.specs.Prelude.{ℕ, Option, option_map, length, if◌then◌else◌}
use Rattle.std.specs.List.{list_any}
use Rattle.std.specs.Option.{option_and_then}
use Rattle.s3r_names.specs.declared.outcome.Status.{Status}
use Rattle.s3r_names.specs.declared.version.VersionId.{VersionId}
use Rattle.s3r_queue.specs.Tasks.{waits, first_of}
use Rattle.s3r_queue.specs.Queues.{to_region}
use Rattle.s3r_queue.specs.Received.{watermark_of, last_from}
use Rattle.s3r_versions.specs.Lookup.{find_version}
use Rattle.s3r_history.specs.Words.{Name}
use Rattle.s3r_history.specs.BucketView.{BucketView}
use Rattle.s3r_history.specs.RegionView.{RegionView}
use Rattle.s3r_region.specs.Contents.{Contents}
use Rattle.s3r_region.specs.After.{seen}
use Rattle.s3r_region.specs.Status.{row_status}

abbrev pub seen_last : Contents → ℕ → ℕ
seen_last s from = watermark_of (last_from s.inbox from)

abbrev pub seen_next : Contents → ℕ → ℕ
seen_next s to = if list_any waits (to_region s.outbox to) then first_of (to_region s.outbox to) else 0

abbrev pub status_in : Contents → Name → Name → VersionId → BucketView → Option Status
status_in s b key id at = option_map (row_status s.outbox b) (find_version key id at.rows)

abbrev pub seen_status : Contents → Name → Name → VersionId → Option Status
seen_status s b key id = option_and_then (status_in s b key id) (seen s b)

abbrev pub seen_view : Contents → RegionView
seen_view s = record {
  region = s.region;
  bucket = seen s;
  count = length s.buckets;
  last = seen_last s;
  next = seen_next s;
  status = seen_status s;
  jobs = s.jobs.jobs;
}
