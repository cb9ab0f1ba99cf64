-- What a region's history tells of it.
use Rattle.std.specs.Prelude.{ℕ, Option, option_map, length}
use Rattle.std.specs.Option.{option_and_then}
use Rattle.s3r_names.specs.declared.outcome.Status.{Status}
use Rattle.s3r_names.specs.declared.version.VersionId.{VersionId}
use Rattle.s3r_queue.specs.Received.{watermark_of}
use Rattle.s3r_jobs.specs.Jobs.{JobsFacts}
use Rattle.s3r_versions.specs.Lookup.{find_version}
use Rattle.s3r_history.specs.Words.{Name, History}
use Rattle.s3r_history.specs.Buckets.{names}
use Rattle.s3r_history.specs.BucketView.{BucketView}
use Rattle.s3r_history.specs.Deeds.{deeds}
use Rattle.s3r_history.specs.Told.{told}
use Rattle.s3r_history.specs.Jobs.{jobs_at}
use Rattle.s3r_history.specs.Tasks.{last_from, next_task}
use Rattle.s3r_history.specs.Statuses as statuses

-- what a region tells: its number, of each name, how many buckets there are, the number that was received last from each region, the
-- number of the first pending task to each, 0 where none is pending, the status of a bucket's row, None where the row
-- isn't there, and its jobs
pub record RegionView : Type 0 where
  pub region : ℕ
  pub bucket : Name → Option BucketView
  pub count : ℕ
  pub last : ℕ → ℕ
  pub next : ℕ → ℕ
  pub status : Name → Name → VersionId → Option Status
  pub jobs : JobsFacts

abbrev pub status_in : ℕ → History → Name → Name → VersionId → BucketView → Option Status
status_in r h b key id at = option_map (statuses.status h (deeds r h) b) (find_version key id at.rows)

-- what the history h of region r tells
abbrev pub view : ℕ → History → RegionView
view r h = record {
  region = r;
  bucket = told r h;
  count = length (names h);
  last = λ s. watermark_of (last_from (deeds r h) s);
  next = λ d. next_task h (deeds r h) d;
  status = λ b key id. option_and_then (status_in r h b key id) (told r h b);
  jobs = jobs_at (deeds r h);
}
