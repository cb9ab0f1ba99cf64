-- What stores tell of buckets and jobs.
use Rattle.std.specs.Prelude.{◌≡◌, ℕ, nat_lt, List, [], Option, Some, None, Result, Ok, Err, option_map, unwrap_or, slice_get, if◌then◌else◌}
use Rattle.std.specs.Borrow.{Bor}
use Rattle.s3r_jobs.specs.declared.spec.JobSpec.{JobSpec}
use Rattle.s3r_jobs.specs.Jobs.{JobsFacts}
use Rattle.s3r_record.specs.declared.command.Command.TheVariants as command
use Rattle.s3r_names.specs.declared.outcome.Status.{Status}
use Rattle.s3r_names.specs.declared.version.VersionId.{VersionId}
use Rattle.s3r_history.specs.Past.{Entry}
use Rattle.s3r_history.specs.declared.refusal.Refusal.{Refusal}
use Rattle.std.specs.Option.{option_and_then}
use Rattle.s3r_history.specs.Words.{Name}
use Rattle.s3r_history.specs.BucketView.{BucketView}
use Rattle.s3r_region.specs.declared.bucket.Bucket.{Bucket}
use Rattle.s3r_region.specs.Contents.{Contents}
use Rattle.s3r_region.specs.After.{seen_bucket, seen, told_by}
use Rattle.s3r_region.specs.View.{seen_status}
use Rattle.s3r_store.specs.declared.store.Store.{Store}
use Rattle.s3r_store.specs.Stores.{state_of}
use Rattle.s3r_desk.specs.declared.bucket_location.BucketLocation as declared
use Rattle.s3r_desk.specs.declared.job.NewJob.{NewJob}
use Rattle.s3r_desk.specs.declared.job.NewJob.TheVariants.{Over, There, Refused}
use Rattle.s3r_desk.specs.declared.planning.Plan.{Plan}
use Rattle.s3r_desk.specs.declared.planning.Plan.TheVariants.{Shows, Commits}
use Rattle.s3r_desk.specs.declared.planning.Reply.TheVariants.{Created}
use Rattle.s3r_desk.specs.declared.request.Answer.TheVariants as answer
use Rattle.s3r_desk.specs.Steps.{BucketLocation, Views, VersionStatuses, RegionJobs, refuses}

abbrev pub bucket_in : Name → Store → Option Bucket
bucket_in b store = option_and_then (λ (state : Contents). seen_bucket state b) (state_of store)

abbrev pub told_in : Name → Store → Option BucketView
told_in b store = option_and_then (λ (state : Contents). seen state b) (state_of store)

-- what so many stores tell, one for each region
abbrev pub views_of : List Store → Views
views_of stores r b = option_and_then (told_in b) (slice_get stores r)

-- the status of a version, as a store tells it
abbrev pub status_in : Name → Name → VersionId → Store → Option Status
status_in b key id store = option_and_then (λ (state : Contents). seen_status state b key id) (state_of store)

abbrev pub statuses_of : List Store → VersionStatuses
statuses_of stores r b key id = option_and_then (status_in b key id) (slice_get stores r)

-- the jobs of a region, as its store tells them
abbrev pub jobs_in : Store → Option JobsFacts
jobs_in store = option_map (λ (state : Contents). state.jobs.jobs) (state_of store)

abbrev pub no_jobs : JobsFacts
no_jobs = record { live = []; ended = []; out = 0 }

-- none where the store isn't there, or wasn't read
abbrev pub jobs_of : List Store → RegionJobs
jobs_of stores r = unwrap_or (option_and_then jobs_in (slice_get stores r)) no_jobs

-- the region of a bucket, and what it tells of it
abbrev pub seen_location : declared.BucketLocation → BucketLocation
seen_location h = record { region = h.region; told = told_by h.bucket.now }

-- a region by its number, where there are so many
abbrev pub region_in : Option ℕ → ℕ → Option ℕ
region_in None n = None
region_in (Some r) n = if nat_lt r n then Some r else None

-- the version that is asked for was found, or is refused so
abbrev pub Finds : Result Entry Refusal → Result (Bor Entry) Refusal → Type 0
Finds asked (Ok row) = asked ≡ Ok row.now
Finds asked (Err why) = asked ≡ Err why

-- the plan of a request for a new job that comes to this
abbrev pub planned_job : JobSpec → NewJob → Plan
planned_job spec (Over region manifest) = Commits region (command.CreateJob spec manifest) Created
planned_job spec (There id) = Shows (answer.JobMade id)
planned_job spec (Refused why) = refuses why
