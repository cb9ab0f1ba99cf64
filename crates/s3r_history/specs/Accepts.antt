-- Which commands a history accepts.
use Rattle.std.specs.Prelude.{◌≡◌, ℕ, ◌+◌, Bool, true, false, ◌&&◌, ◌||◌, not, ◌==◌, nat_le, List, [], ◌∷◌, length, Option, Some, None, if◌then◌else◌, find, is_some, is_none}
use Rattle.s3r_names.specs.declared.version.VersionId.{VersionId}
use Rattle.s3r_rules.specs.declared.fault.Kind.TheVariants as kinds
use Rattle.s3r_jobs.specs.declared.fault.Wanted.{Wanted}
use Rattle.s3r_jobs.specs.declared.fault.Wanted.TheVariants as wanted
use Rattle.s3r_jobs.specs.declared.spec.JobSpec.{JobSpec}
use Rattle.s3r_jobs.specs.declared.spec.Operation.{Operation}
use Rattle.s3r_jobs.specs.declared.spec.Operation.TheVariants as operations
use Rattle.s3r_jobs.specs.declared.spec.ReportSpec.{ReportSpec}
use Rattle.s3r_jobs.specs.declared.state.JobState.{JobState}
use Rattle.s3r_jobs.specs.declared.state.JobState.TheVariants as states
use Rattle.s3r_jobs.specs.Facts.{JobFacts}
use Rattle.s3r_jobs.specs.Jobs.{JobsFacts, find_job, token_job, reports_to}
use Rattle.s3r_jobs.specs.Lines.{may_start}
use Rattle.s3r_jobs.specs.Moves.{may_move, is_done}
use Rattle.s3r_jobs.specs.States.{has_ended, is_preparing, is_stopping, is_active}
use Rattle.s3r_jobs.specs.Turn.{running}
use Rattle.s3r_record.specs.declared.command.Command.{Command}
use Rattle.s3r_record.specs.declared.command.Command.TheVariants as command
use Rattle.s3r_record.specs.Spelling.{IsCommand}
use Rattle.s3r_versions.specs.Lookup.{find_version}
use Rattle.s3r_history.specs.declared.refusal.Refusal.{Refusal}
use Rattle.s3r_history.specs.declared.refusal.Refusal.TheVariants as refusals
use Rattle.s3r_history.specs.Words.{Name, History}
use Rattle.s3r_history.specs.Past.{Entry}
use Rattle.s3r_history.specs.BucketView.{BucketView}
use Rattle.s3r_history.specs.RegionView.{RegionView, view}

-- a condition under which a command is refused, and how
abbrev pub Cause : Type 0
Cause = Bool × Refusal

-- the first refusal whose condition holds
abbrev pub first_of_causes : List Cause → Option Refusal
first_of_causes [] = None
first_of_causes (c ∷ cs) = if c.0 then Some c.1 else first_of_causes cs

-- the causes of a bucket that is there, behind that of one that isn't
abbrev pub in_bucket : (BucketView → List Cause) → Option BucketView → List Cause
in_bucket more None = (true, refusals.NoSuchBucket) ∷ []
in_bucket more (Some at) = more at

-- those of a version that is there, behind that of one that isn't
abbrev pub in_version : (Entry → List Cause) → Option Entry → List Cause
in_version more None = (true, refusals.NoSuchVersion) ∷ []
in_version more (Some row) = more row

abbrev pub has_rows : List Entry → Bool
has_rows [] = false
has_rows (row ∷ rows) = true

abbrev pub of_creation : Option BucketView → ℕ → List Cause
of_creation at count = (is_some at, refusals.BucketAlreadyExists) ∷ (nat_le 100 count, refusals.TooManyBuckets) ∷ []

-- a report of a job that hasn't ended may go there
abbrev pub of_deletion : Bool → BucketView → List Cause
of_deletion reported at = (has_rows at.rows, refusals.BucketNotEmpty) ∷ (reported, refusals.InvalidBucketState) ∷ []

-- versioning isn't switched off under Object Lock, nor where a configuration or such a report needs it
abbrev pub of_switch : Bool → Bool → BucketView → List Cause
of_switch enabled reported at = (not enabled && (is_some at.config || (at.locked || reported)), refusals.InvalidBucketState) ∷ []

-- the first region of a rule that isn't there, where there are n regions
abbrev pub beyond : ℕ → List ℕ → Option ℕ
beyond n regions = find (λ r. nat_le n r) regions

-- the causes behind that of such a region
abbrev pub unless_beyond : List Cause → Option ℕ → List Cause
unless_beyond more None = more
unless_beyond more (Some r) = (true, refusals.NoSuchRegion r) ∷ []

abbrev pub of_configuration : BucketView → List Cause
of_configuration at = (not at.enabled, refusals.InvalidBucketState) ∷ []

abbrev pub of_dropping : BucketView → List Cause
of_dropping at = (not (is_some at.config), refusals.NoReplication) ∷ []

abbrev pub of_put : Bool → BucketView → List Cause
of_put hold at = (not at.enabled, refusals.InvalidBucketState) ∷ (hold && not at.locked, refusals.LockNeeded) ∷ []

abbrev pub of_marker : BucketView → List Cause
of_marker at = (not at.enabled, refusals.InvalidBucketState) ∷ []

abbrev pub under_hold : Entry → List Cause
under_hold row = (row.hold, refusals.AccessDenied) ∷ []

abbrev pub of_removal : Name → VersionId → BucketView → List Cause
of_removal key id at = in_version under_hold (find_version key id at.rows)

abbrev pub of_a_marker : Entry → List Cause
of_a_marker row = (row.marker, refusals.MethodNotAllowed) ∷ []

abbrev pub of_tags : Name → VersionId → BucketView → List Cause
of_tags key id at = in_version of_a_marker (find_version key id at.rows)

abbrev pub of_hold : Name → VersionId → BucketView → List Cause
of_hold key id at = (not at.locked, refusals.LockNeeded) ∷ in_version of_a_marker (find_version key id at.rows)

-- the causes behind that of a region that isn't there, where there are n
abbrev pub in_region : ℕ → ℕ → List Cause → List Cause
in_region n r more = (nat_le n r, refusals.NoSuchRegion r) ∷ more

-- a number that isn't above the last that was received
abbrev pub of_receipt : ℕ → ℕ → List Cause
of_receipt number last = (nat_le number last, refusals.NotNext last) ∷ []

-- a number that isn't that of the first pending task
abbrev pub of_task : ℕ → ℕ → List Cause
of_task number next = (not (number == next), refusals.NotFirst next) ∷ []

-- ---- jobs

-- the token of a job that is there, before other causes
abbrev pub of_token : ℕ → Option JobFacts → List Cause → List Cause
of_token r None more = more
of_token r (Some job) more = (true, refusals.Idempotency (record { region = r; index = job.id })) ∷ more

-- no version can be put there: it isn't there, or its versioning is Suspended
abbrev pub takes_none : Option BucketView → Bool
takes_none None = true
takes_none (Some at) = not at.enabled

abbrev pub lacks_report : RegionView → Option ReportSpec → Bool
lacks_report view None = false
lacks_report view (Some report) = takes_none (view.bucket report.bucket)

abbrev pub lacks_target : RegionView → Operation → Bool
lacks_target view (operations.Copy target prefix) = is_none (view.bucket target)
lacks_target view (operations.Tagging tags) = false
lacks_target view (operations.Hold hold) = false
lacks_target view operations.Replicate = false

-- the manifest is a marker, or so many jobs haven't ended that no other is taken in
abbrev pub of_manifest : JobsFacts → Entry → List Cause
of_manifest jobs row = (row.marker, refusals.MethodNotAllowed) ∷ (nat_le 16 (length jobs.live), refusals.TooManyJobs) ∷ []

abbrev pub of_job : RegionView → JobSpec → VersionId → BucketView → List Cause
of_job view spec manifest at = of_token view.region (token_job spec.token view.jobs)
    ((lacks_report view spec.report, refusals.InvalidRequest 0 kinds.Report) ∷ (lacks_target view spec.operation, refusals.InvalidRequest 0 kinds.Target)
    ∷ in_version (of_manifest view.jobs) (find_version spec.manifest.key manifest at.rows))

-- the causes of a job that is there, behind that of one that isn't
abbrev pub in_job : (JobFacts → List Cause) → Option JobFacts → List Cause
in_job more None = (true, refusals.NoSuchJob) ∷ []
in_job more (Some job) = more job

-- the job can't do what is wanted of it
abbrev pub unless : Bool → Wanted → JobFacts → List Cause
unless may want job = (not may, refusals.JobStatus job.state want) ∷ []

abbrev pub is_cancelling : JobState → Bool
is_cancelling states.Cancelling = true
is_cancelling state = false

-- it has this move, which is neither that of its manifest's reading nor its end
abbrev pub has_move : JobFacts → JobState → Bool
has_move job to = may_move job job.state to && (not (has_ended to) && (not (is_preparing job.state) || is_cancelling to))

-- only one job is Active or Pausing at a time
abbrev pub leaves_one : JobsFacts → JobState → Bool
leaves_one jobs to = not (is_active to && is_some (running jobs.live))

-- who stops a job wants it to be Cancelled
abbrev pub wanted_by : JobState → Wanted
wanted_by to = if is_cancelling to then wanted.State states.Cancelled else wanted.State to

abbrev pub of_move : JobsFacts → JobState → JobFacts → List Cause
of_move jobs to job = unless (has_move job to && leaves_one jobs to) (wanted_by to) job

abbrev pub of_priority : JobFacts → List Cause
of_priority job = unless (not (has_ended job.state)) wanted.Priority job

abbrev pub of_preparing : JobFacts → List Cause
of_preparing job = unless (is_preparing job.state) wanted.Prepare job

-- it may begin its next line, which this one is
abbrev pub of_line : ℕ → JobFacts → List Cause
of_line line job = unless (may_start job && (line == length job.results + 1)) wanted.Line job

-- it may end, and no report is written yet
abbrev pub of_finish : Option (List ℕ) → JobFacts → List Cause
of_finish body job = unless ((is_done job || is_stopping job.state) && is_none body) wanted.Finish job

-- why a command may be refused, in order, where there are n regions and its own tells this
abbrev pub causes : ℕ → RegionView → Command → List Cause
causes n view (command.CreateBucket name locked) = of_creation (view.bucket name) view.count
causes n view (command.DeleteBucket name) = in_bucket (of_deletion (reports_to name view.jobs.live)) (view.bucket name)
causes n view (command.SetVersioning name enabled) = in_bucket (of_switch enabled (reports_to name view.jobs.live)) (view.bucket name)
causes n view (command.SetReplication name config regions) =
    unless_beyond (in_bucket of_configuration (view.bucket name)) (beyond n regions)
causes n view (command.DropReplication name) = in_bucket of_dropping (view.bucket name)
causes n view (command.Put b key tags hold class body) = in_bucket (of_put hold) (view.bucket b)
causes n view (command.Marker b key) = in_bucket of_marker (view.bucket b)
causes n view (command.Remove b key id) = in_bucket (of_removal key id) (view.bucket b)
causes n view (command.SetTags b key id tags) = in_bucket (of_tags key id) (view.bucket b)
causes n view (command.SetHold b key id hold) = in_bucket (of_hold key id) (view.bucket b)
causes n view (command.Receive from number effect) = in_region n from (of_receipt number (view.last from))
causes n view (command.Settle to number outcome) = in_region n to (of_task number (view.next to))
causes n view (command.Attempt to number) = in_region n to (of_task number (view.next to))
causes n view (command.CreateJob spec manifest) = in_bucket (of_job view spec manifest) (view.bucket spec.manifest.bucket)
causes n view (command.MoveJob job to) = in_job (of_move view.jobs to) (find_job job view.jobs)
causes n view (command.SetPriority job priority) = in_job of_priority (find_job job view.jobs)
causes n view (command.Prepare job) = in_job of_preparing (find_job job view.jobs)
causes n view (command.Line job line) = in_job (of_line line) (find_job job view.jobs)
causes n view (command.Finish job body) = in_job (of_finish body) (find_job job view.jobs)

-- how the command is refused after the history h of region r, of n regions; None where it is accepted
abbrev pub refusal : (n r : ℕ) → History → Command → Option Refusal
refusal n r h c = first_of_causes (causes n (view r h) c)

-- each command meets its fields' rules and is accepted by the history before it
abbrev pub IsLawful : (n r : ℕ) → History → Type 0
IsLawful n r [] = Unit {0}
IsLawful n r (c ∷ h) = IsCommand c × (refusal n r h c ≡ None) × IsLawful n r h
