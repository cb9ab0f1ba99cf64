-- What each request comes to, by the histories of all regions.
use Rattle.std.specs.Prelude.{ℕ, zero, suc, ◌+◌, ◌<◌, ◌≤◌, ◌==◌, Bool, true, false, nat_lt, map, List, [], ◌∷◌, ◌++◌, length, Option, Some, None, Result, Ok, Err, is_some, is_none, if◌then◌else◌, IsTrue}
use Rattle.s3r_names.specs.declared.version.VersionId.{VersionId}
use Rattle.s3r_names.specs.Version.{IsVersionId}
use Rattle.s3r_names.specs.declared.outcome.Status.{Status}
use Rattle.s3r_names.specs.declared.outcome.Status.TheVariants as status
use Rattle.s3r_names.specs.Tags.{is_tag_set}
use Rattle.s3r_jobs.specs.declared.spec.JobSpec.{JobSpec}
use Rattle.s3r_jobs.specs.declared.spec.Operation.{Operation}
use Rattle.s3r_jobs.specs.declared.spec.Operation.TheVariants as operations
use Rattle.s3r_jobs.specs.declared.spec.ReportSpec.{ReportSpec}
use Rattle.s3r_jobs.specs.declared.state.JobState.{JobState}
use Rattle.s3r_jobs.specs.declared.state.JobState.TheVariants as states
use Rattle.s3r_jobs.specs.Facts.{JobFacts}
use Rattle.s3r_jobs.specs.Jobs.{JobsFacts, token_job}
use Rattle.s3r_jobs.specs.Rules.{IsJobSpec}
use Rattle.s3r_jobs.specs.Same.{same_spec}
use Rattle.std.specs.Str.{bytes_eq}
use Rattle.s3r_names.specs.Bucket.{is_bucket_name}
use Rattle.s3r_rules.specs.Rules.{is_config}
use Rattle.s3r_rules.specs.declared.rule.Rule.{Rule}
use Rattle.s3r_rules.specs.declared.fault.Kind.{Kind}
use Rattle.s3r_rules.specs.declared.fault.Kind.TheVariants as kind
use Rattle.s3r_record.specs.declared.command.Command.{Command}
use Rattle.s3r_record.specs.declared.command.Command.TheVariants as command
use Rattle.s3r_record.specs.Spelling.{IsCommand, fits_record}
use Rattle.s3r_versions.specs.Lookup.{find_version, latest}
use Rattle.s3r_versions.specs.Listing.{is_place_there, listing}
use Rattle.s3r_versions.specs.declared.listing.Listed.{Listed}
use Rattle.s3r_versions.specs.declared.listing.Listing.{Listing}
use Rattle.s3r_versions.specs.declared.listing.ListPosition.{ListPosition}
use Rattle.s3r_history.specs.Words.{Name, History}
use Rattle.s3r_history.specs.Past.{Entry}
use Rattle.s3r_history.specs.BucketView.{BucketView}
use Rattle.s3r_history.specs.RegionView.{view}
use Rattle.s3r_history.specs.Told.{told}
use Rattle.s3r_history.specs.Deeds.{deeds}
use Rattle.s3r_history.specs.Jobs.{jobs_at}
use Rattle.s3r_history.specs.Accepts.{refusal, takes_none}
use Rattle.s3r_history.specs.declared.replication.Replication.{Replication}
use Rattle.s3r_history.specs.declared.refusal.Refusal.{Refusal}
use Rattle.s3r_history.specs.declared.refusal.Refusal.TheVariants as refusals
use Rattle.s3r_store.specs.Commits.{length_with}
use Rattle.s3r_desk.specs.declared.request.Request.{Request}
use Rattle.s3r_desk.specs.declared.request.Request.TheVariants as request
use Rattle.s3r_desk.specs.declared.request.Answer.{Answer}
use Rattle.s3r_desk.specs.declared.request.Answer.TheVariants as answer
use Rattle.s3r_desk.specs.declared.request.ObjectMetadata.{ObjectMetadata}
use Rattle.s3r_desk.specs.declared.planning.Plan.{Plan}
use Rattle.s3r_desk.specs.declared.planning.Plan.TheVariants.{Shows, Fetches, Commits}
use Rattle.s3r_desk.specs.declared.planning.Reply.{Reply}
use Rattle.s3r_desk.specs.declared.planning.Reply.TheVariants.{Is, Written, Marked, Created}
use Rattle.s3r_desk.specs.Events.{found, began, Events}

-- each region's history
abbrev pub Histories : Type 0
Histories = ℕ → History

-- ---- what a request is answered, and what it commits

-- what each region tells of a bucket's name
abbrev pub Views : Type 0
Views = ℕ → Name → Option BucketView

-- the status of a version of a bucket in each region, where it is there
abbrev pub VersionStatuses : Type 0
VersionStatuses = ℕ → Name → Name → VersionId → Option Status

-- which jobs each region has
abbrev pub RegionJobs : Type 0
RegionJobs = ℕ → JobsFacts

abbrev pub refuses : Refusal → Plan
refuses why = Shows (answer.Refused why)

-- the region that has a bucket, and what it tells of it
pub record BucketLocation : Type 0 where
  pub region : ℕ
  pub told : BucketView

abbrev pub or_location : ℕ → Option BucketView → Option BucketLocation → Option BucketLocation
or_location r None other = other
or_location r (Some t) other = Some (record { region = r; told = t })

-- the first of so many regions, from r on, that has the bucket
abbrev pub location_from : ℕ → ℕ → Views → Name → Option BucketLocation
location_from r zero views b = None
location_from r (suc n) views b = or_location r (views r b) (location_from (r + 1) n views b)

-- the least of n regions that has the bucket
abbrev pub location : ℕ → Views → Name → Option BucketLocation
location n views b = location_from 0 n views b

abbrev pub at_location : (BucketLocation → Plan) → Option BucketLocation → Plan
at_location plan None = refuses refusals.NoSuchBucket
at_location plan (Some h) = plan h

abbrev pub commits_at : BucketLocation → Command → Reply → Plan
commits_at h c reply = Commits h.region c reply

-- the version of the key that is named, or the latest
abbrev pub sought : Name → Option VersionId → BucketView → Option Entry
sought key None at = latest key at.rows
sought key (Some id) at = find_version key id at.rows

-- there is none
abbrev pub missing : Option VersionId → Refusal
missing None = refusals.NoSuchKey
missing (Some id) = refusals.NoSuchVersion

-- it is a marker
abbrev pub hidden : Option VersionId → Refusal
hidden None = refusals.NoSuchKey
hidden (Some id) = refusals.MethodNotAllowed

abbrev pub object_of : Option VersionId → Option Entry → Result Entry Refusal
object_of version None = Err (missing version)
object_of version (Some row) = if row.marker then Err (hidden version) else Ok row

-- the version that is asked for, unless it isn't there or is a marker
abbrev pub object_at : Name → Option VersionId → BucketLocation → Result Entry Refusal
object_at key version h = object_of version (sought key version h.told)

abbrev pub with_object : (Entry → Plan) → Result Entry Refusal → Plan
with_object plan (Err why) = refuses why
with_object plan (Ok row) = plan row

-- under Object Lock alone
abbrev pub if_locked : BucketLocation → Plan → Plan
if_locked h plan = if h.told.locked then plan else refuses refusals.LockNeeded

-- a new bucket, in the region that is asked for where that is there, and no region has its name
abbrev pub creation : ℕ → Name → Bool → Option BucketLocation → Option ℕ → Plan
creation n name locked there None = refuses refusals.InvalidLocation
creation n name locked there (Some r) =
    if nat_lt r n then (if is_some there then refuses refusals.BucketAlreadyExists else Commits r (command.CreateBucket name locked) (Is answer.Done))
    else refuses refusals.InvalidLocation

-- a version's status; of one that isn't there nothing is to be copied
abbrev pub status_or_none : Option Status → Status
status_or_none None = status.NoTask
status_or_none (Some s) = s

-- the statuses of the versions of a listing
abbrev pub statuses_of : (Name → VersionId → Option Status) → List Listed → List Status
statuses_of statuses entries = map (λ (entry : Listed). status_or_none (statuses entry.key entry.id)) entries

abbrev pub listed : (Name → VersionId → Option Status) → Listing → Plan
listed statuses listing = Shows (answer.Listing listing (statuses_of statuses listing.entries))

abbrev pub page : (Name → VersionId → Option Status) → List ℕ → Option ListPosition → ℕ → BucketView → Plan
page statuses prefix after limit at =
    if is_place_there after at.rows then listed statuses (listing prefix after limit at.rows) else refuses refusals.NoSuchVersion

abbrev pub metadata_of : Bool → Status → Entry → ObjectMetadata
metadata_of locked status row = record { id = row.id; class = row.class; status = status; locked = locked; hold = row.hold; length = row.length }

-- a version of the region r: with its body, which is to be fetched, or without it where its head alone is asked for
abbrev pub version_shown : ℕ → Bool → ObjectMetadata → Entry → Plan
version_shown r head object row = if head then Shows (answer.Object object []) else Fetches r object row.body

-- or a marker in its place
abbrev pub object_shown : ℕ → Option VersionId → Bool → Bool → Status → Entry → Plan
object_shown r version head locked status row =
    if row.marker then Shows (answer.MarkerThere row.id (is_some version)) else version_shown r head (metadata_of locked status row) row

abbrev pub shown : (VersionId → Option Status) → Option VersionId → Bool → BucketLocation → Option Entry → Plan
shown statuses version head h None = refuses (missing version)
shown statuses version head h (Some row) = object_shown h.region version head h.told.locked (status_or_none (statuses row.id)) row

abbrev pub object_asked : VersionStatuses → Name → Name → Option VersionId → Bool → BucketLocation → Plan
object_asked statuses b key version head h = shown (statuses h.region b key) version head h (sought key version h.told)

-- a version is removed where it is there
abbrev pub removal : BucketLocation → Name → Name → VersionId → Option Entry → Plan
removal h b key id None = Shows (answer.Gone (Some id) false)
removal h b key id (Some row) = commits_at h (command.Remove b key id) (Is (answer.Gone (Some id) row.marker))

abbrev pub deletion : Name → Name → Option VersionId → BucketLocation → Plan
deletion b key None h = commits_at h (command.Marker b key) Marked
deletion b key (Some id) h = removal h b key id (find_version key id h.told.rows)

abbrev pub tags_reply : Bool → VersionId → Reply
tags_reply gone id = if gone then Is (answer.Gone (Some id) false) else Is (answer.Written id)

-- ---- replication, where each name has this location

-- what is wrong with a destination
abbrev pub kind_there : Option BucketLocation → Option Kind
kind_there None = Some kind.NoDestination
kind_there (Some h) = if h.told.enabled then None else Some kind.DestinationNotVersioned

-- what is wrong with a rule of the bucket b: its destination is b itself, or isn't there, or its versioning is Suspended
abbrev pub wrong_rule : (Name → Option BucketLocation) → Name → Rule → Option Kind
wrong_rule at b rule = if bytes_eq rule.bucket b then Some kind.SameBucket else kind_there (at rule.bucket)

abbrev pub or_wrong : ℕ → Option Kind → Option Refusal → Option Refusal
or_wrong k None later = later
or_wrong k (Some what) later = Some (refusals.InvalidRequest k what)

-- the first rule that is wrong, where they are counted from k on
abbrev pub first_wrong : (Rule → Option Kind) → ℕ → List Rule → Option Refusal
first_wrong wrong k [] = None
first_wrong wrong k (rule ∷ rules) = or_wrong k (wrong rule) (first_wrong wrong (k + 1) rules)

-- why the bucket b can't have the configuration
abbrev pub not_taken : (Name → Option BucketLocation) → Name → List Rule → BucketLocation → Option Refusal
not_taken at b rules h = if h.told.enabled then first_wrong (wrong_rule at b) 1 rules else Some refusals.InvalidBucketState

abbrev pub region_of : Option BucketLocation → ℕ
region_of None = 0
region_of (Some h) = h.region

-- the region of each rule's destination
abbrev pub regions_of : (Name → Option BucketLocation) → List Rule → List ℕ
regions_of at rules = map (λ (rule : Rule). region_of (at rule.bucket)) rules

abbrev pub unless_refused : Plan → Option Refusal → Plan
unless_refused plan None = plan
unless_refused plan (Some why) = refuses why

abbrev pub replication : (Name → Option BucketLocation) → Name → List Rule → BucketLocation → Plan
replication at b rules h = unless_refused (commits_at h (command.SetReplication b rules (regions_of at rules)) (Is answer.Done)) (not_taken at b rules h)

abbrev pub configuration : Option Replication → Plan
configuration None = refuses refusals.NoReplication
configuration (Some r) = Shows (answer.Configuration r.config)

-- a configuration is taken away where there is one
abbrev pub dropping : Name → BucketLocation → Option Replication → Plan
dropping b h None = Shows (answer.Gone None false)
dropping b h (Some r) = commits_at h (command.DropReplication b) (Is (answer.Gone None false))

-- ---- jobs

-- a job's id has the index of the command that created it
abbrev pub job_id : ℕ → ℕ → VersionId
job_id r index = record { region = r; index = index }

-- the report's bucket isn't in the region, or takes no new version
abbrev pub lacks_report : (Name → Option BucketView) → Option ReportSpec → Bool
lacks_report at None = false
lacks_report at (Some report) = takes_none (at report.bucket)

-- the bucket into which is to be copied isn't in the region
abbrev pub lacks_target : (Name → Option BucketView) → Operation → Bool
lacks_target at (operations.Copy target prefix) = is_none (at target)
lacks_target at (operations.Tagging tags) = false
lacks_target at (operations.Hold hold) = false
lacks_target at operations.Replicate = false

-- a job over the version that is its manifest
abbrev pub over_manifest : JobSpec → BucketLocation → Plan
over_manifest spec h =
    with_object (λ row. commits_at h (command.CreateJob spec row.id) Created) (object_at spec.manifest.key spec.manifest.version h)

-- a new job, in a region that tells this of its buckets
abbrev pub new_job : (Name → Option BucketView) → JobSpec → BucketLocation → Plan
new_job at spec h =
    if lacks_report at spec.report then refuses (refusals.InvalidRequest 0 kind.Report)
    else if lacks_target at spec.operation then refuses (refusals.InvalidRequest 0 kind.Target)
    else over_manifest spec h

-- the job that the token made is made again, or another one is asked for by it
abbrev pub job_again : ℕ → JobSpec → JobFacts → Plan
job_again r spec job = if same_spec job.spec spec then Shows (answer.JobMade (job_id r job.id)) else refuses (refusals.Idempotency (job_id r job.id))

abbrev pub unless_made : Plan → ℕ → JobSpec → Option JobFacts → Plan
unless_made plan r spec None = plan
unless_made plan r spec (Some job) = job_again r spec job

abbrev pub job_creation : Views → RegionJobs → JobSpec → BucketLocation → Plan
job_creation views jobs spec h =
    unless_made (new_job (views h.region) spec h) h.region spec (token_job spec.token (jobs h.region))

-- a job whose id is of an id's form, in one of n regions
abbrev pub at_job : ℕ → (VersionId → Plan) → Option VersionId → Plan
at_job n plan None = refuses refusals.NoSuchJob
at_job n plan (Some id) = if nat_lt id.region n then plan id else refuses refusals.NoSuchJob

abbrev pub prioritized : ℕ → VersionId → Plan
prioritized priority id = Commits id.region (command.SetPriority id.index priority) (Is (answer.JobSet id priority))

-- the state that a client asks for
abbrev pub state_asked : Bool → JobState
state_asked ready = if ready then states.Ready else states.Cancelling

abbrev pub moved : JobState → VersionId → Plan
moved state id = Commits id.region (command.MoveJob id.index state) (Is (answer.JobMoved id state))

-- ---- each request

abbrev pub plan : ℕ → Views → VersionStatuses → RegionJobs → Request → Plan
plan n views statuses jobs (request.CreateBucket name region locked) = creation n name locked (location n views name) region
plan n views statuses jobs (request.HeadBucket name) = at_location (λ h. Shows answer.Done) (location n views name)
plan n views statuses jobs (request.DeleteBucket name) =
    at_location (λ h. commits_at h (command.DeleteBucket name) (Is (answer.Gone None false))) (location n views name)
plan n views statuses jobs (request.PutVersioning name enabled) = at_location (λ h. commits_at h (command.SetVersioning name enabled) (Is answer.Done))
    (location n views name)
plan n views statuses jobs (request.GetVersioning name) = at_location (λ h. Shows (answer.Versioning h.told.enabled)) (location n views name)
plan n views statuses jobs (request.PutReplication name config) = at_location (replication (location n views) name config) (location n views name)
plan n views statuses jobs (request.GetReplication name) = at_location (λ h. configuration h.told.config) (location n views name)
plan n views statuses jobs (request.DeleteReplication name) = at_location (λ h. dropping name h h.told.config) (location n views name)
plan n views statuses jobs (request.ListVersions name prefix after limit) = at_location (λ h. page (statuses h.region name) prefix after limit h.told)
    (location n views name)
plan n views statuses jobs (request.PutObject b key body tags hold class) = at_location (λ h. commits_at h (command.Put b key tags hold class body) Written)
    (location n views b)
plan n views statuses jobs (request.GetObject b key version head) = at_location (object_asked statuses b key version head) (location n views b)
plan n views statuses jobs (request.DeleteObject b key version) = at_location (deletion b key version) (location n views b)
plan n views statuses jobs (request.PutTags b key version tags gone) =
    at_location (λ h. with_object (λ row. commits_at h (command.SetTags b key row.id tags) (tags_reply gone row.id)) (object_at key version h))
    (location n views b)
plan n views statuses jobs (request.GetTags b key version) = at_location (λ h. with_object (λ row. Shows (answer.TagSet row.tags)) (object_at key version h))
    (location n views b)
plan n views statuses jobs (request.PutHold b key version hold) =
    at_location (λ h. if_locked h (with_object (λ row. commits_at h (command.SetHold b key row.id hold) (Is (answer.Written row.id)))
    (object_at key version h))) (location n views b)
plan n views statuses jobs (request.GetHold b key version) =
    at_location (λ h. if_locked h (with_object (λ row. Shows (answer.Hold row.hold)) (object_at key version h))) (location n views b)
-- a turn of the copier or of a region's jobs, or rounds of them, is no step over all regions
plan n views statuses jobs (request.Copy from to) = refuses refusals.InvalidArgument
plan n views statuses jobs (request.CreateJob spec) = at_location (job_creation views jobs spec) (location n views spec.manifest.bucket)
plan n views statuses jobs (request.SetJobPriority id priority) = at_job n (prioritized priority) id
plan n views statuses jobs (request.SetJobStatus id ready) = at_job n (moved (state_asked ready)) id
plan n views statuses jobs (request.JobTurn region) = refuses refusals.InvalidArgument
plan n views statuses jobs (request.Work rounds) = refuses refusals.InvalidArgument

-- ---- the step

-- a command, and the region to which it is committed
pub record Commit : Type 0 where
  pub region : ℕ
  pub command : Command

-- the commits that a request makes in order, and its answer
pub record Step : Type 0 where
  pub commits : List Commit
  pub reply : Answer

abbrev pub answers : Answer → Step
answers reply = record { commits = []; reply = reply }

-- the command is committed where the region's history accepts it
abbrev pub commits_unless : Option Refusal → Commit → Answer → Step
commits_unless None commit reply = record { commits = commit ∷ []; reply = reply }
commits_unless (Some why) commit reply = answers (answer.Refused why)

abbrev pub commits_to : ℕ → Histories → ℕ → Command → Answer → Step
commits_to n at r c reply = commits_unless (refusal n r (at r) c) (record { region = r; command = c }) reply

-- the answer to a commit of this index in its region's history
abbrev pub reply_at : ℕ → ℕ → Reply → Answer
reply_at r index (Is reply) = reply
reply_at r index Written = answer.Written (record { region = r; index = index })
reply_at r index Marked = answer.Gone (Some (record { region = r; index = index })) true
reply_at r index Created = answer.JobMade (job_id r index)

abbrev pub made_of : ℕ → Histories → Plan → Step
made_of n at (Shows reply) = answers reply
made_of n at (Fetches r object body) = answers (answer.Object object body)
made_of n at (Commits r c reply) = commits_to n at r c (reply_at r (length (at r) + 1) reply)

-- what the histories tell of buckets
abbrev pub views : Histories → Views
views at r b = told r (at r) b

-- and of versions
abbrev pub statuses : Histories → VersionStatuses
statuses at r b key id = (view r (at r)).status b key id

-- and of jobs
abbrev pub jobs : Histories → RegionJobs
jobs at r = jobs_at (deeds r (at r))

abbrev pub step : ℕ → Histories → Request → Step
step n at request = made_of n at (plan n (views at) (statuses at) (jobs at) request)

-- an id that is named meets its rule
abbrev pub IsNamed : Option VersionId → Type 0
IsNamed None = Unit {0}
IsNamed (Some id) = IsVersionId id

-- each part of a request meets its type's rule
abbrev pub IsRequest : Request → Type 0
IsRequest (request.CreateBucket name region locked) = IsCommand (command.CreateBucket name locked)
IsRequest (request.HeadBucket name) = Unit {0}
IsRequest (request.DeleteBucket name) = IsCommand (command.DeleteBucket name)
IsRequest (request.PutVersioning name enabled) = IsCommand (command.SetVersioning name enabled)
IsRequest (request.GetVersioning name) = Unit {0}
IsRequest (request.PutReplication name config) = IsTrue (is_bucket_name name) × IsTrue (is_config config) × IsTrue (fits_record name config)
IsRequest (request.GetReplication name) = Unit {0}
IsRequest (request.DeleteReplication name) = IsTrue (is_bucket_name name)
IsRequest (request.ListVersions name prefix after limit) = 1 ≤ limit
IsRequest (request.PutObject b key body tags hold class) = IsCommand (command.Put b key tags hold class body)
IsRequest (request.GetObject b key version head) = Unit {0}
IsRequest (request.DeleteObject b key version) = IsCommand (command.Marker b key) × IsNamed version
IsRequest (request.PutTags b key version tags gone) = IsCommand (command.Marker b key) × IsTrue (is_tag_set tags)
IsRequest (request.GetTags b key version) = Unit {0}
IsRequest (request.PutHold b key version hold) = IsCommand (command.Marker b key)
IsRequest (request.GetHold b key version) = Unit {0}
IsRequest (request.Copy from to) = Unit {0}
IsRequest (request.CreateJob spec) = IsJobSpec spec
IsRequest (request.SetJobPriority id priority) = IsNamed id × (priority ≤ 2147483647)
IsRequest (request.SetJobStatus id ready) = IsNamed id
IsRequest (request.JobTurn region) = Unit {0}
IsRequest (request.Work rounds) = Unit {0}

-- the histories with one command more
abbrev pub after_commit : Commit → Histories → Histories
after_commit commit at r = if r == commit.region then commit.command ∷ at r else at r

-- the histories with all of them
abbrev pub after_commits : List Commit → Histories → Histories
after_commits [] at = at
after_commits (commit ∷ commits) at = after_commits commits (after_commit commit at)

-- what happens where the commits are made, the newest first
abbrev pub made : Histories → List Commit → Events
made at [] = []
made at (commit ∷ commits) = made (after_commit commit at) commits ++ found commit.region
    (commit.command ∷ at commit.region) ∷ began commit.region commit.command ∷ []

-- the commits fit the rooms of their volumes
abbrev pub FitRooms : (ℕ → ℕ) → Histories → List Commit → Type 0
FitRooms room at [] = Unit {0}
FitRooms room at (commit ∷ commits) = (length_with commit.region (at commit.region) commit.command ≤ room commit.region)
    × FitRooms room (after_commit commit at) commits

-- a command that is planned meets its fields' rules, and goes to one of n regions
abbrev pub FitsIn : ℕ → Plan → Type 0
FitsIn n (Shows reply) = Unit {0}
FitsIn n (Fetches r object body) = r < n
FitsIn n (Commits r c reply) = (r < n) × IsCommand c
