-- No refusal of a region that isn't there, or of a task, leaves the desk.
use Rattle.std.proofs.Common.{◌≡◌, ℕ, zero, suc, ◌+◌, ◌<◌, Bool, true, false, cond, nat_lt, List, [], ◌∷◌, length, Option, Some, None, is_some, Ok, Err, refl, ap, ◌∙◌, arith}
use Rattle.std.specs.List.{list_all}
use Rattle.std.proofs.lemmas.Bool.{and_parts, lt-leb}
use Rattle.s3r_names.specs.declared.outcome.Status.{Status}
use Rattle.s3r_names.specs.declared.version.VersionId.{VersionId}
use Rattle.s3r_rules.specs.declared.rule.Rule.{Rule}
use Rattle.s3r_rules.specs.declared.fault.Kind.{Kind}
use Rattle.s3r_record.specs.declared.command.Command.{Command}
use Rattle.s3r_record.specs.declared.command.Command.TheVariants as command
use Rattle.s3r_versions.specs.Lookup.{find_version}
use Rattle.s3r_versions.specs.Listing.{is_place_there}
use Rattle.s3r_history.specs.declared.refusal.Refusal.{Refusal}
use Rattle.s3r_history.specs.declared.refusal.Refusal.TheVariants as refusals
use Rattle.s3r_history.specs.declared.replication.Replication.{Replication}
use Rattle.s3r_history.specs.Words.{Name}
use Rattle.s3r_history.specs.Past.{Entry}
use Rattle.s3r_history.specs.BucketView.{BucketView}
use Rattle.s3r_history.specs.RegionView.{RegionView, view}
use Rattle.s3r_history.specs.Accepts.{Cause, first_of_causes, in_bucket, in_version, of_deletion, of_switch, of_put, of_marker, of_removal, of_tags, of_a_marker, under_hold, beyond, unless_beyond, of_configuration, of_dropping, causes, refusal}
use Rattle.s3r_history.specs.Accepts.{in_job, of_token, of_manifest, of_job, of_move, of_priority}
use Rattle.s3r_jobs.specs.declared.spec.JobSpec.{JobSpec}
use Rattle.s3r_jobs.specs.Facts.{JobFacts}
use Rattle.s3r_jobs.specs.Jobs.{find_job, token_job, reports_to}
use Rattle.s3r_jobs.specs.Same.{same_spec}
use Rattle.s3r_rules.specs.declared.fault.Kind.TheVariants as kind
use Rattle.s3r_desk.specs.declared.request.Request.{Request}
use Rattle.s3r_desk.specs.declared.request.Request.TheVariants as request
use Rattle.s3r_desk.specs.declared.request.Answer.{Answer}
use Rattle.s3r_desk.specs.declared.request.Answer.TheVariants as answer
use Rattle.s3r_desk.specs.declared.planning.Plan.{Plan}
use Rattle.s3r_desk.specs.declared.planning.Plan.TheVariants.{Shows, Fetches, Commits}
use Rattle.s3r_desk.specs.declared.planning.Reply.{Reply}
use Rattle.s3r_desk.specs.declared.planning.Reply.TheVariants.{Is, Written, Marked, Created}
use Rattle.s3r_desk.specs.Steps.{Histories, Views, VersionStatuses, RegionJobs, BucketLocation, status_or_none, metadata_of, version_shown, refuses, at_location, missing, hidden, sought, object_of, with_object, if_locked, creation, shown, removal, deletion, tags_reply, location, or_wrong, wrong_rule, first_wrong, not_taken, region_of, regions_of, unless_refused, replication, configuration, dropping, job_id, lacks_report, lacks_target, over_manifest, new_job, job_again, unless_made, at_job, plan, commits_at, commits_unless, reply_at, made_of, views, statuses, jobs, step}
use Rattle.s3r_desk.specs.Laws.{is_told, may_leave}
use Rattle.s3r_desk.proofs.PlacedRules.{below}

-- ---- why a command is refused

abbrev told_of : Option Refusal → Bool
told_of None = true
told_of (Some why) = is_told why

abbrev all_told : List Cause → Bool
all_told cs = list_all (λ (c : Cause). is_told c.1) cs

first-told : (cs : List Cause) → all_told cs ≡ true → told_of (first_of_causes cs) ≡ true
first-told [] all = refl
first-told (c ∷ cs) all = go c.0 (first-told cs parts.1)
  where
    parts : (is_told c.1 ≡ true) × (all_told cs ≡ true)
    parts = and_parts (is_told c.1) (all_told cs) all

    go : (b : Bool) → told_of (first_of_causes cs) ≡ true → told_of (cond b (Some c.1) (first_of_causes cs)) ≡ true
    go true later = parts.0
    go false later = later

in-bucket : (more : BucketView → List Cause) → ((t : BucketView) → all_told (more t) ≡ true) → (at : Option BucketView) → all_told (in_bucket more at) ≡ true
in-bucket more all None = refl
in-bucket more all (Some t) = all t

in-version : (more : Entry → List Cause) → ((row : Entry) → all_told (more row) ≡ true) → (at : Option Entry) → all_told (in_version more at) ≡ true
in-version more all None = refl
in-version more all (Some row) = all row

in-token : (r : ℕ) (o : Option JobFacts) (more : List Cause) → all_told more ≡ true → all_told (of_token r o more) ≡ true
in-token r None more all = all
in-token r (Some job) more all = all

in-job : (more : JobFacts → List Cause) → ((job : JobFacts) → all_told (more job) ≡ true) → (o : Option JobFacts) → all_told (in_job more o) ≡ true
in-job more all None = refl
in-job more all (Some job) = all job

-- a request may ask for the command: the regions that it names are there, and it is about no task
abbrev pub MayBeAsked : ℕ → Command → Type 0
MayBeAsked n (command.CreateBucket name locked) = Unit {0}
MayBeAsked n (command.DeleteBucket name) = Unit {0}
MayBeAsked n (command.SetVersioning name enabled) = Unit {0}
MayBeAsked n (command.SetReplication name config regions) = beyond n regions ≡ None
MayBeAsked n (command.DropReplication name) = Unit {0}
MayBeAsked n (command.Put b key tags hold class body) = Unit {0}
MayBeAsked n (command.Marker b key) = Unit {0}
MayBeAsked n (command.Remove b key id) = Unit {0}
MayBeAsked n (command.SetTags b key id tags) = Unit {0}
MayBeAsked n (command.SetHold b key id hold) = Unit {0}
MayBeAsked n (command.Receive from number effect) = ⊥
MayBeAsked n (command.Settle to number outcome) = ⊥
MayBeAsked n (command.Attempt to number) = ⊥
MayBeAsked n (command.CreateJob spec manifest) = Unit {0}
MayBeAsked n (command.MoveJob job state) = Unit {0}
MayBeAsked n (command.SetPriority job priority) = Unit {0}
MayBeAsked n (command.Prepare job) = ⊥
MayBeAsked n (command.Line job line) = ⊥
MayBeAsked n (command.Finish job body) = ⊥

causes-told : (n : ℕ) (v : RegionView) (c : Command) → MayBeAsked n c → all_told (causes n v c) ≡ true
causes-told n v (command.CreateBucket name locked) asked = refl
causes-told n v (command.DeleteBucket name) asked = in-bucket (of_deletion (reports_to name v.jobs.live)) (λ t. refl) (v.bucket name)
causes-told n v (command.SetVersioning name enabled) asked =
    in-bucket (of_switch enabled (reports_to name v.jobs.live)) (λ t. refl) (v.bucket name)
causes-told n v (command.SetReplication name config regions) asked =
    ap (λ o. all_told (unless_beyond (in_bucket of_configuration (v.bucket name)) o)) asked ∙ in-bucket of_configuration (λ t. refl) (v.bucket name)
causes-told n v (command.DropReplication name) asked = in-bucket of_dropping (λ t. refl) (v.bucket name)
causes-told n v (command.Put b key tags hold class body) asked = in-bucket (of_put hold) (λ t. refl) (v.bucket b)
causes-told n v (command.Marker b key) asked = in-bucket of_marker (λ t. refl) (v.bucket b)
causes-told n v (command.Remove b key id) asked = in-bucket (of_removal key id) (λ t. in-version under_hold (λ row. refl) (find_version key id t.rows))
    (v.bucket b)
causes-told n v (command.SetTags b key id tags) asked = in-bucket (of_tags key id)
    (λ t. in-version of_a_marker (λ row. refl) (find_version key id t.rows)) (v.bucket b)
causes-told n v (command.SetHold b key id hold) asked = in-bucket _ (λ t. in-version of_a_marker (λ row. refl) (find_version key id t.rows)) (v.bucket b)
causes-told n v (command.Receive from number effect) asked = absurd asked
causes-told n v (command.Settle to number outcome) asked = absurd asked
causes-told n v (command.Attempt to number) asked = absurd asked
causes-told n v (command.CreateJob spec manifest) asked = in-bucket (of_job v spec manifest)
    (λ t. in-token v.region (token_job spec.token v.jobs) _
    (in-version (of_manifest v.jobs) (λ row. refl) (find_version spec.manifest.key manifest t.rows))) (v.bucket spec.manifest.bucket)
causes-told n v (command.MoveJob job state) asked = in-job (of_move v.jobs state) (λ j. refl) (find_job job v.jobs)
causes-told n v (command.SetPriority job priority) asked = in-job of_priority (λ j. refl) (find_job job v.jobs)
causes-told n v (command.Prepare job) asked = absurd asked
causes-told n v (command.Line job line) asked = absurd asked
causes-told n v (command.Finish job body) asked = absurd asked

-- ---- what a plan comes to

abbrev settles : Reply → Bool
settles (Is reply) = may_leave reply
settles Written = true
settles Marked = true
settles Created = true

abbrev pub Leaves : ℕ → Plan → Type 0
Leaves n (Shows reply) = may_leave reply ≡ true
Leaves n (Fetches r object body) = Unit {0}
Leaves n (Commits r c reply) = MayBeAsked n c × (settles reply ≡ true)

reply-leaves : (r index : ℕ) (reply : Reply) → settles reply ≡ true → may_leave (reply_at r index reply) ≡ true
reply-leaves r index (Is reply) settled = settled
reply-leaves r index Written settled = refl
reply-leaves r index Marked settled = refl
reply-leaves r index Created settled = refl

made-leaves : (n : ℕ) (at : Histories) (p : Plan) → Leaves n p → may_leave (made_of n at p).reply ≡ true
made-leaves n at (Shows reply) leaves = leaves
made-leaves n at (Fetches r object body) leaves = refl
made-leaves n at (Commits r c reply) leaves =
    go (refusal n r (at r) c) (first-told (causes n (view r (at r)) c) (causes-told n (view r (at r)) c leaves.0))
  where
    go : (o : Option Refusal) → told_of o ≡ true → may_leave (commits_unless o (record { region = r; command = c })
        (reply_at r (length (at r) + 1) reply)).reply ≡ true
    go None t = reply-leaves r (length (at r) + 1) reply leaves.1
    go (Some why) t = t

-- ---- each request's plan

at-location : (n : ℕ) (p : BucketLocation → Plan) → ((h : BucketLocation) → Leaves n (p h)) → (o : Option BucketLocation) → Leaves n (at_location p o)
at-location n p leaves None = refl
at-location n p leaves (Some h) = leaves h

creation-leaves : (n : ℕ) (name : Name) (locked : Bool) (there : Option BucketLocation) (region : Option ℕ) → Leaves n (creation n name locked there region)
creation-leaves n name locked there None = refl
creation-leaves n name locked there (Some r) = go (nat_lt r n) (is_some there)
  where
    go : (a b : Bool) → Leaves n (cond a (cond b (refuses refusals.BucketAlreadyExists) (Commits r (command.CreateBucket name locked) (Is answer.Done)))
        (refuses refusals.InvalidLocation))
    go true true = refl
    go true false = (tt, refl)
    go false b = refl

missing-told : (version : Option VersionId) → is_told (missing version) ≡ true
missing-told None = refl
missing-told (Some id) = refl

hidden-told : (version : Option VersionId) → is_told (hidden version) ≡ true
hidden-told None = refl
hidden-told (Some id) = refl

with-object : (n : ℕ) (p : Entry → Plan) → ((row : Entry) → Leaves n (p row)) → (version : Option VersionId) (o : Option Entry)
    → Leaves n (with_object p (object_of version o))
with-object n p leaves version None = missing-told version
with-object n p leaves version (Some row) = go row.marker
  where
    go : (b : Bool) → Leaves n (with_object p (cond b (Err (hidden version)) (Ok row)))
    go true = hidden-told version
    go false = leaves row

shown-leaves : (n : ℕ) (statuses : VersionId → Option Status) (version : Option VersionId) (head : Bool) (h : BucketLocation) (o : Option Entry)
    → Leaves n (shown statuses version head h o)
shown-leaves n statuses version head h None = missing-told version
shown-leaves n statuses version head h (Some row) = go row.marker head
  where
    go : (b t : Bool) → Leaves n (cond b (Shows (answer.MarkerThere row.id (is_some version)))
        (version_shown h.region t (metadata_of h.told.locked (status_or_none (statuses row.id)) row) row))
    go true t = refl
    go false true = refl
    go false false = tt

page-leaves : (n : ℕ) (b : Bool) (reply : Answer) → may_leave reply ≡ true → Leaves n (cond b (Shows reply) (refuses refusals.NoSuchVersion))
page-leaves n true reply settled = settled
page-leaves n false reply settled = refl

removal-leaves : (n : ℕ) (h : BucketLocation) (b key : Name) (id : VersionId) (o : Option Entry) → Leaves n (removal h b key id o)
removal-leaves n h b key id None = refl
removal-leaves n h b key id (Some row) = (tt, refl)

deletion-leaves : (n : ℕ) (b key : Name) (version : Option VersionId) (h : BucketLocation) → Leaves n (deletion b key version h)
deletion-leaves n b key None h = (tt, refl)
deletion-leaves n b key (Some id) h = removal-leaves n h b key id (find_version key id h.told.rows)

tags-settle : (gone : Bool) (id : VersionId) → settles (tags_reply gone id) ≡ true
tags-settle true id = refl
tags-settle false id = refl

if-locked : (n : ℕ) (h : BucketLocation) (p : Plan) → Leaves n p → Leaves n (if_locked h p)
if-locked n h p leaves = go h.told.locked
  where
    go : (b : Bool) → Leaves n (cond b p (refuses refusals.LockNeeded))
    go true = leaves
    go false = refl

-- ---- replication

or-wrong : (k : ℕ) (o : Option Kind) (later : Option Refusal) → told_of later ≡ true → told_of (or_wrong k o later) ≡ true
or-wrong k None later settled = settled
or-wrong k (Some what) later settled = refl

wrong-told : (wrong : Rule → Option Kind) (k : ℕ) (rules : List Rule) → told_of (first_wrong wrong k rules) ≡ true
wrong-told wrong k [] = refl
wrong-told wrong k (rule ∷ rules) = or-wrong k (wrong rule) (first_wrong wrong (k + 1) rules) (wrong-told wrong (k + 1) rules)

not-taken : (at : Name → Option BucketLocation) (b : Name) (rules : List Rule) (h : BucketLocation) → told_of (not_taken at b rules h) ≡ true
not-taken at b rules h = go h.told.enabled
  where
    go : (t : Bool) → told_of (cond t (first_wrong (wrong_rule at b) 1 rules) (Some refusals.InvalidBucketState)) ≡ true
    go true = wrong-told (wrong_rule at b) 1 rules
    go false = refl

none-beyond : (n : ℕ) (at : Name → Option BucketLocation) → ((b : Name) → region_of (at b) < n) → (rules : List Rule) → beyond n (regions_of at rules) ≡ None
none-beyond n at low [] = refl
none-beyond n at low (rule ∷ rules) =
    ap (λ t. cond t (Some (region_of (at rule.bucket))) (beyond n (regions_of at rules))) (lt-leb n (region_of (at rule.bucket)) (low rule.bucket))
    ∙ none-beyond n at low rules

unless-refused : (n : ℕ) (p : Plan) (o : Option Refusal) → Leaves n p → told_of o ≡ true → Leaves n (unless_refused p o)
unless-refused n p None leaves t = leaves
unless-refused n p (Some why) leaves t = t

replication-leaves : (n : ℕ) (views : Views) (name : Name) (config : List Rule)
    → Leaves n (at_location (replication (location n views) name config) (location n views name))
replication-leaves zero views name config = refl
replication-leaves (suc m) views name config =
    at-location (suc m) _
    (λ h. unless-refused (suc m) (commits_at h (command.SetReplication name config (regions_of (location (suc m) views) config)) (Is answer.Done))
    (not_taken (location (suc m) views) name config h)
    (none-beyond (suc m) (location (suc m) views) (λ b. omega (arith, below 0 (suc m) m views b (omega arith))) config, refl)
    (not-taken (location (suc m) views) name config h))
    (location (suc m) views name)

configuration-leaves : (n : ℕ) (o : Option Replication) → Leaves n (configuration o)
configuration-leaves n None = refl
configuration-leaves n (Some r) = refl

dropping-leaves : (n : ℕ) (b : Name) (h : BucketLocation) (o : Option Replication) → Leaves n (dropping b h o)
dropping-leaves n b h None = refl
dropping-leaves n b h (Some r) = (tt, refl)

-- ---- jobs

over-manifest : (n : ℕ) (spec : JobSpec) (h : BucketLocation) → Leaves n (over_manifest spec h)
over-manifest n spec h =
    with-object n (λ row. commits_at h (command.CreateJob spec row.id) Created) (λ row. (tt, refl)) spec.manifest.version
    (sought spec.manifest.key spec.manifest.version h.told)

new-job : (n : ℕ) (at : Name → Option BucketView) (spec : JobSpec) (h : BucketLocation) → Leaves n (new_job at spec h)
new-job n at spec h = go (lacks_report at spec.report) (lacks_target at spec.operation)
  where
    go : (report target : Bool) → Leaves n (cond report (refuses (refusals.InvalidRequest 0 kind.Report))
        (cond target (refuses (refusals.InvalidRequest 0 kind.Target)) (over_manifest spec h)))
    go true target = refl
    go false true = refl
    go false false = over-manifest n spec h

job-again : (n r : ℕ) (spec : JobSpec) (job : JobFacts) → Leaves n (job_again r spec job)
job-again n r spec job = go (same_spec job.spec spec)
  where
    go : (t : Bool) → Leaves n (cond t (Shows (answer.JobMade (job_id r job.id))) (refuses (refusals.Idempotency (job_id r job.id))))
    go true = refl
    go false = refl

unless-made : (n : ℕ) (p : Plan) (r : ℕ) (spec : JobSpec) (o : Option JobFacts) → Leaves n p → Leaves n (unless_made p r spec o)
unless-made n p r spec None leaves = leaves
unless-made n p r spec (Some job) leaves = job-again n r spec job

at-job : (n : ℕ) (p : VersionId → Plan) → ((id : VersionId) → Leaves n (p id)) → (o : Option VersionId) → Leaves n (at_job n p o)
at-job n p leaves None = refl
at-job n p leaves (Some id) = go (nat_lt id.region n)
  where
    go : (t : Bool) → Leaves n (cond t (p id) (refuses refusals.NoSuchJob))
    go true = leaves id
    go false = refl

-- ---- all of them

pub plan-leaves : (n : ℕ) (v : Views) (s : VersionStatuses) (j : RegionJobs) (q : Request) → Leaves n (plan n v s j q)
plan-leaves n v s j (request.CreateBucket name region locked) = creation-leaves n name locked (location n v name) region
plan-leaves n v s j (request.HeadBucket name) = at-location n _ (λ h. refl) (location n v name)
plan-leaves n v s j (request.DeleteBucket name) = at-location n _ (λ h. (tt, refl)) (location n v name)
plan-leaves n v s j (request.PutVersioning name enabled) = at-location n _ (λ h. (tt, refl)) (location n v name)
plan-leaves n v s j (request.GetVersioning name) = at-location n _ (λ h. refl) (location n v name)
plan-leaves n v s j (request.PutReplication name config) = replication-leaves n v name config
plan-leaves n v s j (request.GetReplication name) = at-location n _ (λ h. configuration-leaves n h.told.config) (location n v name)
plan-leaves n v s j (request.DeleteReplication name) = at-location n _ (λ h. dropping-leaves n name h h.told.config) (location n v name)
plan-leaves n v s j (request.ListVersions name prefix after limit) = at-location n _ (λ h. page-leaves n (is_place_there after h.told.rows) _ refl)
    (location n v name)
plan-leaves n v s j (request.PutObject b key body tags hold class) = at-location n _ (λ h. (tt, refl)) (location n v b)
plan-leaves n v s j (request.GetObject b key version head) =
    at-location n _ (λ h. shown-leaves n (s h.region b key) version head h (sought key version h.told)) (location n v b)
plan-leaves n v s j (request.DeleteObject b key version) = at-location n _ (λ h. deletion-leaves n b key version h) (location n v b)
plan-leaves n v s j (request.PutTags b key version tags gone) =
    at-location n _ (λ h. with-object n (λ row. commits_at h (command.SetTags b key row.id tags) (tags_reply gone row.id))
    (λ row. (tt, tags-settle gone row.id)) version (sought key version h.told)) (location n v b)
plan-leaves n v s j (request.GetTags b key version) = at-location n _ (λ h. with-object n (λ row. Shows (answer.TagSet row.tags)) (λ row. refl) version
    (sought key version h.told)) (location n v b)
plan-leaves n v s j (request.PutHold b key version hold) =
    at-location n _ (λ h. if-locked n h _ (with-object n (λ row. commits_at h (command.SetHold b key row.id hold) (Is (answer.Written row.id)))
    (λ row. (tt, refl)) version (sought key version h.told))) (location n v b)
plan-leaves n v s j (request.GetHold b key version) =
    at-location n _ (λ h. if-locked n h _ (with-object n (λ row. Shows (answer.Hold row.hold)) (λ row. refl) version (sought key version h.told)))
    (location n v b)
plan-leaves n v s j (request.Copy from to) = refl
plan-leaves n v s j (request.CreateJob spec) =
    at-location n _ (λ h. unless-made n (new_job (v h.region) spec h) h.region spec (token_job spec.token (j h.region)) (new-job n (v h.region) spec h))
    (location n v spec.manifest.bucket)
plan-leaves n v s j (request.SetJobPriority id priority) = at-job n _ (λ named. (tt, refl)) id
plan-leaves n v s j (request.SetJobStatus id ready) = at-job n _ (λ named. (tt, refl)) id
plan-leaves n v s j (request.JobTurn region) = refl
plan-leaves n v s j (request.Work rounds) = refl

pub all_leave : (n : ℕ) (at : Histories) (q : Request) → may_leave (step n at q).reply ≡ true
all_leave n at q =
    made-leaves n at (plan n (views at) (statuses at) (jobs at) q) (plan-leaves n (views at) (statuses at) (jobs at) q)
