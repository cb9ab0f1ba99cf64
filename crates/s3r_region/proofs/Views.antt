-- What a state tells is what its history tells.
use Rattle.std.proofs.Common.{◌≡◌, ℕ, zero, suc, ◌<◌, ◌≤◌, Bool, true, false, cond, not, ◌&&◌, ◌||◌, nat_lt, nat_le, is_some, List, [], ◌∷◌, ◌++◌, Option, Some, None, map, filter, length, refl, sym, ap, ◌∙◌, arith, ltb-true, ap₂, is_none}
use Rattle.std.specs.Prelude.{option_map}
use Rattle.std.specs.List.{list_any}
use Rattle.std.specs.Option.{option_and_then}
use Rattle.std.proofs.lemmas.Bool.Decides.{nat_tests}
use Rattle.std.proofs.lemmas.List.{get_or_past}
use Rattle.s3r_names.specs.declared.version.VersionId.{VersionId}
use Rattle.s3r_queue.specs.declared.task.Task.{Task}
use Rattle.s3r_queue.specs.declared.task.TaskState.{TaskState}
use Rattle.s3r_queue.specs.declared.task.TaskState.TheVariants as states
use Rattle.s3r_queue.specs.Tasks.{state_of, waits, first_of}
use Rattle.s3r_queue.specs.Queues.{to_region}
use Rattle.s3r_queue.specs.Received as queue
use Rattle.s3r_queue.specs.Statuses.{by_tasks, status_of}
use Rattle.s3r_record.specs.declared.command.Command.{Command}
use Rattle.s3r_record.specs.declared.command.Command.TheVariants as command
use Rattle.s3r_versions.specs.Lookup.{find_version}
use Rattle.s3r_history.specs.declared.sent.Prescribed.{Prescribed}
use Rattle.s3r_history.specs.declared.refusal.Refusal.TheVariants as refusals
use Rattle.s3r_history.specs.Words.{Name, History}
use Rattle.s3r_history.specs.Past.{Entry}
use Rattle.s3r_history.specs.Placed.{placed, prescribed}
use Rattle.s3r_history.specs.Deeds.{deeds}
use Rattle.s3r_history.specs.BucketView.{BucketView}
use Rattle.s3r_history.specs.Told.{told}
use Rattle.s3r_history.specs.Tasks.{tasks_from, placed_tasks, tasks_to}
use Rattle.s3r_history.specs.Statuses as history
use Rattle.s3r_history.specs.RegionView as told_by
use Rattle.s3r_history.specs.Statuses.{is_about, is_followed_by, last_to_each, tasks_beyond}
use Rattle.s3r_history.specs.RegionView.{view}
use Rattle.s3r_history.specs.Accepts.{Cause, causes, first_of_causes, refusal, in_bucket, of_creation, of_deletion, of_switch, beyond, unless_beyond, of_configuration, of_dropping, of_put, of_marker, of_removal, of_tags, of_hold, in_region, of_receipt, of_task}
use Rattle.s3r_history.specs.Accepts.{in_version, of_job, of_token, takes_none, lacks_report, lacks_target, of_manifest, in_job, of_move, of_priority, of_preparing, of_line, of_finish}
use Rattle.s3r_history.specs.declared.refusal.Refusal.{Refusal}
use Rattle.s3r_history.specs.Jobs.{jobs_at}
use Rattle.s3r_jobs.specs.declared.spec.JobSpec.{JobSpec}
use Rattle.s3r_jobs.specs.declared.spec.ReportSpec.{ReportSpec}
use Rattle.s3r_jobs.specs.declared.spec.Operation.{Operation}
use Rattle.s3r_jobs.specs.declared.spec.Operation.TheVariants as operations
use Rattle.s3r_jobs.specs.Jobs.{JobsFacts, find_job, token_job, reports_to}
use Rattle.s3r_rules.specs.declared.fault.Kind.TheVariants as kinds
use Rattle.s3r_history.proofs.QueueSteps.{same-first, length-placed}
use Rattle.s3r_region.specs.Contents.{Contents}
use Rattle.s3r_region.specs.After.{IsAfter, seen}
use Rattle.s3r_region.specs.Status.{decides, worse, worse_of, worst, one, row_status}
use Rattle.s3r_region.specs.Status as kept
use Rattle.s3r_region.specs.View.{status_in, seen_status, seen_next, seen_last, seen_view}

-- ---- the state that decides

any-filter : {X : Type 0} (p q : X → Bool) (xs : List X) → list_any p (filter q xs) ≡ list_any (λ x. q x && p x) xs
any-filter p q [] = refl
any-filter p q (x ∷ xs) = go (q x) (any-filter p q xs)
  where
    go : (t : Bool) → list_any p (filter q xs) ≡ list_any (λ y. q y && p y) xs → list_any p (cond t (x ∷ filter q xs) (filter q xs))
        ≡ (t && p x || list_any (λ y. q y && p y) xs)
    go true ih = ap (λ t. p x || t) ih
    go false ih = ih

filter-filter : {X : Type 0} (p q r : X → Bool) → ((x : X) → (q x && p x) ≡ r x) → (xs : List X) → filter p (filter q xs) ≡ filter r xs
filter-filter p q r same [] = refl
filter-filter p q r same (x ∷ xs) = go (q x) (p x) refl refl (filter-filter p q r same xs)
  where
    go : (t u : Bool) → q x ≡ t → p x ≡ u → filter p (filter q xs) ≡ filter r xs → filter p (cond t (x ∷ filter q xs) (filter q xs))
        ≡ cond (r x) (x ∷ filter r xs) (filter r xs)
    go true true e f ih =
        ap (λ v. cond v (x ∷ filter p (filter q xs)) (filter p (filter q xs))) f
        ∙ ap (λ ys. x ∷ ys) ih
        ∙ sym (ap (λ v. cond v (x ∷ filter r xs) (filter r xs)) (sym (same x) ∙ ap (λ v. v && p x) e ∙ f))
    go true false e f ih =
        ap (λ v. cond v (x ∷ filter p (filter q xs)) (filter p (filter q xs))) f
        ∙ ih
        ∙ sym (ap (λ v. cond v (x ∷ filter r xs) (filter r xs)) (sym (same x) ∙ ap (λ v. v && p x) e ∙ f))
    go false u e f ih = ih ∙ sym (ap (λ v. cond v (x ∷ filter r xs) (filter r xs)) (sym (same x) ∙ ap (λ v. v && p x) e))

-- the last tasks about the row are those that decide
deciding : (b : Name) (row : Entry) (ts : List (Task Prescribed)) → last_to_each (filter (is_about b row) ts) ≡ filter (decides ts b row) ts
deciding b row ts =
    filter-filter (λ t. not (list_any (is_followed_by t) (filter (is_about b row) ts))) (is_about b row) (decides ts b row)
    (λ t. ap (λ v. is_about b row t && not v) (any-filter (is_followed_by t) (is_about b row) ts)) ts

-- one state decides for two
two-or-one : (s t : TaskState) (rest : List TaskState) → by_tasks (s ∷ t ∷ rest) ≡ by_tasks (worse s t ∷ rest)
two-or-one states.Pending t rest = refl
two-or-one states.Completed states.Pending rest = refl
two-or-one states.Completed states.Completed rest = refl
two-or-one states.Completed (states.Failed reason) rest = refl
two-or-one states.Completed states.Exhausted rest = refl
two-or-one (states.Failed reason) states.Pending rest = refl
two-or-one (states.Failed reason) states.Completed rest = refl
two-or-one (states.Failed reason) (states.Failed other) rest = refl
two-or-one (states.Failed reason) states.Exhausted rest = refl
two-or-one states.Exhausted states.Pending rest = refl
two-or-one states.Exhausted states.Completed rest = refl
two-or-one states.Exhausted (states.Failed other) rest = refl
two-or-one states.Exhausted states.Exhausted rest = refl

folded : (p : Task Prescribed → Bool) (so_far : Option TaskState) (ts : List (Task Prescribed))
    → by_tasks (one so_far ++ map state_of (filter p ts)) ≡ by_tasks (one (worst p so_far ts))
folded p None [] = refl
folded p (Some s) [] = refl
folded p so_far (t ∷ ts) = go so_far (p t) (folded p so_far ts) (folded p (Some (worse_of so_far (state_of t))) ts)
  where
    go : (o : Option TaskState) (u : Bool) → by_tasks (one o ++ map state_of (filter p ts)) ≡ by_tasks (one (worst p o ts))
        → by_tasks (one (Some (worse_of o (state_of t))) ++ map state_of (filter p ts)) ≡ by_tasks (one (worst p (Some (worse_of o (state_of t))) ts))
        → by_tasks (one o ++ map state_of (cond u (t ∷ filter p ts) (filter p ts))) ≡ by_tasks (one (worst p (cond u (Some (worse_of o (state_of t))) o) ts))
    go None true same next = next
    go (Some s) true same next = two-or-one s (state_of t) (map state_of (filter p ts)) ∙ next
    go o false same next = same

status-folded : (ts : List (Task Prescribed)) (b : Name) (row : Entry)
    → status_of (is_some row.origin) (one (worst (decides ts b row) None ts)) ≡ history.status_by ts b row
status-folded ts b row = go (is_some row.origin) (sym (ap (λ xs. by_tasks (map state_of xs)) (deciding b row ts) ∙ folded (decides ts b row) None ts))
  where
    go : (t : Bool) → by_tasks (one (worst (decides ts b row) None ts)) ≡ by_tasks (map state_of (last_to_each (filter (is_about b row) ts)))
        → status_of t (one (worst (decides ts b row) None ts)) ≡ status_of t (map state_of (last_to_each (filter (is_about b row) ts)))
    go true same = refl
    go false same = same

-- ---- the tasks of a state are those of its history

pub region-tasks : (s : Contents) (h : History) → IsAfter s h → (d : ℕ) → to_region s.outbox d ≡ placed_tasks h (deeds s.region h) d
region-tasks s h a d = go (nat_lt d s.regions) refl
  where
    go : (t : Bool) → nat_lt d s.regions ≡ t → to_region s.outbox d ≡ placed_tasks h (deeds s.region h) d
    go true e = a.queues.tasks d (ltb-true d s.regions e)
    go false e =
        let le : s.regions ≤ d = grind (arith, e, nat_tests) in
        get_or_past s.outbox d [] (omega (arith, a.queues.boxes)) ∙ sym (ap (tasks_from h d 1) (a.beyond d le))

many-tasks : (s : Contents) (h : History) → IsAfter s h → (d n : ℕ) → kept.tasks_from s.outbox d n ≡ tasks_beyond h (deeds s.region h) d n
many-tasks s h a d zero = refl
many-tasks s h a d (suc n) =
    ap (λ ts. ts ++ kept.tasks_from s.outbox (suc d) n) (region-tasks s h a d)
    ∙ ap (λ ts. placed_tasks h (deeds s.region h) d ++ ts) (many-tasks s h a (suc d) n)

row-status : (s : Contents) (h : History) → IsAfter s h → (b : Name) (row : Entry) → row_status s.outbox b row ≡ history.status h (deeds s.region h) b row
row-status s h a b row =
    status-folded (kept.all_tasks s.outbox) b row ∙ ap (λ ts. history.status_by ts b row) (many-tasks s h a 0 8)

pub status-is : (s : Contents) (h : History) → IsAfter s h → (b key : Name) (id : VersionId) → seen_status s b key id ≡ (view s.region h).status b key id
status-is s h a b key id = ap (option_and_then (status_in s b key id)) (a.buckets b) ∙ go (told s.region h b)
  where
    found : (o : Option Entry) → option_map (row_status s.outbox b) o ≡ option_map (history.status h (deeds s.region h) b) o
    found None = refl
    found (Some row) = ap (λ t. Some t) (row-status s h a b row)

    go : (at : Option BucketView) → option_and_then (status_in s b key id) at ≡ option_and_then (told_by.status_in s.region h b key id) at
    go None = refl
    go (Some t) = found (find_version key id t.rows)

-- ---- refusals

next-is : (s : Contents) (h : History) → IsAfter s h → (d : ℕ) → seen_next s d ≡ (view s.region h).next d
next-is s h a d =
    ap (λ ts. cond (list_any waits ts) (first_of ts) 0) (region-tasks s h a d)
    ∙ (let same = same-first h d 1 (placed (deeds s.region h) d) (prescribed (deeds s.region h) d) (length-placed (deeds s.region h) d) in
    ap (λ t. cond t (first_of (placed_tasks h (deeds s.region h) d)) 0) same.0
    ∙ ap (λ n. cond (list_any waits (tasks_to h (deeds s.region h) d)) n 0) same.1)

-- the causes of a region that is there
in-region-same : (n r : ℕ) (more other : List Cause) → (r < n → first_of_causes more ≡ first_of_causes other)
    → first_of_causes (in_region n r more) ≡ first_of_causes (in_region n r other)
in-region-same n r more other same = go (nat_le n r) refl
  where
    go : (t : Bool) → nat_le n r ≡ t → cond t (Some (refusals.NoSuchRegion r)) (first_of_causes more)
        ≡ cond t (Some (refusals.NoSuchRegion r)) (first_of_causes other)
    go true e = refl
    go false e = same (grind (arith, e, nat_tests))

-- a report's bucket, and a copy's, are missed where the history misses them
report-same : (s : Contents) (h : History) → IsAfter s h → (report : Option ReportSpec)
    → lacks_report (seen_view s) report ≡ lacks_report (view s.region h) report
report-same s h a None = refl
report-same s h a (Some report) = ap takes_none (a.buckets report.bucket)

target-same : (s : Contents) (h : History) → IsAfter s h → (operation : Operation)
    → lacks_target (seen_view s) operation ≡ lacks_target (view s.region h) operation
target-same s h a (operations.Copy target prefix) = ap is_none (a.buckets target)
target-same s h a (operations.Tagging tags) = refl
target-same s h a (operations.Hold hold) = refl
target-same s h a operations.Replicate = refl

job-same : (s : Contents) (h : History) → IsAfter s h → (spec : JobSpec) (manifest : VersionId) (at : Option BucketView)
    → first_of_causes (in_bucket (of_job (seen_view s) spec manifest) at) ≡ first_of_causes (in_bucket (of_job (view s.region h) spec manifest) at)
job-same s h a spec manifest None = refl
job-same s h a spec manifest (Some at) =
    ap (λ (js : JobsFacts). asked js (lacks_report (seen_view s) spec.report) (lacks_target (seen_view s) spec.operation)) a.jobs.0
    ∙ ap₂ (λ report target. asked (jobs_at (deeds s.region h)) report target) (report-same s h a spec.report) (target-same s h a spec.operation)
  where
    asked : JobsFacts → Bool → Bool → Option Refusal
    asked js report target = first_of_causes (of_token s.region (token_job spec.token js)
        ((report, refusals.InvalidRequest 0 kinds.Report) ∷ (target, refusals.InvalidRequest 0 kinds.Target)
        ∷ in_version (of_manifest js) (find_version spec.manifest.key manifest at.rows)))

pub causes-same : (s : Contents) (h : History) → IsAfter s h → (c : Command)
    → first_of_causes (causes s.regions (seen_view s) c) ≡ refusal s.regions s.region h c
causes-same s h a (command.CreateBucket name locked) =
    ap (λ at. first_of_causes (of_creation at (length s.buckets))) (a.buckets name) ∙ ap (λ n. first_of_causes (of_creation (told s.region h name) n)) a.count
causes-same s h a (command.DeleteBucket name) =
    ap (λ at. first_of_causes (in_bucket (of_deletion (reports_to name s.jobs.jobs.live)) at)) (a.buckets name)
    ∙ ap (λ (js : JobsFacts). first_of_causes (in_bucket (of_deletion (reports_to name js.live)) (told s.region h name))) a.jobs.0
causes-same s h a (command.SetVersioning name enabled) =
    ap (λ at. first_of_causes (in_bucket (of_switch enabled (reports_to name s.jobs.jobs.live)) at)) (a.buckets name)
    ∙ ap (λ (js : JobsFacts). first_of_causes (in_bucket (of_switch enabled (reports_to name js.live)) (told s.region h name))) a.jobs.0
causes-same s h a (command.SetReplication name config regions) =
    ap (λ at. first_of_causes (unless_beyond (in_bucket of_configuration at) (beyond s.regions regions))) (a.buckets name)
causes-same s h a (command.DropReplication name) = ap (λ at. first_of_causes (in_bucket of_dropping at)) (a.buckets name)
causes-same s h a (command.Put b key tags hold class body) = ap (λ at. first_of_causes (in_bucket (of_put hold) at)) (a.buckets b)
causes-same s h a (command.Marker b key) = ap (λ at. first_of_causes (in_bucket of_marker at)) (a.buckets b)
causes-same s h a (command.Remove b key id) = ap (λ at. first_of_causes (in_bucket (of_removal key id) at)) (a.buckets b)
causes-same s h a (command.SetTags b key id tags) = ap (λ at. first_of_causes (in_bucket (of_tags key id) at)) (a.buckets b)
causes-same s h a (command.SetHold b key id hold) = ap (λ at. first_of_causes (in_bucket (of_hold key id) at)) (a.buckets b)
causes-same s h a (command.Receive from number effect) =
    in-region-same s.regions from (of_receipt number (seen_last s from)) (of_receipt number ((view s.region h).last from))
    (λ lt. ap (λ o. first_of_causes (of_receipt number (queue.watermark_of o))) (a.queues.last from lt))
causes-same s h a (command.Settle to number outcome) = ap (λ n. first_of_causes (in_region s.regions to (of_task number n))) (next-is s h a to)
causes-same s h a (command.Attempt to number) = ap (λ n. first_of_causes (in_region s.regions to (of_task number n))) (next-is s h a to)
causes-same s h a (command.CreateJob spec manifest) =
    job-same s h a spec manifest (seen s spec.manifest.bucket)
    ∙ ap (λ at. first_of_causes (in_bucket (of_job (view s.region h) spec manifest) at)) (a.buckets spec.manifest.bucket)
causes-same s h a (command.MoveJob job to) = ap (λ (js : JobsFacts). first_of_causes (in_job (of_move js to) (find_job job js))) a.jobs.0
causes-same s h a (command.SetPriority job priority) = ap (λ (js : JobsFacts). first_of_causes (in_job of_priority (find_job job js))) a.jobs.0
causes-same s h a (command.Prepare job) = ap (λ (js : JobsFacts). first_of_causes (in_job of_preparing (find_job job js))) a.jobs.0
causes-same s h a (command.Line job line) = ap (λ (js : JobsFacts). first_of_causes (in_job (of_line line) (find_job job js))) a.jobs.0
causes-same s h a (command.Finish job body) = ap (λ (js : JobsFacts). first_of_causes (in_job (of_finish body) (find_job job js))) a.jobs.0
