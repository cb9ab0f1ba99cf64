-- What read stores tell, by the histories of their regions.
use Rattle.std.proofs.Common.{◌≡◌, ℕ, zero, suc, ◌+◌, ◌-◌, ◌<◌, cond, bytes_eq, List, [], ◌∷◌, length, Option, Some, None, IsSome, IfSome, is_none, Bool, true, false, unwrap_or, refl, sym, ◌∙◌, ap, ap₂, subst, arith}
use Rattle.std.specs.Prelude.{slice_get}
use Rattle.std.specs.Option.{option_map, option_and_then}
use Rattle.s3r_world.specs.Outside.{Outside}
use Rattle.s3r_jobs.specs.declared.spec.JobSpec.{JobSpec}
use Rattle.s3r_jobs.specs.declared.spec.ReportSpec.{ReportSpec}
use Rattle.s3r_jobs.specs.declared.spec.Operation.{Operation}
use Rattle.s3r_jobs.specs.declared.spec.Operation.TheVariants as operations
use Rattle.s3r_jobs.specs.Jobs.{JobsFacts, token_job}
use Rattle.s3r_rules.specs.declared.rule.Rule.{Rule}
use Rattle.s3r_rules.specs.declared.fault.Kind.TheVariants as kind
use Rattle.s3r_record.specs.declared.command.Command.TheVariants as command
use Rattle.s3r_names.specs.declared.outcome.Status.{Status}
use Rattle.s3r_names.specs.declared.version.VersionId.{VersionId}
use Rattle.s3r_history.specs.declared.refusal.Refusal.TheVariants as refusals
use Rattle.s3r_history.specs.Words.{Name, History}
use Rattle.s3r_history.specs.Past.{Entry}
use Rattle.s3r_history.specs.BucketView.{BucketView}
use Rattle.s3r_versions.specs.declared.listing.ListPosition.{ListPosition}
use Rattle.s3r_versions.specs.Listing.{is_place_there, listing}
use Rattle.s3r_history.specs.RegionView.{view}
use Rattle.s3r_history.specs.Told.{told}
use Rattle.s3r_history.specs.Deeds.{deeds}
use Rattle.s3r_history.specs.Jobs.{jobs_at}
use Rattle.s3r_history.specs.Accepts.{takes_none}
use Rattle.s3r_region.specs.Contents.{Contents}
use Rattle.s3r_region.specs.After.{seen, seen_bucket, told_by}
use Rattle.s3r_store.specs.declared.loaded_region.LoadedRegion.{LoadedRegion}
use Rattle.s3r_store.specs.declared.store.Store.{Store}
use Rattle.s3r_store.specs.Knows.{Knows}
use Rattle.s3r_store.specs.Stores.{state_of}
use Rattle.s3r_desk.specs.declared.request.Request.{Request}
use Rattle.s3r_desk.specs.declared.request.Request.TheVariants as request
use Rattle.s3r_desk.specs.declared.request.Answer.TheVariants as answer
use Rattle.s3r_desk.specs.declared.planning.Plan.{Plan}
use Rattle.s3r_desk.specs.declared.planning.Plan.TheVariants.{Shows, Commits}
use Rattle.s3r_desk.specs.declared.planning.Reply.TheVariants.{Is}
use Rattle.s3r_desk.specs.Events.{Events, known, history_at}
use Rattle.s3r_desk.specs.Keeping.{IsHeld, Keeps, AreRead}
use Rattle.s3r_region.specs.View.{seen_status}
use Rattle.s3r_region.proofs.Views.{status-is}
use Rattle.s3r_versions.specs.declared.listing.Listed.{Listed}
use Rattle.s3r_desk.specs.Lookups.{bucket_in, told_in, views_of, status_in, statuses_of, jobs_in, no_jobs, jobs_of}
use Rattle.s3r_desk.specs.Steps as asked
use Rattle.s3r_desk.specs.Steps.{BucketLocation, Views, VersionStatuses, RegionJobs, refuses, sought, status_or_none, listed, page, object_shown, shown, object_asked, statuses, or_location, location_from, location, at_location, or_wrong, kind_there, wrong_rule, first_wrong, not_taken, region_of, regions_of, unless_refused, replication, lacks_report, lacks_target, over_manifest, new_job, unless_made, job_creation, plan, views, jobs, made_of, step}
use Rattle.s3r_desk.specs.Responds.{IsBelow, AreKnown}

-- ---- one store

none_within : {X : Type 0} (xs : List X) (r : ℕ) → r < length xs → slice_get xs r ≡ None → ⊥
none_within [] r lt e = omega (arith, lt)
none_within {X} (x ∷ xs) zero lt e = cc
none_within {X} (x ∷ xs) (suc r) lt e = none_within xs r (omega (arith, lt)) e

module _ (events : Events) (stores : List Store) (w : Outside) (keeps : Keeps events stores w) (read : AreRead stores) where
  held_at : (n r : ℕ) (o : Option LoadedRegion) → IsHeld n events r o w → IsSome o → (held : LoadedRegion) × (o ≡ Some held)
      × Knows n r held (history_at events r) w
  held_at n r None held some = absurd cc
  held_at n r (Some held) is some = (held, refl, subst (λ (h : History). Knows n r held h w) (sym (ap (λ (o : Option History). unwrap_or o []) is.1)) is.2)

  pub known_at : (r : ℕ) (s : Store) → slice_get stores r ≡ Some s → (held : LoadedRegion) × (s.held ≡ Some held)
      × Knows s.regions r held (history_at events r) w
  known_at r s get = held_at s.regions r s.held (keeps r s get) (read r s get)

  told_is : (b : Name) (r : ℕ) (s : Store) → slice_get stores r ≡ Some s → told_in b s ≡ told r (history_at events r) b
  told_is b r s get =
      let at = known_at r s get in
      ap (λ (o : Option LoadedRegion). option_and_then (λ (state : Contents). seen state b) (option_map (λ (held : LoadedRegion). held.state) o)) at.1
      ∙ at.2.after.buckets b
      ∙ ap (λ (m : ℕ). told m (history_at events r) b) at.2.region

  -- what the stores tell is what the histories tell
  pub views_are : (b : Name) (r : ℕ) → r < length stores → views_of stores r b ≡ views (history_at events) r b
  views_are b r lt = go (slice_get stores r) refl
    where
      go : (o : Option Store) → slice_get stores r ≡ o → option_and_then (told_in b) o ≡ told r (history_at events r) b
      go None e = absurd (none_within stores r lt e)
      go (Some s) e = told_is b r s e

  status_is : (b key : Name) (id : VersionId) (r : ℕ) (s : Store) → slice_get stores r ≡ Some s
      → status_in b key id s ≡ (view r (history_at events r)).status b key id
  status_is b key id r s get =
      let at = known_at r s get in
      ap (λ (o : Option LoadedRegion). option_and_then (λ (state : Contents). seen_status state b key id) (option_map (λ
      (held : LoadedRegion). held.state) o)) at.1
      ∙ status-is at.0.state (history_at events r) at.2.after b key id
      ∙ ap (λ (m : ℕ). (view m (history_at events r)).status b key id) at.2.region

  -- and so it is of versions
  pub statuses_are : (b key : Name) (id : VersionId) (r : ℕ) → r < length stores → statuses_of stores r b key id ≡ statuses (history_at events) r b key id
  statuses_are b key id r lt = go (slice_get stores r) refl
    where
      go : (o : Option Store) → slice_get stores r ≡ o → option_and_then (status_in b key id) o ≡ (view r (history_at events r)).status b key id
      go None e = absurd (none_within stores r lt e)
      go (Some s) e = status_is b key id r s e

  jobs_is : (r : ℕ) (s : Store) → slice_get stores r ≡ Some s → jobs_in s ≡ Some (jobs_at (deeds r (history_at events r)))
  jobs_is r s get =
      let at = known_at r s get in
      ap (λ (o : Option LoadedRegion). option_map (λ (state : Contents). state.jobs.jobs) (option_map (λ (held : LoadedRegion). held.state) o)) at.1
      ∙ ap Some at.2.after.jobs.0
      ∙ ap (λ (m : ℕ). Some (jobs_at (deeds m (history_at events r)))) at.2.region

  -- and of jobs
  pub jobs_are : (r : ℕ) → r < length stores → jobs_of stores r ≡ jobs (history_at events) r
  jobs_are r lt = go (slice_get stores r) refl
    where
      go : (o : Option Store) → slice_get stores r ≡ o → unwrap_or (option_and_then jobs_in o) no_jobs ≡ jobs_at (deeds r (history_at events r))
      go None e = absurd (none_within stores r lt e)
      go (Some s) e = ap (λ (o : Option JobsFacts). unwrap_or o no_jobs) (jobs_is r s e)

-- ---- one plan

home_from_same : (r n m : ℕ) (v u : Views) (b : Name) → r + n ≡ m → ((q : ℕ) → q < m → v q b ≡ u q b) → location_from r n v b ≡ location_from r n u b
home_from_same r zero m v u b all same = refl
home_from_same r (suc n) m v u b all same =
    ap (λ (t : _). or_location r t (location_from (r + 1) n v b)) (same r (omega (arith, all)))
    ∙ ap (or_location r (u r b)) (home_from_same (r + 1) n m v u b (omega (arith, all)) same)

pub home_same : (n : ℕ) (v u : Views) (b : Name) → ((r : ℕ) → r < n → v r b ≡ u r b) → location n v b ≡ location n u b
home_same n v u b same = home_from_same 0 n n v u b (omega arith) same

at_home_same : (p q : BucketLocation → Plan) → ((h : BucketLocation) → p h ≡ q h) → (o : Option BucketLocation) → at_location p o ≡ at_location q o
at_home_same p q same None = refl
at_home_same p q same (Some h) = same h

-- a bucket's region is one of so many
home_from_within : (r n m : ℕ) (v : Views) (b : Name) → r + n ≡ m → IfSome (location_from r n v b) (λ h. h.region < m)
home_from_within r zero m v b all = tt
home_from_within r (suc n) m v b all = go (v r b) (home_from_within (r + 1) n m v b (omega (arith, all)))
  where
    go : (o : Option BucketView) → IfSome (location_from (r + 1) n v b) (λ h. h.region < m)
        → IfSome (or_location r o (location_from (r + 1) n v b)) (λ h. h.region < m)
    go None later = later
    go (Some t) later = omega (arith, all)

at_home_within : (n : ℕ) (p q : BucketLocation → Plan) → ((h : BucketLocation) → h.region < n → p h ≡ q h) → (o : Option BucketLocation)
    → IfSome o (λ h. h.region < n) → at_location p o ≡ at_location q o
at_home_within n p q same None within = refl
at_home_within n p q same (Some h) within = same h within

statuses-same : (s t : Name → VersionId → Option Status) → ((key : Name) (id : VersionId) → s key id ≡ t key id) → (entries : List Listed)
    → asked.statuses_of s entries ≡ asked.statuses_of t entries
statuses-same s t same [] = refl
statuses-same s t same (entry ∷ entries) =
    ap (λ o. status_or_none o ∷ asked.statuses_of s entries) (same entry.key entry.id)
    ∙ ap (λ xs. status_or_none (t entry.key entry.id) ∷ xs) (statuses-same s t same entries)

page-same : (s t : Name → VersionId → Option Status) → ((key : Name) (id : VersionId) → s key id ≡ t key id)
    → (prefix : List ℕ) (after : Option ListPosition) (limit : ℕ)
    (at : BucketView) → page s prefix after limit at ≡ page t prefix after limit at
page-same s t same prefix after limit at = go (is_place_there after at.rows)
  where
    go : (u : _) → cond u (listed s (listing prefix after limit at.rows)) (refuses refusals.NoSuchVersion)
        ≡ cond u (listed t (listing prefix after limit at.rows)) (refuses refusals.NoSuchVersion)
    go true = ap (λ xs. Shows (answer.Listing (listing prefix after limit at.rows) xs)) (statuses-same s t same (listing prefix after limit at.rows).entries)
    go false = refl

shown-same : (s t : VersionId → Option Status) → ((id : VersionId) → s id ≡ t id)
    → (version : Option VersionId) (head : _) (h : BucketLocation) (o : Option Entry)
    → shown s version head h o ≡ shown t version head h o
shown-same s t same version head h None = refl
shown-same s t same version head h (Some row) = ap (λ x. object_shown h.region version head h.told.locked (status_or_none x) row) (same row.id)

-- a configuration's plan asks only where its destinations are, and what is told of them there
module _ (at by : Name → Option BucketLocation) (b : Name) (same : (name : Name) → at name ≡ by name) where
  wrong_same : (k : ℕ) (rules : List Rule) → first_wrong (wrong_rule at b) k rules ≡ first_wrong (wrong_rule by b) k rules
  wrong_same k [] = refl
  wrong_same k (rule ∷ rules) =
      ap (λ o. or_wrong k (cond (bytes_eq rule.bucket b) (Some kind.SameBucket) (kind_there o)) (first_wrong (wrong_rule at b) (k + 1) rules))
      (same rule.bucket)
      ∙ ap (or_wrong k (wrong_rule by b rule)) (wrong_same (k + 1) rules)

  regions_same : (rules : List Rule) → regions_of at rules ≡ regions_of by rules
  regions_same [] = refl
  regions_same (rule ∷ rules) = ap (λ o. region_of o ∷ regions_of at rules) (same rule.bucket) ∙ ap (λ rs. region_of (by rule.bucket) ∷ rs) (regions_same rules)

replication_same : (at by : Name → Option BucketLocation) (b : Name) (rules : List Rule) → ((name : Name) → at name ≡ by name) → (h : BucketLocation)
    → replication at b rules h ≡ replication by b rules h
replication_same at by b rules same h =
    ap (λ rs. unless_refused (Commits h.region (command.SetReplication b rules rs) (Is answer.Done)) (not_taken at b rules h)) (regions_same at by b same rules)
    ∙ ap (λ o. unless_refused (Commits h.region (command.SetReplication b rules (regions_of by rules)) (Is answer.Done))
    (cond h.told.enabled o (Some refusals.InvalidBucketState))) (wrong_same at by b same 1 rules)

-- a new job's plan asks only what its region tells of buckets and jobs
module _ (v u : Name → Option BucketView) (same : (b : Name) → v b ≡ u b) where
  report_same : (o : Option ReportSpec) → lacks_report v o ≡ lacks_report u o
  report_same None = refl
  report_same (Some report) = ap takes_none (same report.bucket)

  target_same : (operation : Operation) → lacks_target v operation ≡ lacks_target u operation
  target_same (operations.Copy target prefix) = ap is_none (same target)
  target_same (operations.Tagging tags) = refl
  target_same (operations.Hold hold) = refl
  target_same operations.Replicate = refl

  new_job_same : (spec : JobSpec) (h : BucketLocation) → new_job v spec h ≡ new_job u spec h
  new_job_same spec h = ap₂ (λ (report target : Bool). cond report (refuses (refusals.InvalidRequest 0 kind.Report))
      (cond target (refuses (refusals.InvalidRequest 0 kind.Target)) (over_manifest spec h))) (report_same spec.report) (target_same spec.operation)

pub job_same : (v u : Views) (i j : RegionJobs) (spec : JobSpec) (h : BucketLocation) → ((b : Name) → v h.region b ≡ u h.region b)
    → i h.region ≡ j h.region → job_creation v i spec h ≡ job_creation u j spec h
job_same v u i j spec h same known =
    ap (λ (js : JobsFacts). unless_made (new_job (v h.region) spec h) h.region spec (token_job spec.token js)) known
    ∙ ap (λ (p : Plan). unless_made p h.region spec (token_job spec.token (j h.region))) (new_job_same (v h.region) (u h.region) same spec h)

-- a request's plan asks only where its bucket is, and what is told of it and of jobs there
pub plan_same : (n : ℕ) (v u : Views) (s t : VersionStatuses) (i j : RegionJobs) (q : Request) → ((b : Name) (r : ℕ) → r < n → v r b ≡ u r b)
    → ((b key : Name) (id : VersionId) (r : ℕ) → r < n → s r b key id ≡ t r b key id) → ((r : ℕ) → r < n → i r ≡ j r) → plan n v s i q ≡ plan n u t j q
plan_same n v u s t i j (request.CreateBucket name region locked) same alike known = rw (home_same n v u name (same name)) refl
plan_same n v u s t i j (request.HeadBucket name) same alike known = rw (home_same n v u name (same name)) refl
plan_same n v u s t i j (request.DeleteBucket name) same alike known = rw (home_same n v u name (same name)) refl
plan_same n v u s t i j (request.PutVersioning name enabled) same alike known = rw (home_same n v u name (same name)) refl
plan_same n v u s t i j (request.GetVersioning name) same alike known = rw (home_same n v u name (same name)) refl
plan_same n v u s t i j (request.PutReplication name config) same alike known =
    let locations : (b : Name) → location n v b ≡ location n u b = λ b. home_same n v u b (same b) in
    ap (at_location (replication (location n v) name config)) (locations name)
    ∙ at_home_same (replication (location n v) name config) (replication (location n u) name config)
    (replication_same (location n v) (location n u) name config locations) (location n u name)
plan_same n v u s t i j (request.GetReplication name) same alike known = rw (home_same n v u name (same name)) refl
plan_same n v u s t i j (request.DeleteReplication name) same alike known = rw (home_same n v u name (same name)) refl
plan_same n v u s t i j (request.ListVersions name prefix after limit) same alike known =
    ap (at_location (λ h. page (s h.region name) prefix after limit h.told)) (home_same n v u name (same name))
    ∙ at_home_within n (λ h. page (s h.region name) prefix after limit h.told) (λ h. page (t h.region name) prefix after limit h.told)
    (λ h lt. page-same (s h.region name) (t h.region name) (λ key id. alike name key id h.region lt) prefix after limit h.told)
    (location n u name) (home_from_within 0 n n u name (omega arith))
plan_same n v u s t i j (request.PutObject b key body tags hold class) same alike known = rw (home_same n v u b (same b)) refl
plan_same n v u s t i j (request.GetObject b key version head) same alike known =
    ap (at_location (object_asked s b key version head)) (home_same n v u b (same b))
    ∙ at_home_within n (object_asked s b key version head) (object_asked t b key version head)
    (λ h lt. shown-same (s h.region b key) (t h.region b key) (λ id. alike b key id h.region lt) version head h (sought key version h.told))
    (location n u b) (home_from_within 0 n n u b (omega arith))
plan_same n v u s t i j (request.DeleteObject b key version) same alike known = rw (home_same n v u b (same b)) refl
plan_same n v u s t i j (request.PutTags b key version tags gone) same alike known = rw (home_same n v u b (same b)) refl
plan_same n v u s t i j (request.GetTags b key version) same alike known = rw (home_same n v u b (same b)) refl
plan_same n v u s t i j (request.PutHold b key version hold) same alike known = rw (home_same n v u b (same b)) refl
plan_same n v u s t i j (request.GetHold b key version) same alike known = rw (home_same n v u b (same b)) refl
plan_same n v u s t i j (request.Copy from to) same alike known = refl
plan_same n v u s t i j (request.CreateJob spec) same alike known =
    let b = spec.manifest.bucket in
    ap (at_location (job_creation v i spec)) (home_same n v u b (same b))
    ∙ at_home_within n (job_creation v i spec) (job_creation u j spec)
    (λ h lt. job_same v u i j spec h (λ name. same name h.region lt) (known h.region lt))
    (location n u b) (home_from_within 0 n n u b (omega arith))
plan_same n v u s t i j (request.SetJobPriority id priority) same alike known = refl
plan_same n v u s t i j (request.SetJobStatus id ready) same alike known = refl
plan_same n v u s t i j (request.JobTurn region) same alike known = refl
plan_same n v u s t i j (request.Work rounds) same alike known = refl

-- ---- each region is known

pub all_known : (events : Events) (stores : List Store) (w : Outside) → Keeps events stores w → AreRead stores → AreKnown (IsBelow (length stores)) events
all_known events stores w keeps read r lt = go (slice_get stores r) refl
  where
    held : (n : ℕ) (o : Option LoadedRegion) → IsHeld n events r o w → IsSome o → IsSome (known events r)
    held n None was some = absurd cc
    held n (Some x) was some = subst (λ (o : Option History). IsSome o) (sym was.1) refl

    go : (o : Option Store) → slice_get stores r ≡ o → IsSome (known events r)
    go None e = absurd (none_within stores r lt e)
    go (Some s) e = held s.regions s.held (keeps r s e) (read r s e)

history_of : (o : Option History) → IsSome o → o ≡ Some (unwrap_or o [])
history_of None some = absurd cc
history_of (Some h) some = refl

-- so its history is known
pub known_here : (events : Events) (stores : List Store) (w : Outside) → Keeps events stores w → AreRead stores → (r : ℕ) → r < length stores
    → known events r ≡ Some (history_at events r)
known_here events stores w keeps read r lt = history_of (known events r) (all_known events stores w keeps read r lt)

-- the step that a plan over the stores makes
pub step_is : (events : Events) (stores : List Store) (w : Outside) → Keeps events stores w → AreRead stores → (q : Request)
    → step (length stores) (history_at events) q
    ≡ made_of (length stores) (history_at events) (plan (length stores) (views_of stores) (statuses_of stores) (jobs_of stores) q)
step_is events stores w keeps read q =
    ap (made_of (length stores) (history_at events)) (sym (plan_same (length stores) (views_of stores) (views (history_at events)) (statuses_of stores)
    (statuses (history_at events)) (jobs_of stores) (jobs (history_at events)) q (λ b r lt. views_are events stores w keeps read b r lt)
    (λ b key id r lt. statuses_are events stores w keeps read b key id r lt) (λ r lt. jobs_are events stores w keeps read r lt)))

-- what is told of a bucket is told by its region
module _ (v : Views) (b : Name) where
  told_there : (r n : ℕ) → IfSome (location_from r n v b) (λ h. v h.region b ≡ Some h.told)
  told_there r zero = tt
  told_there r (suc n) = go (v r b) refl (told_there (r + 1) n)
    where
      go : (o : Option BucketView) → v r b ≡ o → IfSome (location_from (r + 1) n v b) (λ h. v h.region b ≡ Some h.told)
          → IfSome (or_location r o (location_from (r + 1) n v b)) (λ h. v h.region b ≡ Some h.told)
      go None e later = later
      go (Some t) e later = e

-- so its region was read
pub read_there : (stores : List Store) (b : Name) (h : BucketLocation) (s : Store) → location (length stores) (views_of stores) b ≡ Some h
    → slice_get stores h.region ≡ Some s → IsSome (state_of s)
read_there stores b h s at get =
    go (state_of s) (sym (ap (option_and_then (told_in b)) get) ∙ subst (λ (o : Option BucketLocation). IfSome o (λ (x : BucketLocation).
    views_of stores x.region b ≡ Some x.told)) at (told_there (views_of stores) b 0 (length stores)))
  where
    go : (o : Option Contents) → option_and_then (λ (state : Contents). seen state b) o ≡ Some h.told → IsSome o
    go None e = absurd cc
    go (Some state) e = refl

-- a region that doesn't have the bucket is passed over
pub home_on : (n r : ℕ) (v : Views) (b : Name) (h : Option BucketLocation) → r < n → v r b ≡ None → location_from r (n - r) v b ≡ h
    → location_from (r + 1) (n - (r + 1)) v b ≡ h
home_on n r v b h lt none at =
    let one : n - r ≡ suc (n - (r + 1)) = omega arith in
    sym (ap (λ t. or_location r t (location_from (r + 1) (n - (r + 1)) v b)) none) ∙ sym (ap (λ k. location_from r k v b) one) ∙ at

-- a store that doesn't show a bucket tells nothing of it
pub untold : (b : Name) (s : Store) → bucket_in b s ≡ None → told_in b s ≡ None
untold b s none = go (state_of s) none
  where
    go : (o : Option Contents) → option_and_then (λ (state : Contents). seen_bucket state b) o ≡ None
        → option_and_then (λ (state : Contents). seen state b) o ≡ None
    go None e = refl
    go (Some state) e = ap (option_map told_by) e
