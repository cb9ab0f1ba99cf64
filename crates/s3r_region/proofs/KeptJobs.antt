-- The jobs that a region keeps, one command after another.
use Rattle.std.proofs.Common.{◌≡◌, ℕ, ◌+◌, ◌<◌, Bool, true, false, cond, List, [], ◌∷◌, ◌++◌, map, length, find, Option, Some, None, is_some, refl, sym, ap, ap₂, ◌∙◌, arith, subst}
use Rattle.std.specs.Option.{option_or}
use Rattle.s3r_names.specs.declared.version.VersionId.{VersionId}
use Rattle.s3r_jobs.specs.declared.fault.Wanted.{Wanted}
use Rattle.s3r_jobs.specs.declared.spec.JobSpec.{JobSpec}
use Rattle.s3r_jobs.specs.Facts.{JobFacts, new_job}
use Rattle.s3r_jobs.specs.Jobs.{JobsFacts, is_job, find_job, taken, without, given_back}
use Rattle.s3r_record.specs.declared.command.Command.{Command}
use Rattle.s3r_record.specs.declared.command.Command.TheVariants as command
use Rattle.s3r_history.specs.Words.{History}
use Rattle.s3r_history.specs.Jobs.{creations, jobs, jobs_at, split}
use Rattle.s3r_history.specs.Accepts.{Cause, first_of_causes, in_job, unless}
use Rattle.s3r_history.specs.Deeds.{deeds}
use Rattle.s3r_history.proofs.Versions.{length-deeds}
use Rattle.s3r_history.proofs.JobLists.{at_job, change-one}
use Rattle.s3r_history.proofs.JobLists as lists
use Rattle.s3r_history.proofs.JobSteps.{map-snoc, jobs-rising, jobs-create}
use Rattle.s3r_region.specs.declared.region_jobs.Manifest.{Manifest}
use Rattle.s3r_region.specs.KeptJobs.{KeptJobs, manifest_of, IsAfter}

-- ---- a job that is asked for

-- the causes of a job that is kept are none where its command is accepted
pub none-of : (r : ℕ) (h : History) (old : KeptJobs) (id : ℕ) (more : JobFacts → List Cause) (job : JobFacts) → IsAfter r old h
    → find_job id old.jobs ≡ Some job → first_of_causes (in_job more (find_job id (jobs_at (deeds r h)))) ≡ None → first_of_causes (more job) ≡ None
none-of r h old id more job a found accepted =
    subst (λ (o : Option JobFacts). first_of_causes (in_job more o) ≡ None) (sym (ap (find_job id) a.0) ∙ found) accepted

-- it can do what is wanted
pub met : (may : Bool) (want : Wanted) (job : JobFacts) → first_of_causes (unless may want job) ≡ None → may ≡ true
met true want job e = refl
met false want job e = absurd cc

-- ---- one more

pub job-created : (r : ℕ) (h : History) (old new : KeptJobs) (id : ℕ) (spec : JobSpec) (version : VersionId) → id ≡ length h + 1 → IsAfter r old h
    → new.jobs ≡ record old.jobs { live = old.jobs.live ++ new_job id spec ∷ [] }
    → new.manifests ≡ old.manifests ++ record { job = id; version = version } ∷ []
    → IsAfter r new (command.CreateJob spec version ∷ h)
job-created r h old new id spec version next a is manifests = (
  is
      ∙ ap₂ (λ (js : JobsFacts) n. record js { live = js.live ++ new_job n spec ∷ [] }) a.0 place
      ∙ sym (lists.add-one (jobs (deeds r h)) (new_job (length (deeds r h) + 1) spec) refl)
      ∙ ap split (sym (jobs-create r h spec version)),
  manifests
      ∙ ap₂ (λ (ms : List Manifest) n. ms ++ record { job = n; version = version } ∷ []) a.1 place
      ∙ sym (map-snoc manifest_of (creations (deeds r h)) (record { id = length (deeds r h) + 1; spec = spec; manifest = version })),
)
  where
    place : id ≡ length (deeds r h) + 1
    place = next ∙ ap (λ n. n + 1) (sym (length-deeds r h))

-- ---- one changed

pub job-changed : (r : ℕ) (h : History) (c : Command) (old : KeptJobs) (new : JobsFacts) (id : ℕ) (f : JobFacts → JobFacts) (job after : JobFacts)
    → IsAfter r old h → ((x : JobFacts) → (f x).id ≡ x.id) → jobs (deeds r (c ∷ h)) ≡ map (at_job id f) (jobs (deeds r h))
    → creations (deeds r (c ∷ h)) ≡ creations (deeds r h) → find_job id old.jobs ≡ Some job → after ≡ f job
    → new ≡ given_back after (taken id old.jobs) → IsAfter r (record old { jobs = new }) (c ∷ h)
job-changed r h c old new id f job after a keeps changes creates found same is = (
  is
      ∙ ap₂ (λ (x : JobFacts) (js : JobsFacts). given_back x (taken id js)) same a.0
      ∙ sym (change-one id f (jobs (deeds r h)) job (jobs-rising r h) keeps (ap (find_job id) (sym a.0) ∙ found))
      ∙ ap split (sym changes),
  a.1 ∙ ap (map manifest_of) (sym creates),
)

-- the same of a command that is accepted, where the job may do what is asked
pub one-changed : (r : ℕ) (h : History) (c : Command) (old : KeptJobs) (new : JobsFacts) (id : ℕ) (f : JobFacts → JobFacts) (job after : JobFacts)
    (more : JobFacts → List Cause) (may : JobFacts → Bool) (want : Wanted)
    → IsAfter r old h → ((x : JobFacts) → (f x).id ≡ x.id) → jobs (deeds r (c ∷ h)) ≡ map (at_job id f) (jobs (deeds r h))
    → creations (deeds r (c ∷ h)) ≡ creations (deeds r h) → find_job id old.jobs ≡ Some job
    → first_of_causes (in_job more (find_job id (jobs_at (deeds r h)))) ≡ None → more job ≡ unless (may job) want job → (may job ≡ true → after ≡ f job)
    → new ≡ given_back after (taken id old.jobs) → IsAfter r (record old { jobs = new }) (c ∷ h)
one-changed r h c old new id f job after more may want a keeps changes creates found accepted asks does is =
    job-changed r h c old new id f job after a keeps changes creates found
    (does (met (may job) want job (sym (ap first_of_causes asks) ∙ none-of r h old id more job a found accepted))) is

-- its place is free meanwhile
pub taken-out : (id : ℕ) (js : JobsFacts) (job : JobFacts) → find_job id js ≡ Some job → 0 < (taken id js).out
taken-out id js job found = go (find (is_job id) js.live) (find (is_job id) js.ended) found
  where
    go : (l e : Option JobFacts) → option_or l e ≡ Some job
        → 0 < (cond (is_some l) (record js { live = without id js.live; out = js.out + 1 })
        (cond (is_some e) (record js { ended = without id js.ended; out = js.out + 1 }) js)).out
    go (Some x) e found = omega arith
    go None (Some x) found = omega arith
    go None None found = absurd cc
