-- A new job's plan, by what its region's state tells.
use Rattle.std.proofs.Common.{◌≡◌, ◌↔◌, ℕ, Bool, true, false, cond, List, Option, Some, None, is_some, IfSome, unwrap_or, refl, sym, ◌∙◌, ap}
use Rattle.std.specs.Prelude.{IsTrue, slice_get}
use Rattle.std.specs.Option.{option_map, option_and_then}
use Rattle.std.proofs.lemmas.Bool.Decides.{same_from_decides}
use Rattle.s3r_jobs.specs.declared.spec.JobSpec.{JobSpec}
use Rattle.s3r_jobs.specs.Facts.{JobFacts}
use Rattle.s3r_jobs.specs.Jobs.{token_job}
use Rattle.s3r_jobs.specs.Same.{same_spec}
use Rattle.s3r_jobs.proofs.SameLemmas.{same-equal}
use Rattle.s3r_history.specs.declared.refusal.Refusal.TheVariants as refusals
use Rattle.s3r_region.specs.Contents.{Contents}
use Rattle.s3r_region.specs.After.{seen}
use Rattle.s3r_store.specs.declared.store.Store.{Store}
use Rattle.s3r_store.specs.Stores.{state_of}
use Rattle.s3r_desk.specs.declared.planning.Plan.{Plan}
use Rattle.s3r_desk.specs.declared.planning.Plan.TheVariants.{Shows}
use Rattle.s3r_desk.specs.declared.request.Answer.TheVariants as answer
use Rattle.s3r_desk.specs.Lookups.{told_in, views_of, jobs_in, no_jobs, jobs_of}
use Rattle.s3r_desk.specs.Steps.{BucketLocation, refuses, job_id, new_job, job_again, unless_made, job_creation}
use Rattle.s3r_desk.proofs.Locations.{job_same}

-- ---- its token

-- the job that the token made, where the code finds both to be the same
pub again_is : (r index : ℕ) (made spec : JobSpec) (t : Bool) → IsTrue t ↔ (made ≡ spec) → (job : JobFacts) → index ≡ job.id → made ≡ job.spec
    → cond t (Shows (answer.JobMade (job_id r index))) (refuses (refusals.Idempotency (job_id r index))) ≡ job_again r spec job
again_is r index made spec t same job id earlier =
    ap (λ (b : Bool). cond b (Shows (answer.JobMade (job_id r index))) (refuses (refusals.Idempotency (job_id r index))))
    (same_from_decides t (same_spec made spec) same (same-equal made spec (same_spec made spec) refl))
    ∙ ap (λ (x : JobSpec). cond (same_spec x spec) (Shows (answer.JobMade (job_id r index))) (refuses (refusals.Idempotency (job_id r index)))) earlier
    ∙ ap (λ (i : ℕ). cond (same_spec job.spec spec) (Shows (answer.JobMade (job_id r i))) (refuses (refusals.Idempotency (job_id r i)))) id

pub made_before : (planned plan : Plan) (r index : ℕ) (made spec : JobSpec) (o : Option JobFacts) → is_some o ≡ true
    → IfSome o (λ (job : JobFacts). (index ≡ job.id) × (made ≡ job.spec))
    → ((job : JobFacts) → index ≡ job.id → made ≡ job.spec → planned ≡ job_again r spec job) → planned ≡ unless_made plan r spec o
made_before planned plan r index made spec None there is again = absurd cc
made_before planned plan r index made spec (Some job) there is again = again job is.0 is.1

pub none_before : (plan : Plan) (r : ℕ) (spec : JobSpec) (o : Option JobFacts) → is_some o ≡ false → plan ≡ unless_made plan r spec o
none_before plan r spec None none = refl
none_before plan r spec (Some job) none = absurd cc

-- ---- its region

-- what the state of its region tells is what the stores tell
pub asked_is : (stores : List Store) (spec : JobSpec) (h : BucketLocation) (s : Store) (state : Contents) → slice_get stores h.region ≡ Some s
    → state_of s ≡ Some state → unless_made (new_job (seen state) spec h) h.region spec (token_job spec.token state.jobs.jobs)
    ≡ job_creation (views_of stores) (jobs_of stores) spec h
asked_is stores spec h s state get is =
    job_same (λ r. seen state) (views_of stores) (λ r. state.jobs.jobs) (jobs_of stores) spec h
    (λ b. sym (ap (option_and_then (told_in b)) get ∙ ap (option_and_then (λ (c : Contents). seen c b)) is))
    (sym (ap (λ (o : Option Store). unwrap_or (option_and_then jobs_in o) no_jobs) get
    ∙ ap (λ (o : Option Contents). unwrap_or (option_map (λ (c : Contents). c.jobs.jobs) o) no_jobs) is))
