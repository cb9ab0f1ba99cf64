-- What is true of requests about jobs.
use Rattle.std.proofs.Common.{if◌then◌else◌, ℕ, List, Option, Some, None, Bool, true, false, IfOk, Result, Ok, Err}
use Rattle.s3r_names.specs.declared.version.VersionId.{VersionId}
use Rattle.s3r_names.specs.Version.{IsVersionId}
use Rattle.s3r_http.specs.declared.message.RawRequest.{RawRequest}
use Rattle.s3r_jobs.specs.declared.spec.JobSpec.{JobSpec}
use Rattle.s3r_jobs.specs.Rules.{IsJobSpec}
use Rattle.s3r_jobs_json.specs.declared.fault.JobFault.{JobFault}
use Rattle.s3r_jobs_json.specs.declared.fault.JobFault.TheVariants as job
use Rattle.s3r_jobs_json.specs.Reading.{job_body}
use Rattle.s3r_routes.specs.declared.fault.RouteFault.{RouteFault}
use Rattle.s3r_routes.specs.Target.{Target}
use Rattle.s3r_routes.specs.Target as target
use Rattle.s3r_routes.specs.Names.{version_named}
use Rattle.s3r_routes.specs.Query.{Pair, value}
use Rattle.s3r_routes.specs.declared.words.Word.TheVariants as word
use Rattle.s3r_routes.proofs.Ids.{named-is}
use Rattle.s3r_desk.specs.Steps.{IsNamed}
use Rattle.s3r_api.specs.declared.problem.Problem.TheVariants as problem
use Rattle.s3r_api.specs.Problems.{IsOfRequest}
use Rattle.s3r_api.specs.Faults.{of_job, from_job}
use Rattle.s3r_api.specs.Numbers.{number_asked}
use Rattle.s3r_api.specs.Jobs.{job_request, id_or_none, job_at, priority_request, ready_by, status_request, turn_request, work_request}
use Rattle.s3r_api.proofs.JobRules.{job_lawful}
use Rattle.s3r_api.proofs.Reading.{ReadsAs, reads-bind, Any, Fits, Below, reads-number_asked}

of-job : (f : JobFault) → IsOfRequest (of_job f)
of-job job.MalformedJson = tt
of-job job.InvalidTag = tt
of-job (job.InvalidRequest kind) = tt
of-job job.InvalidArn = tt
of-job job.InvalidVersionId = tt
of-job job.OutOfMemory = tt

reads-spec : (r : Result JobSpec JobFault) → IfOk r IsJobSpec → ReadsAs IsJobSpec (from_job r)
reads-spec (Ok spec) h = h
reads-spec (Err f) h = of-job f

pub reads-job : (raw : RawRequest) → ReadsAs (Fits raw) (job_request raw)
reads-job raw = reads-bind IsJobSpec (Fits raw) (from_job (job_body raw.body)) _ (reads-spec (job_body raw.body) (job_lawful raw.body)) (λ spec is short. is)

named-id : (r : Result VersionId RouteFault) → IfOk r IsVersionId → IsNamed (id_or_none r)
named-id (Ok id) is = is
named-id (Err f) is = tt

pub named-job : (place : Target) → IsNamed (job_at place)
named-job (target.bucket name) = tt
named-job (target.object name key) = tt
named-job target.jobs = tt
named-job (target.job id) = named-id (version_named id) (named-is id)
named-job (target.job_priority id) = named-id (version_named id) (named-is id)
named-job (target.job_status id) = named-id (version_named id) (named-is id)
named-job target.copy = tt
named-job target.job_turn = tt
named-job target.work = tt
named-job target.check = tt

pub reads-priority : (raw : RawRequest) (id : Option VersionId) (words : List Pair) → IsNamed id → ReadsAs (Fits raw) (priority_request id words)
reads-priority raw id words named =
    reads-bind (Below 2147483647) (Fits raw) (number_asked 2147483647 word.Priority words) _ (reads-number_asked 2147483647 word.Priority words)
    (λ priority low short. (named, low))

reads-ready : (status : Option (List ℕ)) → ReadsAs Any (ready_by status)
reads-ready None = tt
reads-ready (Some status) = go _ _
  where
    go : (a b : Bool) → ReadsAs {X = Bool} Any (if a then Ok true else (if b then Ok false else Err problem.InvalidQuery))
    go true b = tt
    go false true = tt
    go false false = tt

pub reads-job_status : (raw : RawRequest) (id : Option VersionId) (words : List Pair) → IsNamed id → ReadsAs (Fits raw) (status_request id words)
reads-job_status raw id words named =
    reads-bind Any (Fits raw) (ready_by (value word.RequestedJobStatus words)) _ (reads-ready (value word.RequestedJobStatus words))
    (λ ready any short. named)

pub reads-turn : (raw : RawRequest) (words : List Pair) → ReadsAs (Fits raw) (turn_request words)
reads-turn raw words =
    reads-bind (Below 4294967295) (Fits raw) (number_asked 4294967295 word.Region words) _ (reads-number_asked 4294967295 word.Region words)
    (λ region low short. tt)

pub reads-work : (raw : RawRequest) (words : List Pair) → ReadsAs (Fits raw) (work_request words)
reads-work raw words =
    reads-bind (Below 100000) (Fits raw) (number_asked 100000 word.Rounds words) _ (reads-number_asked 100000 word.Rounds words)
    (λ rounds low short. tt)
