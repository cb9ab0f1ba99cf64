-- What is asked of jobs.
use Rattle.std.specs.Prelude.{ℕ, Bool, true, false, if◌then◌else◌, List, Option, Some, None, Result, Ok, Err, codes}
use Rattle.std.specs.Str.{bytes_eq}
use Rattle.s3r_names.specs.declared.version.VersionId.{VersionId}
use Rattle.s3r_http.specs.declared.message.RawRequest.{RawRequest}
use Rattle.s3r_jobs_json.specs.Reading.{job_body}
use Rattle.s3r_routes.specs.Target.{Target, bucket, object, jobs, job, job_priority, job_status, copy, job_turn, work, check}
use Rattle.s3r_routes.specs.Query.{Pair, value}
use Rattle.s3r_routes.specs.Names.{version_named}
use Rattle.s3r_routes.specs.declared.fault.RouteFault.{RouteFault}
use Rattle.s3r_routes.specs.declared.words.Word.TheVariants as word
use Rattle.s3r_desk.specs.declared.request.Request.{Request}
use Rattle.s3r_desk.specs.declared.request.Request.TheVariants as request
use Rattle.s3r_api.specs.declared.problem.Problem.{Problem}
use Rattle.s3r_api.specs.declared.problem.Problem.TheVariants.{InvalidQuery}
use Rattle.s3r_api.specs.Faults.{◌>>=◌, from_job}
use Rattle.s3r_api.specs.Numbers.{number_asked}

-- the job that the body describes
abbrev pub job_request : RawRequest → Result Request Problem
job_request raw = from_job (job_body raw.body) >>= λ spec. Ok (request.CreateJob spec)

abbrev pub id_or_none : Result VersionId RouteFault → Option VersionId
id_or_none (Ok id) = Some id
id_or_none (Err fault) = None

-- None where what is written isn't of an id's form, or no job is named
abbrev pub job_at : Target → Option VersionId
job_at (bucket name) = None
job_at (object name key) = None
job_at jobs = None
job_at (job id) = id_or_none (version_named id)
job_at (job_priority id) = id_or_none (version_named id)
job_at (job_status id) = id_or_none (version_named id)
job_at copy = None
job_at job_turn = None
job_at work = None
job_at check = None

abbrev pub priority_request : Option VersionId → List Pair → Result Request Problem
priority_request id words = number_asked 2147483647 word.Priority words >>= λ priority. Ok (request.SetJobPriority id priority)

abbrev pub ready_by : Option (List ℕ) → Result Bool Problem
ready_by None = Err InvalidQuery
ready_by (Some status) = if bytes_eq status (codes "Ready") then Ok true else (if bytes_eq status (codes "Cancelled") then Ok false else Err InvalidQuery)

abbrev pub status_request : Option VersionId → List Pair → Result Request Problem
status_request id words = ready_by (value word.RequestedJobStatus words) >>= λ ready. Ok (request.SetJobStatus id ready)

-- Whether there is such a region isn't asked here.
abbrev pub turn_request : List Pair → Result Request Problem
turn_request words = number_asked 4294967295 word.Region words >>= λ region. Ok (request.JobTurn region)

-- so many rounds of turns
abbrev pub work_request : List Pair → Result Request Problem
work_request words = number_asked 100000 word.Rounds words >>= λ rounds. Ok (request.Work rounds)
