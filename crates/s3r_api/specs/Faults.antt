-- Faults of the readers below, as problems of a request.
use Rattle.std.specs.Prelude.{Result, Ok, Err}
use Rattle.s3r_routes.specs.declared.fault.RouteFault.{RouteFault}
use Rattle.s3r_routes.specs.declared.fault.RouteFault.TheVariants as route
use Rattle.s3r_json.specs.declared.fault.BodyFault.{BodyFault}
use Rattle.s3r_json.specs.declared.fault.BodyFault.TheVariants as body
use Rattle.s3r_rules.specs.declared.fault.ConfigFault.{ConfigFault}
use Rattle.s3r_rules.specs.declared.fault.ConfigFault.TheVariants as config
use Rattle.s3r_rules.specs.declared.fault.Kind.TheVariants.{BadArn}
use Rattle.s3r_jobs_json.specs.declared.fault.JobFault.{JobFault}
use Rattle.s3r_jobs_json.specs.declared.fault.JobFault.TheVariants as job
use Rattle.s3r_api.specs.declared.problem.Problem.{Problem}
use Rattle.s3r_api.specs.declared.problem.Problem.TheVariants as problem

abbrev pub of_route : RouteFault → Problem
of_route route.NoSuchRoute = problem.NoSuchRoute
of_route route.InvalidBucketName = problem.InvalidBucketName
of_route route.KeyTooLong = problem.KeyTooLong
of_route route.InvalidKey = problem.InvalidKey
of_route route.InvalidQuery = problem.InvalidQuery
of_route route.UnknownQuery = problem.UnknownQuery
of_route route.WrongMethod = problem.WrongMethod
of_route route.InvalidVersionId = problem.InvalidVersionId
of_route route.OutOfMemory = problem.OutOfMemory

abbrev pub of_body : BodyFault → Problem
of_body body.MalformedJson = problem.MalformedJson
of_body body.InvalidTag = problem.InvalidTag
of_body body.OutOfMemory = problem.OutOfMemory

abbrev pub of_config : ConfigFault → Problem
of_config config.MalformedJson = problem.MalformedJson
of_config (config.InvalidRequest rule kind) = problem.InvalidRequest rule kind
of_config config.OutOfMemory = problem.OutOfMemory

-- what is wrong of a job is at no rule
abbrev pub of_job : JobFault → Problem
of_job job.MalformedJson = problem.MalformedJson
of_job job.InvalidTag = problem.InvalidTag
of_job (job.InvalidRequest kind) = problem.InvalidRequest 0 kind
of_job job.InvalidArn = problem.InvalidRequest 0 BadArn
of_job job.InvalidVersionId = problem.InvalidVersionId
of_job job.OutOfMemory = problem.OutOfMemory

infixl 10 ◌>>=◌
abbrev pub ◌>>=◌ : {A B : Type 0} → Result A Problem → (A → Result B Problem) → Result B Problem
(Ok x) >>= f = f x
(Err problem) >>= f = Err problem

-- what a target's reader gives
abbrev pub routed : {X : Type 0} → Result X RouteFault → Result X Problem
routed (Ok x) = Ok x
routed (Err fault) = Err (of_route fault)

-- what a body's reader gives
abbrev pub from_body : {X : Type 0} → Result X BodyFault → Result X Problem
from_body (Ok x) = Ok x
from_body (Err fault) = Err (of_body fault)

-- what a configuration's reader gives
abbrev pub from_config : {X : Type 0} → Result X ConfigFault → Result X Problem
from_config (Ok x) = Ok x
from_config (Err fault) = Err (of_config fault)

-- what a job's reader gives
abbrev pub from_job : {X : Type 0} → Result X JobFault → Result X Problem
from_job (Ok x) = Ok x
from_job (Err fault) = Err (of_job fault)
