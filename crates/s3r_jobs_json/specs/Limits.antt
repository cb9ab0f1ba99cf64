-- What may stand in a job's members, and what it asks for.
use Rattle.s3r_jobs_json.specs.Faults.{◌>>=◌}
use Rattle.std.specs.Prelude.{ℕ, nat_le, if◌then◌else◌, List, Option, Some, None, Result, Ok, Err}
use Rattle.s3r_names.specs.declared.arn.Arn.{Arn}
use Rattle.s3r_names.specs.declared.arn.Arn.TheVariants as arn
use Rattle.s3r_names.specs.Arn.{arn_of}
use Rattle.s3r_names.specs.declared.version.VersionId.{VersionId}
use Rattle.s3r_routes.specs.declared.fault.RouteFault.{RouteFault}
use Rattle.s3r_routes.specs.Names.{version_named}
use Rattle.s3r_rules.specs.declared.fault.Kind.TheVariants as kind
use Rattle.s3r_jobs.specs.declared.spec.JobSpec.{JobSpec}
use Rattle.s3r_jobs.specs.declared.spec.ManifestSpec.{ManifestSpec}
use Rattle.s3r_jobs.specs.declared.spec.Operation.{Operation}
use Rattle.s3r_jobs.specs.declared.spec.Operation.TheVariants as operations
use Rattle.s3r_jobs.specs.Rules.{is_token}
use Rattle.s3r_jobs_json.specs.declared.fault.JobFault.{JobFault}
use Rattle.s3r_jobs_json.specs.declared.fault.JobFault.TheVariants.{InvalidTag, InvalidRequest, InvalidArn, InvalidVersionId}
use Rattle.s3r_jobs_json.specs.declared.draft.Draft.{Draft}
use Rattle.s3r_jobs_json.specs.declared.draft.ManifestDraft.{ManifestDraft}
use Rattle.s3r_jobs_json.specs.declared.draft.OperationDraft.{OperationDraft}
use Rattle.s3r_jobs_json.specs.declared.draft.OperationDraft.TheVariants.{Tagging, Hold}

abbrev pub operation_from : OperationDraft → Result Operation JobFault
operation_from (Tagging None) = Err InvalidTag
operation_from (Tagging (Some tags)) = Ok (operations.Tagging tags)
operation_from (Hold hold) = Ok (operations.Hold hold)

abbrev pub token_from : List ℕ → Result (List ℕ) JobFault
token_from token = if is_token token then Ok token else Err (InvalidRequest kind.Token)

abbrev pub priority_from : Option ℕ → Result ℕ JobFault
priority_from None = Err (InvalidRequest kind.Priority)
priority_from (Some priority) = if nat_le priority 2147483647 then Ok priority else Err (InvalidRequest kind.Priority)

-- the bucket and the key of the object whose ARN it is
abbrev pub object_from : Option Arn → Result (List ℕ × List ℕ) JobFault
object_from None = Err InvalidArn
object_from (Some (arn.Bucket bucket)) = Err InvalidArn
object_from (Some (arn.Object bucket key)) = Ok (bucket, key)

abbrev pub id_from : Result VersionId RouteFault → Result (Option VersionId) JobFault
id_from (Ok id) = Ok (Some id)
id_from (Err fault) = Err InvalidVersionId

abbrev pub version_from : Option (List ℕ) → Result (Option VersionId) JobFault
version_from None = Ok None
version_from (Some text) = id_from (version_named text)

abbrev pub manifest_from : ManifestDraft → Result ManifestSpec JobFault
manifest_from draft = do
  object ← object_from (arn_of draft.arn)
  version ← version_from draft.version
  Ok (record {
    versions = draft.versions;
    bucket = object.0;
    key = object.1;
    version = version;
  })

-- what a job that is written so asks for, or what is wrong of it first
unfoldable pub spec_from : Draft → Result JobSpec JobFault
spec_from draft = do
  operation ← operation_from draft.operation
  token ← token_from draft.token
  priority ← priority_from draft.priority
  manifest ← manifest_from draft.manifest
  Ok (record {
    token = token;
    priority = priority;
    confirm = draft.confirm;
    operation = operation;
    manifest = manifest;
    report = None;
  })
