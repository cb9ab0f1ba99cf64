-- The one spelling of the fields of the commands about jobs.
use Rattle.std.specs.Prelude.{ℕ, Bool, true, false, List, [], ◌∷◌, ◌++◌, Option, Some, None}
use Rattle.std.specs.Int.{w32, to_be_bytes}
use Rattle.s3r_names.specs.declared.version.VersionId.{VersionId}
use Rattle.s3r_jobs.specs.declared.spec.JobSpec.{JobSpec}
use Rattle.s3r_jobs.specs.declared.spec.ManifestSpec.{ManifestSpec}
use Rattle.s3r_jobs.specs.declared.spec.ReportSpec.{ReportSpec}
use Rattle.s3r_jobs.specs.declared.spec.Operation.{Operation}
use Rattle.s3r_jobs.specs.declared.spec.Operation.TheVariants as operations
use Rattle.s3r_jobs.specs.declared.state.JobState.{JobState}
use Rattle.s3r_jobs.specs.declared.state.JobState.TheVariants as states
use Rattle.s3r_record.specs.Fields.{text, body, flag, tags_bytes, id_bytes, option_text}

-- whether there is one, and the id
abbrev pub option_id : Option VersionId → List ℕ
option_id None = 0 ∷ []
option_id (Some id) = 1 ∷ id_bytes id

-- whether there is one, and the body
abbrev pub option_body : Option (List ℕ) → List ℕ
option_body None = 0 ∷ []
option_body (Some bytes) = 1 ∷ body bytes

-- a byte of the kind, and the kind's own fields
abbrev pub operation_bytes : Operation → List ℕ
operation_bytes (operations.Copy target prefix) = 1 ∷ (text target ++ option_text prefix)
operation_bytes (operations.Tagging tags) = 2 ∷ tags_bytes tags
operation_bytes (operations.Hold hold) = 3 ∷ flag hold
operation_bytes operations.Replicate = 4 ∷ []

abbrev pub manifest_bytes : ManifestSpec → List ℕ
manifest_bytes manifest = flag manifest.versions ++ text manifest.bucket ++ text manifest.key ++ option_id manifest.version

abbrev pub report_bytes : ReportSpec → List ℕ
report_bytes report = text report.bucket ++ option_text report.prefix ++ flag report.all

-- whether there is one, and the report
abbrev pub option_report : Option ReportSpec → List ℕ
option_report None = 0 ∷ []
option_report (Some report) = 1 ∷ report_bytes report

abbrev pub spec_bytes : JobSpec → List ℕ
spec_bytes spec = text spec.token
    ++ to_be_bytes w32 spec.priority
    ++ flag spec.confirm
    ++ operation_bytes spec.operation
    ++ manifest_bytes spec.manifest
    ++ option_report spec.report

-- a byte of the state that a command moves a job to
abbrev pub state_byte : JobState → ℕ
state_byte states.New = 0
state_byte states.Preparing = 1
state_byte states.Suspended = 0
state_byte states.Ready = 2
state_byte states.Active = 3
state_byte states.Pausing = 4
state_byte states.Paused = 5
state_byte states.Failing = 6
state_byte states.Cancelling = 7
state_byte states.Complete = 0
state_byte states.Cancelled = 0
state_byte states.Failed = 0

-- the states that a command moves a job to; to the others it comes by what is done
abbrev pub is_moved_to : JobState → Bool
is_moved_to states.New = false
is_moved_to states.Preparing = true
is_moved_to states.Suspended = false
is_moved_to states.Ready = true
is_moved_to states.Active = true
is_moved_to states.Pausing = true
is_moved_to states.Paused = true
is_moved_to states.Failing = true
is_moved_to states.Cancelling = true
is_moved_to states.Complete = false
is_moved_to states.Cancelled = false
is_moved_to states.Failed = false
