-- What a manifest's lines are, and what a line comes to.
use Rattle.std.specs.Prelude.{ℕ, ◌-◌, List, Option, Some, None, Result, Ok, Err, if◌then◌else◌, option_map, slice_get}
use Rattle.std.specs.Option.{option_and_then}
use Rattle.s3r_names.specs.declared.version.VersionId.{VersionId}
use Rattle.s3r_lines.specs.declared.object.ObjectRef.{ObjectRef}
use Rattle.s3r_jobs.specs.declared.result.Code.{Code}
use Rattle.s3r_jobs.specs.declared.result.Code.TheVariants as codes
use Rattle.s3r_jobs.specs.declared.result.FailureReason.{FailureReason}
use Rattle.s3r_jobs.specs.declared.result.FailureReason.TheVariants as reasons
use Rattle.s3r_jobs.specs.declared.result.LineResult.{LineResult}
use Rattle.s3r_jobs.specs.declared.result.LineResult.TheVariants.{Succeeded, Failed}
use Rattle.s3r_jobs.specs.declared.spec.Operation.{Operation}
use Rattle.s3r_jobs.specs.declared.spec.Operation.TheVariants as operations
use Rattle.s3r_manifest.specs.declared.fault.ManifestFault.{ManifestFault}
use Rattle.s3r_manifest.specs.declared.fault.ManifestFault.TheVariants as faults
use Rattle.s3r_manifest.specs.Lines.{manifest}
use Rattle.s3r_record.specs.declared.command.Command.{Command}
use Rattle.s3r_record.specs.declared.command.Command.TheVariants as command
use Rattle.s3r_versions.specs.Lookup.{find_version, latest}
use Rattle.s3r_history.specs.declared.creation.Creation.{Creation}
use Rattle.s3r_history.specs.Words.{Name, History}
use Rattle.s3r_history.specs.Past.{Entry, ReadLines, Past}
use Rattle.s3r_history.specs.BucketView.{BucketView, told_by}
use Rattle.s3r_history.specs.Jobs.{creation, since, lines_of}

-- ---- the lines

-- why there are no lines where the manifest is refused so; none is refused for want of memory
abbrev pub as_reason : ManifestFault → FailureReason
as_reason faults.ManifestTooLong = reasons.TooLong
as_reason (faults.BadLine number kind) = reasons.BadLine number kind
as_reason faults.TooManyLines = reasons.TooManyLines
as_reason faults.OutOfMemory = reasons.Gone

abbrev pub as_read : Result (List ObjectRef) ManifestFault → ReadLines
as_read (Ok lines) = Ok lines
as_read (Err fault) = Err (as_reason fault)

-- the lines of the version that is the manifest, where it is there
abbrev pub lines_in : Creation → Option Entry → ReadLines
lines_in c None = Err reasons.Gone
lines_in c (Some row) = as_read (manifest c.spec.manifest.versions row.body)

-- the version of this key and id, where the bucket is there and has it
abbrev pub version_in : Name → VersionId → Option BucketView → Option Entry
version_in key id at = option_and_then (λ (t : BucketView). find_version key id t.rows) at

-- the lines of a job whose manifest is read after the commands h, which did this
abbrev pub lines_after : History → Past → Creation → ReadLines
lines_after h past c = lines_in c (version_in c.spec.manifest.key c.manifest (told_by h past c.spec.manifest.bucket))

-- what a command reads, where it prepares a job that is there
abbrev pub read_by : History → Past → Command → Option ReadLines
read_by h past (command.CreateBucket name locked) = None
read_by h past (command.DeleteBucket name) = None
read_by h past (command.SetVersioning name enabled) = None
read_by h past (command.SetReplication name config regions) = None
read_by h past (command.DropReplication name) = None
read_by h past (command.Put bucket key tags hold class body) = None
read_by h past (command.Marker bucket key) = None
read_by h past (command.Remove bucket key id) = None
read_by h past (command.SetTags bucket key id tags) = None
read_by h past (command.SetHold bucket key id hold) = None
read_by h past (command.Receive from number effect) = None
read_by h past (command.Settle to number outcome) = None
read_by h past (command.Attempt to number) = None
read_by h past (command.CreateJob spec manifest) = None
read_by h past (command.MoveJob job state) = None
read_by h past (command.SetPriority job priority) = None
read_by h past (command.Prepare job) = option_map (lines_after h past) (creation past job)
read_by h past (command.Line job line) = None
read_by h past (command.Finish job body) = None

-- ---- what a line comes to

-- the object that is the latest of its key, or the code where there is none
abbrev pub latest_object : Option Entry → Result Entry Code
latest_object None = Err codes.NoSuchKey
latest_object (Some row) = if row.marker then Err codes.NoSuchKey else Ok row

-- the object of an id, or the code where there is none
abbrev pub object_of_id : Option Entry → Result Entry Code
object_of_id None = Err codes.NoSuchVersion
object_of_id (Some row) = if row.marker then Err codes.MethodNotAllowed else Ok row

-- the object that a line names: with an id that version, else the latest
abbrev pub object_named : Name → Option VersionId → List Entry → Result Entry Code
object_named key None rows = latest_object (latest key rows)
object_named key (Some id) rows = object_of_id (find_version key id rows)

-- What a line comes to: the command that does the same, or the code with which it failed. None where it waits for its result.
abbrev pub LineOutcome : Type 0
LineOutcome = Option (Result Command Code)

-- what an operation does to the object; copies and replications aren't carried out yet
abbrev pub carried_out : Operation → ObjectRef → BucketView → Entry → LineOutcome
carried_out (operations.Copy target prefix) line at row = None
carried_out (operations.Tagging tags) line at row = Some (Ok (command.SetTags line.bucket line.key row.id tags))
carried_out (operations.Hold hold) line at row = Some (if at.locked then Ok (command.SetHold line.bucket line.key row.id hold) else Err codes.LockNeeded)
carried_out operations.Replicate line at row = None

abbrev pub on_object : Operation → ObjectRef → BucketView → Result Entry Code → LineOutcome
on_object operation line at (Err code) = Some (Err code)
on_object operation line at (Ok row) = carried_out operation line at row

-- what a line comes to, of whose bucket this is told
abbrev pub line_outcome : Operation → ObjectRef → Option BucketView → LineOutcome
line_outcome operation line None = Some (Err codes.NoSuchBucket)
line_outcome operation line (Some at) = on_object operation line at (object_named line.key line.version at.rows)

-- what the line of this number of a job comes to after the commands h, which did this
abbrev pub line_after : History → Past → ℕ → Creation → LineOutcome
line_after h past line c =
    option_and_then (λ (object : ObjectRef). line_outcome c.spec.operation object (told_by h past object.bucket))
    (slice_get (lines_of (since past c.id) c) (line - 1))

-- what a command comes to as a line of a job that is there
abbrev pub outcome_of_line : History → Past → Command → LineOutcome
outcome_of_line h past (command.CreateBucket name locked) = None
outcome_of_line h past (command.DeleteBucket name) = None
outcome_of_line h past (command.SetVersioning name enabled) = None
outcome_of_line h past (command.SetReplication name config regions) = None
outcome_of_line h past (command.DropReplication name) = None
outcome_of_line h past (command.Put bucket key tags hold class body) = None
outcome_of_line h past (command.Marker bucket key) = None
outcome_of_line h past (command.Remove bucket key id) = None
outcome_of_line h past (command.SetTags bucket key id tags) = None
outcome_of_line h past (command.SetHold bucket key id hold) = None
outcome_of_line h past (command.Receive from number effect) = None
outcome_of_line h past (command.Settle to number outcome) = None
outcome_of_line h past (command.Attempt to number) = None
outcome_of_line h past (command.CreateJob spec manifest) = None
outcome_of_line h past (command.MoveJob job state) = None
outcome_of_line h past (command.SetPriority job priority) = None
outcome_of_line h past (command.Prepare job) = None
outcome_of_line h past (command.Line job line) = option_and_then (line_after h past line) (creation past job)
outcome_of_line h past (command.Finish job body) = None

-- a line that succeeds does what its command does, and every other command does what it says
abbrev pub does_by : Command → LineOutcome → Command
does_by c None = c
does_by c (Some (Ok other)) = other
does_by c (Some (Err code)) = c

abbrev pub result_by : LineOutcome → Option LineResult
result_by None = None
result_by (Some (Ok other)) = Some Succeeded
result_by (Some (Err code)) = Some (Failed code)
