-- Reading the fields of the commands about jobs.
use Rattle.std.specs.Prelude.{ℕ, Bool, true, false, List, Option, Some, None, Result, Ok, Err, ◌==◌, ◌&&◌, nat_le, if◌then◌else◌}
use Rattle.std.specs.Int.{w16, w32}
use Rattle.s3r_names.specs.Bucket.{is_bucket_name}
use Rattle.s3r_names.specs.Key.{is_key}
use Rattle.s3r_names.specs.declared.version.VersionId.{VersionId}
use Rattle.s3r_jobs.specs.Rules.{is_token, is_prefix}
use Rattle.s3r_jobs.specs.declared.spec.JobSpec.{JobSpec}
use Rattle.s3r_jobs.specs.declared.spec.ManifestSpec.{ManifestSpec}
use Rattle.s3r_jobs.specs.declared.spec.ReportSpec.{ReportSpec}
use Rattle.s3r_jobs.specs.declared.spec.Operation.{Operation}
use Rattle.s3r_jobs.specs.declared.spec.Operation.TheVariants as operations
use Rattle.s3r_jobs.specs.declared.state.JobState.{JobState}
use Rattle.s3r_jobs.specs.declared.state.JobState.TheVariants as states
use Rattle.s3r_record.specs.declared.tag_rule.TagRule.TheVariants as allowed
use Rattle.s3r_record.specs.Reading.{◌>>=◌, Unread, place, number_at, byte_at, flag_at, tested_at, is_body}
use Rattle.s3r_record.specs.ReadingTags.{tags_at}
use Rattle.s3r_record.specs.ReadingIds.{id_at}

-- a number of four bytes that is neither less nor more
unfoldable pub number_within : ℕ → ℕ → Unread → Result (ℕ × Unread) ℕ
number_within least most left = do
  number ← number_at w32 left
  if nat_le least number.0 && nat_le number.0 most then Ok number else Err (place left)

abbrev pub id_if : Bool → Unread → Result (Option VersionId × Unread) ℕ
id_if false left = Ok (None, left)
id_if true left = do
  id ← id_at left
  Ok (Some id.0, id.1)

-- a flag, and an id where it is set
unfoldable pub option_id_at : Unread → Result (Option VersionId × Unread) ℕ
option_id_at left = do
  given ← flag_at left
  id_if given.0 given.1

abbrev pub prefix_if : ℕ → Bool → Unread → Result (Option (List ℕ) × Unread) ℕ
prefix_if most false left = Ok (None, left)
prefix_if most true left = do
  prefix ← tested_at w16 (is_prefix most) left
  Ok (Some prefix.0, prefix.1)

-- a flag, and where it is set a prefix of at most so many bytes
unfoldable pub option_prefix_at : ℕ → Unread → Result (Option (List ℕ) × Unread) ℕ
option_prefix_at most left = do
  given ← flag_at left
  prefix_if most given.0 given.1

abbrev pub body_if : Bool → Unread → Result (Option (List ℕ) × Unread) ℕ
body_if false left = Ok (None, left)
body_if true left = do
  body ← tested_at w32 (is_body 15582912) left
  Ok (Some body.0, body.1)

-- a flag, and a body where it is set
unfoldable pub option_body_at : Unread → Result (Option (List ℕ) × Unread) ℕ
option_body_at left = do
  given ← flag_at left
  body_if given.0 given.1

unfoldable pub copy_at : Unread → Result (Operation × Unread) ℕ
copy_at left = do
  target ← tested_at w16 is_bucket_name left
  prefix ← option_prefix_at 1024 target.1
  Ok (operations.Copy target.0 prefix.0, prefix.1)

unfoldable pub tagging_at : Unread → Result (Operation × Unread) ℕ
tagging_at left = do
  tags ← tags_at allowed.Lawful left
  Ok (operations.Tagging tags.0, tags.1)

unfoldable pub hold_at : Unread → Result (Operation × Unread) ℕ
hold_at left = do
  hold ← flag_at left
  Ok (operations.Hold hold.0, hold.1)

-- what the byte at that place says, and the fields behind it
unfoldable pub operation_of : ℕ → ℕ → Unread → Result (Operation × Unread) ℕ
operation_of at byte left =
    if byte == 1 then copy_at left else (
    if byte == 2 then tagging_at left else (
    if byte == 3 then hold_at left else (
    if byte == 4 then Ok (operations.Replicate, left) else (
    Err at))))

unfoldable pub operation_at : Unread → Result (Operation × Unread) ℕ
operation_at left = do
  byte ← byte_at 255 left
  operation_of (place left) byte.0 byte.1

unfoldable pub manifest_at : Unread → Result (ManifestSpec × Unread) ℕ
manifest_at left = do
  versions ← flag_at left
  bucket ← tested_at w16 is_bucket_name versions.1
  key ← tested_at w16 is_key bucket.1
  version ← option_id_at key.1
  Ok (record { versions = versions.0; bucket = bucket.0; key = key.0; version = version.0 }, version.1)

unfoldable pub report_at : Unread → Result (ReportSpec × Unread) ℕ
report_at left = do
  bucket ← tested_at w16 is_bucket_name left
  prefix ← option_prefix_at 512 bucket.1
  all ← flag_at prefix.1
  Ok (record { bucket = bucket.0; prefix = prefix.0; all = all.0 }, all.1)

abbrev pub report_if : Bool → Unread → Result (Option ReportSpec × Unread) ℕ
report_if false left = Ok (None, left)
report_if true left = do
  report ← report_at left
  Ok (Some report.0, report.1)

-- a flag, and a report where it is set
unfoldable pub option_report_at : Unread → Result (Option ReportSpec × Unread) ℕ
option_report_at left = do
  given ← flag_at left
  report_if given.0 given.1

unfoldable pub spec_at : Unread → Result (JobSpec × Unread) ℕ
spec_at left = do
  token ← tested_at w16 is_token left
  priority ← number_within 0 2147483647 token.1
  confirm ← flag_at priority.1
  operation ← operation_at confirm.1
  manifest ← manifest_at operation.1
  report ← option_report_at manifest.1
  Ok (
    record {
      token = token.0;
      priority = priority.0;
      confirm = confirm.0;
      operation = operation.0;
      manifest = manifest.0;
      report = report.0;
    },
    report.1,
  )

-- what the byte at that place says, and what is left behind it
unfoldable pub state_of : ℕ → ℕ → Unread → Result (JobState × Unread) ℕ
state_of at byte left =
    if byte == 1 then Ok (states.Preparing, left) else (
    if byte == 2 then Ok (states.Ready, left) else (
    if byte == 3 then Ok (states.Active, left) else (
    if byte == 4 then Ok (states.Pausing, left) else (
    if byte == 5 then Ok (states.Paused, left) else (
    if byte == 6 then Ok (states.Failing, left) else (
    if byte == 7 then Ok (states.Cancelling, left) else (
    Err at)))))))

unfoldable pub state_at : Unread → Result (JobState × Unread) ℕ
state_at left = do
  byte ← byte_at 255 left
  state_of (place left) byte.0 byte.1
