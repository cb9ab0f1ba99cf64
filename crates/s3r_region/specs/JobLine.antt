-- What a line comes to, as the code has it.
use Rattle.std.specs.Prelude.{◌+◌, Option, Some, None, Result, Ok, Err}
use Rattle.s3r_names.specs.declared.version.VersionId.{VersionId}
use Rattle.s3r_jobs.specs.declared.result.Code.{Code}
use Rattle.s3r_record.specs.declared.command.Command.{Command}
use Rattle.s3r_record.specs.declared.command.Command.TheVariants as command
use Rattle.s3r_history.specs.Past.{Entry}
use Rattle.s3r_history.specs.JobLines.{LineOutcome}
use Rattle.s3r_region.specs.declared.job_line.LineWrite.{LineWrite}
use Rattle.s3r_region.specs.declared.job_line.LineWrite.TheVariants as writes
use Rattle.s3r_region.specs.Contents.{Contents}
use Rattle.s3r_region.specs.Writing.{tagged, held}

-- the command that writes the same
abbrev pub command_of : LineWrite → Command
command_of (writes.Tags bucket key id tags) = command.SetTags bucket key id tags
command_of (writes.Hold bucket key id hold) = command.SetHold bucket key id hold

abbrev pub Comes : Type 0
Comes = Option (Result LineWrite Code)

abbrev pub as_outcome : Comes → LineOutcome
as_outcome None = None
as_outcome (Some (Ok write)) = Some (Ok (command_of write))
as_outcome (Some (Err code)) = Some (Err code)

-- the id of the row, or the code of none
abbrev pub id_of : Result Entry Code → Result VersionId Code
id_of (Ok row) = Ok row.id
id_of (Err code) = Err code

-- The state after what a line does, which counts as a command. Its job's turn is still to come.
abbrev pub after_line : Comes → Contents → Contents
after_line None s = record s { commands = s.commands + 1 }
after_line (Some (Ok (writes.Tags bucket key id tags))) s = tagged s bucket key id tags
after_line (Some (Ok (writes.Hold bucket key id hold))) s = held s bucket key id hold
after_line (Some (Err code)) s = record s { commands = s.commands + 1 }
