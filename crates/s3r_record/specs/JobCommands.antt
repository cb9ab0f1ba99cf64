-- Reading the fields of the commands about jobs.
use Rattle.std.specs.Prelude.{ℕ, Result, Ok}
use Rattle.s3r_record.specs.declared.command.Command.{Command}
use Rattle.s3r_record.specs.declared.command.Command.TheVariants as command
use Rattle.s3r_record.specs.Reading.{◌>>=◌, Unread}
use Rattle.s3r_record.specs.ReadingIds.{index_at, id_at}
use Rattle.s3r_record.specs.ReadingJobs.{number_within, option_body_at, spec_at, state_at}

unfoldable pub create_job_at : Unread → Result (Command × Unread) ℕ
create_job_at fields = do
  spec ← spec_at fields
  manifest ← id_at spec.1
  Ok (command.CreateJob spec.0 manifest.0, manifest.1)

unfoldable pub move_job_at : Unread → Result (Command × Unread) ℕ
move_job_at fields = do
  job ← index_at fields
  state ← state_at job.1
  Ok (command.MoveJob job.0 state.0, state.1)

unfoldable pub set_priority_at : Unread → Result (Command × Unread) ℕ
set_priority_at fields = do
  job ← index_at fields
  priority ← number_within 0 2147483647 job.1
  Ok (command.SetPriority job.0 priority.0, priority.1)

unfoldable pub prepare_at : Unread → Result (Command × Unread) ℕ
prepare_at fields = do
  job ← index_at fields
  Ok (command.Prepare job.0, job.1)

unfoldable pub line_at : Unread → Result (Command × Unread) ℕ
line_at fields = do
  job ← index_at fields
  line ← number_within 1 4294967295 job.1
  Ok (command.Line job.0 line.0, line.1)

unfoldable pub finish_at : Unread → Result (Command × Unread) ℕ
finish_at fields = do
  job ← index_at fields
  body ← option_body_at job.1
  Ok (command.Finish job.0 body.0, body.1)
