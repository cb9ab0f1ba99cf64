-- What a job's turn is for.
use Rattle.std.specs.Prelude.{Bool}
use Rattle.s3r_jobs.specs.declared.state.JobState.{JobState}
use Rattle.s3r_jobs.specs.declared.duty.Duty.{Duty}
use Rattle.s3r_jobs.specs.declared.duty.Duty.TheVariants as duty
use Rattle.s3r_jobs.specs.States.{is_stopping, is_preparing, is_new, is_pausing, is_active, is_waiting}

abbrev pub is_due : Duty → JobState → Bool
is_due duty.End = is_stopping
is_due duty.Prepare = is_preparing
is_due duty.Begin = is_new
is_due duty.Rest = is_pausing
is_due duty.Run = is_active
is_due duty.Start = is_waiting
