-- Which state a stage's own state is.
use Rattle.s3r_jobs.specs.declared.state.JobState.{JobState}
use Rattle.s3r_jobs.specs.declared.state.JobState.TheVariants as state
use Rattle.s3r_jobs.specs.declared.stage.New.{New}
use Rattle.s3r_jobs.specs.declared.stage.New.TheVariants as new
use Rattle.s3r_jobs.specs.declared.stage.Prepared.{Prepared}
use Rattle.s3r_jobs.specs.declared.stage.Prepared.TheVariants as prepared
use Rattle.s3r_jobs.specs.declared.stage.Running.{Running}
use Rattle.s3r_jobs.specs.declared.stage.Running.TheVariants as running
use Rattle.s3r_jobs.specs.declared.stage.Stopping.{Stopping}
use Rattle.s3r_jobs.specs.declared.stage.Stopping.TheVariants as stopping
use Rattle.s3r_jobs.specs.declared.stage.Ended.{Ended}
use Rattle.s3r_jobs.specs.declared.stage.Ended.TheVariants as ended

abbrev pub new_state : New → JobState
new_state new.New = state.New
new_state new.Preparing = state.Preparing

abbrev pub prepared_state : Prepared → JobState
prepared_state prepared.Suspended = state.Suspended
prepared_state prepared.Ready = state.Ready

abbrev pub running_state : Running → JobState
running_state running.Active = state.Active
running_state running.Pausing = state.Pausing
running_state running.Paused = state.Paused

abbrev pub stopping_state : Stopping → JobState
stopping_state stopping.Cancelling = state.Cancelling
stopping_state stopping.Failing = state.Failing

abbrev pub ended_state : Ended → JobState
ended_state ended.Complete = state.Complete
ended_state ended.Cancelled = state.Cancelled
ended_state ended.Failed = state.Failed
