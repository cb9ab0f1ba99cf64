-- States and what is wanted of jobs, as answers write them.
use Rattle.std.specs.Prelude.{ℕ, List, codes}
use Rattle.s3r_jobs.specs.declared.fault.Wanted.{Wanted}
use Rattle.s3r_jobs.specs.declared.fault.Wanted.TheVariants as wanted
use Rattle.s3r_jobs.specs.declared.state.JobState.{JobState}
use Rattle.s3r_jobs.specs.declared.state.JobState.TheVariants as state

abbrev pub state_text : JobState → List ℕ
state_text state.New = codes "New"
state_text state.Preparing = codes "Preparing"
state_text state.Suspended = codes "Suspended"
state_text state.Ready = codes "Ready"
state_text state.Active = codes "Active"
state_text state.Pausing = codes "Pausing"
state_text state.Paused = codes "Paused"
state_text state.Cancelling = codes "Cancelling"
state_text state.Failing = codes "Failing"
state_text state.Complete = codes "Complete"
state_text state.Cancelled = codes "Cancelled"
state_text state.Failed = codes "Failed"

abbrev pub wanted_text : Wanted → List ℕ
wanted_text (wanted.State to) = state_text to
wanted_text wanted.Prepare = codes "Prepare"
wanted_text wanted.Line = codes "Line"
wanted_text wanted.Finish = codes "Finish"
wanted_text wanted.Priority = codes "Priority"
