-- The moves of a job.
use Rattle.std.specs.Prelude.{ℕ, Bool, true, false, ◌&&◌, not, ◌==◌, List, [], length, Some, Result, Ok, Err, if◌then◌else◌}
use Rattle.s3r_lines.specs.declared.object.ObjectRef.{ObjectRef}
use Rattle.s3r_jobs.specs.declared.state.JobState.{JobState}
use Rattle.s3r_jobs.specs.declared.state.JobState.TheVariants.{New, Preparing, Suspended, Ready, Active, Pausing, Paused, Cancelling, Failing, Complete, Cancelled, Failed}
use Rattle.s3r_jobs.specs.declared.result.FailureReason.{FailureReason}
use Rattle.s3r_jobs.specs.declared.result.FailureReason.TheVariants.{Threshold}
use Rattle.s3r_jobs.specs.declared.token.LineTurn.TheVariants.{Free}
use Rattle.s3r_jobs.specs.declared.fault.Wanted.{Wanted}
use Rattle.s3r_jobs.specs.declared.fault.Wanted.TheVariants as wanted
use Rattle.s3r_jobs.specs.declared.fault.MoveFault.{MoveFault}
use Rattle.s3r_jobs.specs.declared.fault.MoveFault.TheVariants.{JobStatus}
use Rattle.s3r_jobs.specs.States.{has_ended}
use Rattle.s3r_jobs.specs.Threshold.{is_over}
use Rattle.s3r_jobs.specs.Facts.{JobFacts}

abbrev pub has_all_results : JobFacts → Bool
has_all_results job = length job.results == length job.lines

-- The table of moves: from a state, to a state, and where a job has this move. It has no others.
abbrev pub may_move : JobFacts → JobState → JobState → Bool
may_move job New Preparing = true
may_move job Preparing Suspended = job.spec.confirm
may_move job Preparing Ready = not job.spec.confirm
may_move job Preparing Failing = true
may_move job Suspended Ready = true
may_move job Ready Active = true
may_move job Paused Active = true
may_move job Active Pausing = true
may_move job Pausing Paused = true
may_move job Active Failing = is_over job.results
may_move job Active Complete = has_all_results job && not (is_over job.results)
may_move job New Cancelling = true
may_move job Preparing Cancelling = true
may_move job Suspended Cancelling = true
may_move job Ready Cancelling = true
may_move job Active Cancelling = true
may_move job Pausing Cancelling = true
may_move job Paused Cancelling = true
may_move job Cancelling Cancelled = true
may_move job Failing Failed = true
may_move job from to = false

-- What a move gives: the job after it, or the job as it was with why.
abbrev pub MoveResult : Type 0
MoveResult = Result JobFacts (JobFacts × MoveFault)

-- in another state
abbrev pub in_state : JobState → JobFacts → JobFacts
in_state to job = record job { state = to }

-- A job that has this move becomes the second one. Another is as it was, and it is told what was wanted of it.
abbrev pub move_or_refuse : JobState → Wanted → JobFacts → JobFacts → MoveResult
move_or_refuse to want job after = if may_move job job.state to then Ok after else Err (job, JobStatus job.state want)

-- only its state changes
abbrev pub moved : JobState → JobFacts → MoveResult
moved to job = move_or_refuse to (wanted.State to) job (in_state to job)

-- the state of a job whose lines are known
abbrev pub state_with_lines : JobFacts → JobState
state_with_lines job = if job.spec.confirm then Suspended else Ready

-- its lines are these, and none has a result
abbrev pub with_lines : List ObjectRef → JobFacts → JobFacts
with_lines lines job = record job { lines = lines; results = []; turn = Free }

abbrev pub prepared : List ObjectRef → JobFacts → MoveResult
prepared lines job = move_or_refuse (state_with_lines job) wanted.Prepare job (in_state (state_with_lines job) (with_lines lines job))

-- it fails, for a reason
abbrev pub failing : FailureReason → JobFacts → JobFacts
failing why job = record job { state = Failing; reason = Some why }

-- there are no lines, and why
abbrev pub unprepared : FailureReason → JobFacts → MoveResult
unprepared why job = move_or_refuse Failing wanted.Prepare job (failing why job)

-- too many lines failed
abbrev pub over : JobFacts → MoveResult
over job = move_or_refuse Failing (wanted.State Failing) job (failing Threshold job)

-- every line has its result
abbrev pub completed : JobFacts → MoveResult
completed job = move_or_refuse Complete wanted.Finish job (in_state Complete job)

-- whether it is Active and may end
abbrev pub is_done : JobFacts → Bool
is_done job = may_move job job.state Complete

-- how a job that is stopping ends
abbrev pub end_of : JobState → JobState
end_of Failing = Failed
end_of state = Cancelled

-- whether a job takes another priority
abbrev pub prioritized : JobFacts → Result (Unit {0}) MoveFault
prioritized job = if has_ended job.state then Err (JobStatus job.state wanted.Priority) else Ok tt

abbrev pub with_priority : ℕ → JobFacts → JobFacts
with_priority priority job = if has_ended job.state then job else record job { priority = priority }
