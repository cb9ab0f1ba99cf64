-- The jobs of a region: questions of what its commands did.
use Rattle.std.specs.Prelude.{ℕ, Bool, false, ◌==◌, List, [], ◌∷◌, ◌++◌, Option, Some, None, Ok, Err, if◌then◌else◌, map, filter, find, is_some, unwrap_or}
use Rattle.s3r_lines.specs.declared.object.ObjectRef.{ObjectRef}
use Rattle.s3r_jobs.specs.declared.result.FailureReason.{FailureReason}
use Rattle.s3r_jobs.specs.declared.result.FailureReason.TheVariants as reasons
use Rattle.s3r_jobs.specs.declared.result.LineResult.{LineResult}
use Rattle.s3r_jobs.specs.declared.spec.JobSpec.{JobSpec}
use Rattle.s3r_jobs.specs.declared.state.JobState.{JobState}
use Rattle.s3r_jobs.specs.declared.state.JobState.TheVariants as states
use Rattle.s3r_jobs.specs.declared.token.LineTurn.{LineTurn}
use Rattle.s3r_jobs.specs.declared.token.LineTurn.TheVariants.{Free, Kept}
use Rattle.s3r_jobs.specs.Facts.{JobFacts}
use Rattle.s3r_jobs.specs.Jobs.{JobsFacts, is_ended, is_unended}
use Rattle.s3r_record.specs.declared.command.Command.{Command}
use Rattle.s3r_record.specs.declared.command.Command.TheVariants as command
use Rattle.s3r_history.specs.declared.creation.Creation.{Creation}
use Rattle.s3r_history.specs.Words.{or_else, newer_than}
use Rattle.s3r_history.specs.Past.{ReadLines, Deed, Past}

-- the newest answer that a deed gives
abbrev pub newest_deed : {X : Type 0} → (Deed → Option X) → Past → Option X
newest_deed f [] = None
newest_deed f (d ∷ past) = or_else (f d) (newest_deed f past)

-- ---- which jobs there are

-- the job that the command of this index creates; the index is its id
abbrev pub created_by : ℕ → Command → Option Creation
created_by id (command.CreateBucket name locked) = None
created_by id (command.DeleteBucket name) = None
created_by id (command.SetVersioning name enabled) = None
created_by id (command.SetReplication name config regions) = None
created_by id (command.DropReplication name) = None
created_by id (command.Put bucket key tags hold class body) = None
created_by id (command.Marker bucket key) = None
created_by id (command.Remove bucket key version) = None
created_by id (command.SetTags bucket key version tags) = None
created_by id (command.SetHold bucket key version hold) = None
created_by id (command.Receive from number effect) = None
created_by id (command.Settle to number outcome) = None
created_by id (command.Attempt to number) = None
created_by id (command.CreateJob spec manifest) = Some (record { id = id; spec = spec; manifest = manifest })
created_by id (command.MoveJob job state) = None
created_by id (command.SetPriority job priority) = None
created_by id (command.Prepare job) = None
created_by id (command.Line job line) = None
created_by id (command.Finish job body) = None

abbrev pub with_created : List Creation → Option Creation → List Creation
with_created cs None = cs
with_created cs (Some c) = cs ++ c ∷ []

-- the jobs that were created, the first first
abbrev pub creations : Past → List Creation
creations [] = []
creations (d ∷ past) = with_created (creations past) (created_by d.stamp.index d.command)

abbrev pub is_created : ℕ → Creation → Bool
is_created id c = c.id == id

abbrev pub creates_it : ℕ → Option Creation → Bool
creates_it id None = false
creates_it id (Some c) = is_created id c

abbrev pub creation : Past → ℕ → Option Creation
creation past id = find (is_created id) (creations past)

-- the deeds since the job of this id was created
abbrev pub since : Past → ℕ → Past
since past id = newer_than (λ (d : Deed). creates_it id (created_by d.stamp.index d.command)) past

-- ---- its state

-- the state of a job whose manifest was read so
abbrev pub state_read : JobSpec → ReadLines → JobState
state_read spec (Ok lines) = if spec.confirm then states.Suspended else states.Ready
state_read spec (Err why) = states.Failing

-- as a job in this state ends
abbrev pub state_ended : JobState → JobState
state_ended states.New = states.New
state_ended states.Preparing = states.Preparing
state_ended states.Suspended = states.Suspended
state_ended states.Ready = states.Ready
state_ended states.Active = states.Complete
state_ended states.Pausing = states.Pausing
state_ended states.Paused = states.Paused
state_ended states.Cancelling = states.Cancelled
state_ended states.Failing = states.Failed
state_ended states.Complete = states.Complete
state_ended states.Cancelled = states.Cancelled
state_ended states.Failed = states.Failed

abbrev pub after_reading : Creation → JobState → Option ReadLines → JobState
after_reading c before None = before
after_reading c before (Some read) = state_read c.spec read

-- the state after a command, which was this before it; where the command reads the manifest it reads this
abbrev pub state_by : Creation → JobState → Option ReadLines → Command → JobState
state_by c before read (command.CreateBucket name locked) = before
state_by c before read (command.DeleteBucket name) = before
state_by c before read (command.SetVersioning name enabled) = before
state_by c before read (command.SetReplication name config regions) = before
state_by c before read (command.DropReplication name) = before
state_by c before read (command.Put bucket key tags hold class body) = before
state_by c before read (command.Marker bucket key) = before
state_by c before read (command.Remove bucket key version) = before
state_by c before read (command.SetTags bucket key version tags) = before
state_by c before read (command.SetHold bucket key version hold) = before
state_by c before read (command.Receive from number effect) = before
state_by c before read (command.Settle to number outcome) = before
state_by c before read (command.Attempt to number) = before
state_by c before read (command.CreateJob spec manifest) = before
state_by c before read (command.MoveJob job state) = if is_created job c then state else before
state_by c before read (command.SetPriority job priority) = before
state_by c before read (command.Prepare job) = if is_created job c then after_reading c before read else before
state_by c before read (command.Line job line) = before
state_by c before read (command.Finish job body) = if is_created job c then state_ended before else before

-- the state after the deeds since it was created
abbrev pub state_of : Past → Creation → JobState
state_of [] c = states.New
state_of (d ∷ past) c = state_by c (state_of past c) d.read d.command

-- ---- its priority

abbrev pub priority_by : Creation → Command → Option ℕ
priority_by c (command.CreateBucket name locked) = None
priority_by c (command.DeleteBucket name) = None
priority_by c (command.SetVersioning name enabled) = None
priority_by c (command.SetReplication name config regions) = None
priority_by c (command.DropReplication name) = None
priority_by c (command.Put bucket key tags hold class body) = None
priority_by c (command.Marker bucket key) = None
priority_by c (command.Remove bucket key version) = None
priority_by c (command.SetTags bucket key version tags) = None
priority_by c (command.SetHold bucket key version hold) = None
priority_by c (command.Receive from number effect) = None
priority_by c (command.Settle to number outcome) = None
priority_by c (command.Attempt to number) = None
priority_by c (command.CreateJob spec manifest) = None
priority_by c (command.MoveJob job state) = None
priority_by c (command.SetPriority job priority) = if is_created job c then Some priority else None
priority_by c (command.Prepare job) = None
priority_by c (command.Line job line) = None
priority_by c (command.Finish job body) = None

-- that of the last command that sets it, else its specification's
abbrev pub priority_of : Past → Creation → ℕ
priority_of past c = unwrap_or (newest_deed (λ (d : Deed). priority_by c d.command) past) c.spec.priority

-- ---- its lines and their results

-- the lines where the manifest was read, and had some or none
abbrev pub lines_there : Option ReadLines → Option (List ObjectRef)
lines_there None = None
lines_there (Some (Ok lines)) = Some lines
lines_there (Some (Err why)) = None

-- why there are none
abbrev pub why_none : Option ReadLines → Option FailureReason
why_none None = None
why_none (Some (Ok lines)) = None
why_none (Some (Err why)) = Some why

-- what the command read where it prepares the job
abbrev pub reading : Creation → Option ReadLines → Command → Option ReadLines
reading c read (command.CreateBucket name locked) = None
reading c read (command.DeleteBucket name) = None
reading c read (command.SetVersioning name enabled) = None
reading c read (command.SetReplication name config regions) = None
reading c read (command.DropReplication name) = None
reading c read (command.Put bucket key tags hold class body) = None
reading c read (command.Marker bucket key) = None
reading c read (command.Remove bucket key version) = None
reading c read (command.SetTags bucket key version tags) = None
reading c read (command.SetHold bucket key version hold) = None
reading c read (command.Receive from number effect) = None
reading c read (command.Settle to number outcome) = None
reading c read (command.Attempt to number) = None
reading c read (command.CreateJob spec manifest) = None
reading c read (command.MoveJob job state) = None
reading c read (command.SetPriority job priority) = None
reading c read (command.Prepare job) = if is_created job c then read else None
reading c read (command.Line job line) = None
reading c read (command.Finish job body) = None

abbrev pub lines_by : Creation → Deed → Option (List ObjectRef)
lines_by c d = lines_there (reading c d.read d.command)

-- its lines, none before they were read
abbrev pub lines_of : Past → Creation → List ObjectRef
lines_of past c = unwrap_or (newest_deed (lines_by c) past) []

-- the deeds since its lines were read
abbrev pub since_lines : Past → Creation → Past
since_lines past c = newer_than (λ (d : Deed). is_some (lines_by c d)) past

-- the result of the line of the job that a command does, where it does one
abbrev pub line_done : Creation → Option LineResult → Command → Option (Option LineResult)
line_done c result (command.CreateBucket name locked) = None
line_done c result (command.DeleteBucket name) = None
line_done c result (command.SetVersioning name enabled) = None
line_done c result (command.SetReplication name config regions) = None
line_done c result (command.DropReplication name) = None
line_done c result (command.Put bucket key tags hold class body) = None
line_done c result (command.Marker bucket key) = None
line_done c result (command.Remove bucket key version) = None
line_done c result (command.SetTags bucket key version tags) = None
line_done c result (command.SetHold bucket key version hold) = None
line_done c result (command.Receive from number effect) = None
line_done c result (command.Settle to number outcome) = None
line_done c result (command.Attempt to number) = None
line_done c result (command.CreateJob spec manifest) = None
line_done c result (command.MoveJob job state) = None
line_done c result (command.SetPriority job priority) = None
line_done c result (command.Prepare job) = None
line_done c result (command.Line job line) = if is_created job c then Some result else None
line_done c result (command.Finish job body) = None

-- the results, and that of the line, where it has one
abbrev pub with_result : List LineResult → Option (Option LineResult) → List LineResult
with_result results None = results
with_result results (Some None) = results
with_result results (Some (Some result)) = results ++ result ∷ []

-- the results of its lines, the first first
abbrev pub results_of : Past → Creation → List LineResult
results_of [] c = []
results_of (d ∷ past) c = with_result (results_of past c) (line_done c d.result d.command)

-- a line without a result waits for one
abbrev pub turn_by : Option LineResult → LineTurn
turn_by None = Kept
turn_by (Some result) = Free

abbrev pub turn_after : LineTurn → Option (Option LineResult) → LineTurn
turn_after before None = before
turn_after before (Some result) = turn_by result

-- whether its last line waits for its result
abbrev pub turn_of : Past → Creation → LineTurn
turn_of [] c = Free
turn_of (d ∷ past) c = turn_after (turn_of past c) (line_done c d.result d.command)

-- ---- why it fails

abbrev pub by_threshold : JobState → Option FailureReason
by_threshold states.New = None
by_threshold states.Preparing = None
by_threshold states.Suspended = None
by_threshold states.Ready = None
by_threshold states.Active = None
by_threshold states.Pausing = None
by_threshold states.Paused = None
by_threshold states.Cancelling = None
by_threshold states.Failing = Some reasons.Threshold
by_threshold states.Complete = None
by_threshold states.Cancelled = None
by_threshold states.Failed = None

-- Its move to Failing is for too many failures; where its manifest was refused, that is why.
abbrev pub reason_by : Creation → Option ReadLines → Command → Option FailureReason
reason_by c read (command.CreateBucket name locked) = None
reason_by c read (command.DeleteBucket name) = None
reason_by c read (command.SetVersioning name enabled) = None
reason_by c read (command.SetReplication name config regions) = None
reason_by c read (command.DropReplication name) = None
reason_by c read (command.Put bucket key tags hold class body) = None
reason_by c read (command.Marker bucket key) = None
reason_by c read (command.Remove bucket key version) = None
reason_by c read (command.SetTags bucket key version tags) = None
reason_by c read (command.SetHold bucket key version hold) = None
reason_by c read (command.Receive from number effect) = None
reason_by c read (command.Settle to number outcome) = None
reason_by c read (command.Attempt to number) = None
reason_by c read (command.CreateJob spec manifest) = None
reason_by c read (command.MoveJob job state) = if is_created job c then by_threshold state else None
reason_by c read (command.SetPriority job priority) = None
reason_by c read (command.Prepare job) = if is_created job c then why_none read else None
reason_by c read (command.Line job line) = None
reason_by c read (command.Finish job body) = None

abbrev pub reason_of : Past → Creation → Option FailureReason
reason_of past c = newest_deed (λ (d : Deed). reason_by c d.read d.command) past

-- ---- all of it

-- the job after the deeds since it was created
abbrev pub job_by : Past → Creation → JobFacts
job_by own c = record {
  id = c.id;
  spec = c.spec;
  priority = priority_of own c;
  state = state_of own c;
  lines = lines_of own c;
  results = results_of (since_lines own c) c;
  turn = turn_of (since_lines own c) c;
  reason = reason_of own c;
}

abbrev pub job : Past → Creation → JobFacts
job past c = job_by (since past c.id) c

-- all jobs, in the order in which they were created
abbrev pub jobs : Past → List JobFacts
jobs past = map (job past) (creations past)

-- those that haven't ended apart from those that have
abbrev pub split : List JobFacts → JobsFacts
split js = record { live = filter is_unended js; ended = filter is_ended js; out = 0 }

abbrev pub jobs_at : Past → JobsFacts
jobs_at past = split (jobs past)
