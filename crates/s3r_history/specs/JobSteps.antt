-- What one command makes of a job that is there.
use Rattle.std.specs.Prelude.{ℕ, [], ◌∷◌, ◌++◌, Option, Some, None, Ok, Err}
use Rattle.s3r_jobs.specs.declared.result.LineResult.{LineResult}
use Rattle.s3r_jobs.specs.declared.state.JobState.{JobState}
use Rattle.s3r_jobs.specs.declared.state.JobState.TheVariants as states
use Rattle.s3r_jobs.specs.declared.token.LineTurn.TheVariants.{Free, Kept}
use Rattle.s3r_jobs.specs.Facts.{JobFacts}
use Rattle.s3r_history.specs.Words.{or_else}
use Rattle.s3r_history.specs.Past.{ReadLines}
use Rattle.s3r_history.specs.Jobs.{state_read, state_ended, by_threshold}

-- once it moves to a state
abbrev pub move_to : JobState → JobFacts → JobFacts
move_to to job = record job { state = to; reason = or_else (by_threshold to) job.reason }

-- once its priority is set
abbrev pub set_priority : ℕ → JobFacts → JobFacts
set_priority priority job = record job { priority = priority }

-- once its manifest is read
abbrev pub read_lines : Option ReadLines → JobFacts → JobFacts
read_lines None job = job
read_lines (Some (Ok lines)) job = record job { state = state_read job.spec (Ok lines); lines = lines; results = []; turn = Free }
read_lines (Some (Err why)) job = record job { state = states.Failing; reason = Some why }

-- once a line has its result, or waits for it
abbrev pub did_line : Option LineResult → JobFacts → JobFacts
did_line None job = record job { turn = Kept }
did_line (Some result) job = record job { results = job.results ++ result ∷ []; turn = Free }

-- once it ends
abbrev pub finish : JobFacts → JobFacts
finish job = record job { state = state_ended job.state }
