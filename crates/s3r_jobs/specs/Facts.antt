-- What is known of a job.
use Rattle.std.specs.Prelude.{ℕ, ◌+◌, List, [], length, Option, Some, None}
use Rattle.s3r_lines.specs.declared.object.ObjectRef.{ObjectRef}
use Rattle.s3r_jobs.specs.declared.spec.JobSpec.{JobSpec}
use Rattle.s3r_jobs.specs.declared.state.JobState.{JobState}
use Rattle.s3r_jobs.specs.declared.state.JobState.TheVariants as state
use Rattle.s3r_jobs.specs.declared.result.LineResult.{LineResult}
use Rattle.s3r_jobs.specs.declared.result.FailureReason.{FailureReason}
use Rattle.s3r_jobs.specs.declared.token.LineTurn.{LineTurn}
use Rattle.s3r_jobs.specs.declared.token.LineTurn.TheVariants.{Free, Begun, Kept}

pub record JobFacts : Type 0 where
  pub id : ℕ
  -- as it was created
  pub spec : JobSpec
  -- as it is now
  pub priority : ℕ
  pub state : JobState
  -- none before they are prepared
  pub lines : List ObjectRef
  -- of the first lines, in order
  pub results : List LineResult
  -- whether the line behind the results was begun
  pub turn : LineTurn
  pub reason : Option FailureReason

-- a job as it is created
abbrev pub new_job : ℕ → JobSpec → JobFacts
new_job id spec =
    record { id = id; spec = spec; priority = spec.priority; state = state.New; lines = []; results = []; turn = Free; reason = None }

-- the line that was begun and has no result, counted from 1
abbrev pub begun : JobFacts → Option ℕ
begun job = begun_at job.turn (length job.results + 1)
  where
    begun_at : LineTurn → ℕ → Option ℕ
    begun_at Free line = None
    begun_at Begun line = Some line
    begun_at Kept line = Some line
