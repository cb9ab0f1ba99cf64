-- Whose turn it is.
use Rattle.std.specs.Prelude.{ℕ, ◌+◌, ◌==◌, Bool, ◌&&◌, ◌||◌, nat_lt, List, [], ◌∷◌, length, find, Option, Some, None, is_some, if◌then◌else◌}
use Rattle.std.specs.List.{list_any}
use Rattle.std.specs.Option.{option_and_then, option_or}
use Rattle.s3r_jobs.specs.declared.state.JobState.{JobState}
use Rattle.s3r_jobs.specs.declared.state.JobState.TheVariants as state
use Rattle.s3r_jobs.specs.declared.turn.NextStep.{NextStep}
use Rattle.s3r_jobs.specs.declared.turn.NextStep.TheVariants as step
use Rattle.s3r_jobs.specs.States.{is_stopping, is_preparing, is_new, is_pausing, is_active, is_running, is_waiting}
use Rattle.s3r_jobs.specs.Facts.{JobFacts}
use Rattle.s3r_jobs.specs.Moves.{may_move, is_done}
use Rattle.s3r_jobs.specs.Lines.{is_free}
use Rattle.s3r_jobs.specs.Jobs.{is_job}

abbrev pub lesser : ℕ → Option ℕ → Option ℕ
lesser n None = Some n
lesser n (Some m) = Some (if nat_lt m n then m else n)

-- the lowest id of the jobs in such a state
abbrev pub lowest : (JobState → Bool) → List JobFacts → Option ℕ
lowest test [] = None
lowest test (job ∷ jobs) = if test job.state then lesser job.id (lowest test jobs) else lowest test jobs

-- the lowest id of those that are Active or Pausing
abbrev pub running : List JobFacts → Option ℕ
running jobs = lowest is_running jobs

-- A job's priority and id. A greater priority is better, and of one priority the lower id.
abbrev pub Rank : Type 0
Rank = ℕ × ℕ

abbrev pub is_better : Rank → Rank → Bool
is_better a b = nat_lt b.0 a.0 || ((a.0 == b.0) && nat_lt a.1 b.1)

abbrev pub rank : JobFacts → Rank
rank job = (job.priority, job.id)

abbrev pub better_of : Rank → Option Rank → Rank
better_of a None = a
better_of a (Some b) = if is_better b a then b else a

-- the best job that waits
abbrev pub best : List JobFacts → Option Rank
best [] = None
best (job ∷ jobs) = if is_waiting job.state then Some (better_of (rank job) (best jobs)) else best jobs

-- whether a better job than this one waits
abbrev pub is_outdone : JobFacts → List JobFacts → Bool
is_outdone job jobs = list_any (λ (other : JobFacts). is_waiting other.state && is_better (rank other) (rank job)) jobs

-- The step of the Active job: it fails, ends, makes way or begins its next line. None while it waits for a line.
abbrev pub running_step : List JobFacts → JobFacts → Option NextStep
running_step jobs job =
    if may_move job state.Active state.Failing then Some (step.Move job.id state.Failing)
    else if is_done job then Some (step.Finish job.id)
    else if is_outdone job jobs then Some (step.Move job.id state.Pausing)
    else if is_free job.turn then Some (step.Line job.id (length job.results + 1))
    else None

-- the step of the Active job of lowest id
abbrev pub active_step : List JobFacts → Option NextStep
active_step jobs = option_and_then (λ id. option_and_then (running_step jobs) (find (is_job id) jobs)) (lowest is_active jobs)

-- the best job that waits begins or goes on, where none is Active or Pausing
abbrev pub start_step : List JobFacts → Option NextStep
start_step jobs = if is_some (running jobs) then None else option_and_then (λ (b : Rank). Some (step.Move b.1 state.Active)) (best jobs)

-- the step of the job of lowest id in such a state
abbrev pub lowest_step : (JobState → Bool) → (ℕ → NextStep) → List JobFacts → Option NextStep
lowest_step test step jobs = option_and_then (λ id. Some (step id)) (lowest test jobs)

-- The first of these that can be done.
abbrev pub next_step : List JobFacts → Option NextStep
next_step jobs =
    option_or (lowest_step is_stopping step.Finish jobs)
    (option_or (lowest_step is_preparing step.Prepare jobs)
    (option_or (lowest_step is_new (λ id. step.Move id state.Preparing) jobs)
    (option_or (lowest_step is_pausing (λ id. step.Move id state.Paused) jobs)
    (option_or (active_step jobs) (start_step jobs)))))
