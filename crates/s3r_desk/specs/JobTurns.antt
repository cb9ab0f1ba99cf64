-- What a turn of a region's jobs does.
use Rattle.std.specs.Prelude.{◌≡◌, ◌⊎◌, ℕ, ◌<◌, ◌≤◌, [], ◌∷◌, ◌++◌, Option, Some, None, IsSome, Result, Ok, Err}
use Rattle.s3r_jobs.specs.declared.state.JobState.{JobState}
use Rattle.s3r_jobs.specs.declared.state.JobState.TheVariants as states
use Rattle.s3r_jobs.specs.declared.turn.NextStep.{NextStep}
use Rattle.s3r_jobs.specs.declared.turn.NextStep.TheVariants as steps
use Rattle.s3r_jobs.specs.Facts.{JobFacts}
use Rattle.s3r_jobs.specs.Jobs.{find_job}
use Rattle.s3r_history.specs.Words.{History}
use Rattle.s3r_history.specs.Deeds.{deeds}
use Rattle.s3r_history.specs.Jobs.{jobs_at}
use Rattle.s3r_history.specs.Accepts.{refusal}
use Rattle.s3r_batches.specs.Turns.{step_after, command_of}
use Rattle.s3r_store.specs.Commits.{length_with}
use Rattle.s3r_desk.specs.declared.fault.DeskFault.{DeskFault}
use Rattle.s3r_desk.specs.declared.fault.DeskFault.TheVariants as faults
use Rattle.s3r_desk.specs.declared.job_outcome.JobOutcome.{JobOutcome}
use Rattle.s3r_desk.specs.declared.job_outcome.JobOutcome.TheVariants as outcomes
use Rattle.s3r_desk.specs.Events.{found, began, Events, known, history_at}
use Rattle.s3r_desk.specs.Steps.{job_id}
use Rattle.s3r_desk.specs.Copying.{IsTouched}

-- ---- what a step comes to

-- a job's state, New where it isn't there
abbrev pub state_or_new : Option JobFacts → JobState
state_or_new None = states.New
state_or_new (Some job) = job.state

-- the state of a job of region r after its history h
abbrev pub state_after : ℕ → History → ℕ → JobState
state_after r h job = state_or_new (find_job job (jobs_at (deeds r h)))

-- what a step of region r came to, where its state tells this of each job
abbrev pub came_to : ℕ → (ℕ → JobState) → NextStep → JobOutcome
came_to r state (steps.Finish job) = outcomes.Ended (job_id r job) (state job)
came_to r state (steps.Prepare job) = outcomes.Moved (job_id r job) (state job)
came_to r state (steps.Move job to) = outcomes.Moved (job_id r job) to
came_to r state (steps.Line job line) = outcomes.Lined (job_id r job) line

-- the step's command was committed, or is in doubt, or passes the room
abbrev pub StepComes : (ℕ → ℕ) → ℕ → History → NextStep → Events → Result JobOutcome DeskFault → Type 0
StepComes room r h step events (Ok outcome) = (outcome ≡ came_to r (state_after r (command_of step ∷ h)) step)
    × (length_with r h (command_of step) ≤ room r) × (events ≡ found r (command_of step ∷ h) ∷ began r (command_of step) ∷ [])
StepComes room r h step events (Err (faults.Volume v)) = (v ≡ r) × (length_with r h (command_of step) ≤ room r) × (events ≡ began r (command_of step) ∷ [])
StepComes room r h step events (Err (faults.Full v)) = (v ≡ r) × (room r < length_with r h (command_of step)) × (events ≡ [])
StepComes room r h step events (Err (faults.Damaged v offset)) = ⊥
StepComes room r h step events (Err (faults.Disagree from to sent last settled received)) = ⊥
StepComes room r h step events (Err faults.OutOfMemory) = events ≡ began r (command_of step) ∷ []

-- the step, whose command the history accepts, is made
pub record IsStepMade (n : ℕ) (room : ℕ → ℕ) (r : ℕ) (h : History) (step : NextStep) (events : Events) (result : Result JobOutcome DeskFault) : Type 0 where
  pub accepted : refusal n r h (command_of step) ≡ None
  pub comes : StepComes room r h step events result

-- the next step of the jobs of region r, one of n, is made, where one of them has one
abbrev pub StepOrIdle : Option NextStep → ℕ → (ℕ → ℕ) → ℕ → History → Events → Result JobOutcome DeskFault → Type 0
StepOrIdle None n room r h events result = (result ≡ Ok outcomes.Idle) × (events ≡ [])
StepOrIdle (Some step) n room r h events result = IsStepMade n room r h step events result

-- ---- the turn

-- the region is unread, and could not be read
abbrev pub IsUnreadFault : ℕ → Events → Result JobOutcome DeskFault → Type 0
IsUnreadFault r now (Ok outcome) = ⊥
IsUnreadFault r now (Err (faults.Volume v)) = (v ≡ r) × (known now r ≡ None)
IsUnreadFault r now (Err (faults.Full v)) = ⊥
IsUnreadFault r now (Err (faults.Damaged v offset)) = (v ≡ r) × (known now r ≡ None)
IsUnreadFault r now (Err (faults.Disagree from to sent last settled received)) = ⊥
IsUnreadFault r now (Err faults.OutOfMemory) = Unit {0}

-- The region is touched, and the next step of its jobs is made; or the touch fails.
pub record IsJobTurn (P : ℕ → History → Type 0) (n : ℕ) (room : ℕ → ℕ) (r : ℕ) (before : Events) (result : Result JobOutcome DeskFault)
    (events : Events) : Type 0 where
  pub touched : Events
  pub rest : Events
  pub parts : events ≡ rest ++ touched
  pub touches : IsTouched P before r touched
  pub comes : (IsSome (known (touched ++ before) r) × (let h = history_at (touched ++ before) r in StepOrIdle (step_after r h) n room r h rest result))
      ⊎ ((rest ≡ []) × IsUnreadFault r (touched ++ before) result)
