-- What is true of a region's jobs after every lawful history.
use Rattle.std.specs.Prelude.{◌≡◌, ◌⊎◌, ◌≤◌, ◌<◌, ◌^◌, ℕ, [], ◌∷◌, length, Some, None, Contains}
use Rattle.s3r_jobs.specs.declared.state.JobState.TheVariants as states
use Rattle.s3r_jobs.specs.declared.turn.NextStep.{NextStep}
use Rattle.s3r_jobs.specs.Facts.{JobFacts}
use Rattle.s3r_record.specs.declared.command.Command.TheVariants as command
use Rattle.s3r_record.specs.Spelling.{IsCommand}
use Rattle.s3r_history.specs.Words.{History}
use Rattle.s3r_history.specs.Deeds.{deeds}
use Rattle.s3r_history.specs.Jobs.{jobs}
use Rattle.s3r_history.specs.Accepts.{refusal, IsLawful}
use Rattle.s3r_batches.specs.Turns.{step_after, command_of}

-- what comes next is accepted
abbrev pub StepsAreAccepted : Type 0
StepsAreAccepted = (n r : ℕ) (h : History) (step : NextStep) → IsLawful n r h → step_after r h ≡ Some step → refusal n r h (command_of step) ≡ None

-- and meets the limits of a record, where the history has fewer than 2^64 commands
abbrev pub StepsMeetLimits : Type 0
StepsMeetLimits = (n r : ℕ) (h : History) (step : NextStep) → IsLawful n r h → length h < 2 ^ 64 → step_after r h ≡ Some step
    → IsCommand (command_of step)

-- ---- results

abbrev pub ResultsAreOfLines : Type 0
ResultsAreOfLines = (n r : ℕ) (h : History) (job : JobFacts) → IsLawful n r h → Contains (jobs (deeds r h)) job → length job.results ≤ length job.lines

-- each line of a job that is Complete has its result
abbrev pub CompleteHasAll : Type 0
CompleteHasAll = (n r : ℕ) (h : History) (job : JobFacts) → IsLawful n r h → Contains (jobs (deeds r h)) job → job.state ≡ states.Complete
    → length job.results ≡ length job.lines

-- a command of the history begins this line of this job
abbrev pub Begins : (job line : ℕ) → History → Type 0
Begins job line [] = ⊥
Begins job line (c ∷ h) = (c ≡ command.Line job line) ⊎ Begins job line h

-- no line is begun a second time
abbrev pub LinesAreBegunOnce : Type 0
LinesAreBegunOnce = (n r job line : ℕ) (h : History) → IsLawful n r (command.Line job line ∷ h) → Begins job line h → ⊥

-- two jobs with one token are one
abbrev pub TokensAreOnce : Type 0
TokensAreOnce = (n r : ℕ) (h : History) (one other : JobFacts) → IsLawful n r h → Contains (jobs (deeds r h)) one → Contains (jobs (deeds r h)) other
    → one.spec.token ≡ other.spec.token → one ≡ other
