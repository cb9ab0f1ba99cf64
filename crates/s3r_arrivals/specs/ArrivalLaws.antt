-- What is true of two lawful histories that agree.
use Rattle.std.specs.Prelude.{◌≡◌, ◌⊎◌, ◌≤◌, ◌+◌, ℕ, Some, Contains}
use Rattle.s3r_names.specs.declared.outcome.Outcome.TheVariants as outcomes
use Rattle.s3r_names.specs.declared.outcome.Reason.{Reason}
use Rattle.s3r_queue.specs.declared.task.TaskState.TheVariants as states
use Rattle.s3r_versions.specs.declared.row.Origin.{Origin}
use Rattle.s3r_history.specs.Words.{Name, History}
use Rattle.s3r_history.specs.Past.{Entry}
use Rattle.s3r_history.specs.BucketView.{BucketView}
use Rattle.s3r_history.specs.Told.{told}
use Rattle.s3r_history.specs.Deeds.{deeds}
use Rattle.s3r_history.specs.Tasks.{sent, first, task_state}
use Rattle.s3r_history.specs.Accepts.{IsLawful}
use Rattle.s3r_history.specs.Agree.{Agrees}
use Rattle.s3r_arrivals.specs.Arrivals.{CameOver, HasArrived, WasGivenUp, WasPrescribed}

-- a completed task has arrived
abbrev pub CompletedHasArrived : Type 0
CompletedHasArrived = (n s d number : ℕ) (h k : History) → IsLawful n d k → Agrees s d h k → task_state h d number ≡ states.Completed
    → HasArrived s d h k number

-- a task failed for a reason only where it was received and refused for that reason
abbrev pub FailedWasRefused : Type 0
FailedWasRefused = (s d number : ℕ) (h k : History) (reason : Reason) → Agrees s d h k → task_state h d number ≡ states.Failed reason
    → CameOver s d h k number (outcomes.Refused reason)

-- a task is exhausted only where eight attempts were made for it
abbrev pub ExhaustedWasGivenUp : Type 0
ExhaustedWasGivenUp = (n s d number : ℕ) (h : History) → IsLawful n s h → task_state h d number ≡ states.Exhausted → WasGivenUp h d number

-- Where no task is pending, each that was ever sent has arrived, was refused at its destination, or was given up.
abbrev pub NothingIsLost : Type 0
NothingIsLost = (n s d number : ℕ) (h k : History) → IsLawful n s h → IsLawful n d k → Agrees s d h k
    → first h (deeds s h) d ≡ sent (deeds s h) d + 1 → 1 ≤ number → number ≤ sent (deeds s h) d
    → HasArrived s d h k number ⊎ (((reason : Reason) × CameOver s d h k number (outcomes.Refused reason)) ⊎ WasGivenUp h d number)

-- a row that was received from a region was prescribed there
abbrev pub ReceivedWasPrescribed : Type 0
ReceivedWasPrescribed = (n s d : ℕ) (h k : History) (b : Name) (at : BucketView) (row : Entry) (origin : Origin) → IsLawful n d k → Agrees s d h k
    → told d k b ≡ Some at → Contains at.rows row → row.origin ≡ Some origin → origin.region ≡ s → WasPrescribed s d h k b row origin.bucket
