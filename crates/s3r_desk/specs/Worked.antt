-- What calls that make turns one after another do.
use Rattle.std.specs.Prelude.{◌≡◌, ◌⊎◌, ℕ, List, [], Result, Err}
use Rattle.s3r_world.specs.Image.{Image}
use Rattle.s3r_world.specs.Outside.{Counts}
use Rattle.s3r_desk.specs.declared.fault.DeskFault.{DeskFault}
use Rattle.s3r_desk.specs.declared.fault.DeskFault.TheVariants as faults
use Rattle.s3r_desk.specs.declared.worker_turn.WorkerTurn.{WorkerTurn}
use Rattle.s3r_desk.specs.declared.worker_turn.TurnOutcome.{TurnOutcome}
use Rattle.s3r_desk.specs.declared.work_summary.WorkSummary.{WorkSummary}
use Rattle.s3r_desk.specs.Events.{Events}
use Rattle.s3r_desk.specs.Copying.{AreCounted}
use Rattle.s3r_desk.specs.Rounds.{rounds}
use Rattle.s3r_desk.specs.Works.{IsWorkerTurn, Made, AreMade, came, worked}

-- one turn
pub record MakesTurn (turn : WorkerTurn) (n : ℕ) (room : ℕ → ℕ) (seen : Image) (before : Events) (result : Result TurnOutcome DeskFault)
    (counts later : Counts) (events : Events) : Type 0 where
  pub is : IsWorkerTurn turn n room seen before result events
  pub counted : AreCounted result events counts later

-- several, behind those that a summary has
pub record MakesTurns (turns : List WorkerTurn) (n : ℕ) (room : ℕ → ℕ) (seen : Image) (before : Events) (summary : WorkSummary)
    (result : Result WorkSummary DeskFault) (counts later : Counts) (events : Events) : Type 0 where
  pub made : Made
  pub are : AreMade turns n room seen before [] made events
  pub comes : result ≡ came summary made
  pub counted : AreCounted result events counts later

-- so many rounds, or want of memory before the first turn
pub record Worked (n : ℕ) (room : ℕ → ℕ) (seen : Image) (k : ℕ) (before : Events) (result : Result WorkSummary DeskFault) (counts later : Counts)
    (events : Events) : Type 0 where
  pub works : ((made : Made) × AreMade (rounds k n) n room seen before [] made events × (result ≡ worked k made))
      ⊎ ((result ≡ Err faults.OutOfMemory) × (events ≡ []))
  pub counted : AreCounted result events counts later
