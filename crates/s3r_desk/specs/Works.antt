-- What turns do one after another, up to the first fault.
use Rattle.std.specs.Prelude.{◌≡◌, ℕ, List, [], ◌∷◌, ◌++◌, Option, Some, None, Result, Ok, Err}
use Rattle.s3r_world.specs.Image.{Image}
use Rattle.s3r_history.specs.Words.{History}
use Rattle.s3r_store.specs.Stands.{StandsFor}
use Rattle.s3r_desk.specs.declared.copy_outcome.CopyOutcome.{CopyOutcome}
use Rattle.s3r_desk.specs.declared.job_outcome.JobOutcome.{JobOutcome}
use Rattle.s3r_desk.specs.declared.worker_turn.WorkerTurn.{WorkerTurn}
use Rattle.s3r_desk.specs.declared.worker_turn.WorkerTurn.TheVariants.{Copy, Jobs}
use Rattle.s3r_desk.specs.declared.worker_turn.TurnOutcome.{TurnOutcome}
use Rattle.s3r_desk.specs.declared.worker_turn.TurnOutcome.TheVariants.{Copied, Stepped}
use Rattle.s3r_desk.specs.declared.work_summary.WorkSummary.{WorkSummary}
use Rattle.s3r_desk.specs.declared.fault.DeskFault.{DeskFault}
use Rattle.s3r_desk.specs.Events.{Events}
use Rattle.s3r_desk.specs.Progress.{Progress}
use Rattle.s3r_desk.specs.Damage.{IsDamage}
use Rattle.s3r_desk.specs.Rounds.{summary, noted}
use Rattle.s3r_desk.specs.Copying.{IsCopyTurn}
use Rattle.s3r_desk.specs.JobTurns.{IsJobTurn}

-- what the volumes stand for, being as they are seen
abbrev pub Reads : ℕ → Image → ℕ → History → Type 0
Reads n seen r h = StandsFor n r h (seen.volume r)

-- what a turn came to, as that of a round
abbrev pub as_copied : Result CopyOutcome DeskFault → Result TurnOutcome DeskFault
as_copied (Ok outcome) = Ok (Copied outcome)
as_copied (Err fault) = Err fault

abbrev pub as_stepped : Result JobOutcome DeskFault → Result TurnOutcome DeskFault
as_stepped (Ok outcome) = Ok (Stepped outcome)
as_stepped (Err fault) = Err fault

-- one turn, the volumes being as they are seen
abbrev pub IsWorkerTurn : WorkerTurn → ℕ → (ℕ → ℕ) → Image → Events → Result TurnOutcome DeskFault → Events → Type 0
IsWorkerTurn (Copy s d) n room seen before made events =
    (outcome : Result CopyOutcome DeskFault) × (made ≡ as_copied outcome) × IsCopyTurn (Reads n seen) room s d before outcome events
IsWorkerTurn (Jobs r) n room seen before made events =
    (outcome : Result JobOutcome DeskFault) × (made ≡ as_stepped outcome) × IsJobTurn (Reads n seen) n room r before outcome events

-- what turns came to until one of them had a fault, if one had
pub record Made : Type 0 where
  pub outcomes : List TurnOutcome
  pub fault : Option DeskFault

-- The turn came to something, and the others are made behind it; or it had a fault, and is the last.
abbrev pub Then : ℕ → Image → Result TurnOutcome DeskFault → Events → Made → Events → (Made → Events → Type 0) → Type 0
Then n now (Ok outcome) one made events others =
    (rest : Made) × (behind : Events) × (made ≡ record { outcomes = outcome ∷ rest.outcomes; fault = rest.fault }) × (events ≡ behind ++ one)
    × others rest behind
Then n now (Err fault) one made events others =
    (made ≡ record { outcomes = []; fault = Some fault }) × (events ≡ one) × IsDamage {A = TurnOutcome} n now (Err fault)

-- The turns were made in order up to the first fault, behind the events of those before them. At each the volumes are seen as the
-- events so far left them, which were seen so at the start.
abbrev pub AreMade : List WorkerTurn → ℕ → (ℕ → ℕ) → Image → (before past : Events) → Made → Events → Type 0
AreMade [] n room start before past made events = (made ≡ record { outcomes = []; fault = None }) × (events ≡ [])
AreMade (turn ∷ turns) n room start before past made events =
    (now : Image) × Progress n past start now × (one : Events) × (result : Result TurnOutcome DeskFault)
    × IsWorkerTurn turn n room now (past ++ before) result one
    × Then n now result one made events (λ rest behind. AreMade turns n room start before (one ++ past) rest behind)

-- ---- as a summary

-- the summary with each turn noted that came to something
abbrev pub noted_all : WorkSummary → List TurnOutcome → WorkSummary
noted_all s [] = s
noted_all s (outcome ∷ outcomes) = noted_all (noted s outcome) outcomes

abbrev pub unless_fault : Option DeskFault → WorkSummary → Result WorkSummary DeskFault
unless_fault None s = Ok s
unless_fault (Some fault) s = Err fault

-- what turns come to, made behind those that a summary has
abbrev pub came : WorkSummary → Made → Result WorkSummary DeskFault
came s made = unless_fault made.fault (noted_all s made.outcomes)

-- so it is of all rounds
abbrev pub worked : ℕ → Made → Result WorkSummary DeskFault
worked k made = unless_fault made.fault (summary k made.outcomes)
