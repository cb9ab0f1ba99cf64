-- What happens at a request is careful, whatever turn it takes.
use Rattle.std.proofs.Common.{◌≡◌, ℕ, Bool, true, false, List, [], ◌∷◌, ◌++◌, nat_lt, Option, Some, None, IsSome, Result, Ok, Err, refl, sym, subst, ⊎_elim, append_assoc}
use Rattle.std.specs.List.{AllByRecursion}
use Rattle.s3r_world.specs.Image.{Image}
use Rattle.s3r_jobs.specs.declared.turn.NextStep.{NextStep}
use Rattle.s3r_jobs.specs.declared.turn.NextStep.TheVariants as steps
use Rattle.s3r_history.specs.Words.{History}
use Rattle.s3r_history.specs.Accepts.{refusal}
use Rattle.s3r_batches.specs.Turns.{step_after, command_of}
use Rattle.s3r_desk.specs.declared.fault.DeskFault.{DeskFault}
use Rattle.s3r_desk.specs.declared.fault.DeskFault.TheVariants as faults
use Rattle.s3r_desk.specs.declared.job_outcome.JobOutcome.{JobOutcome}
use Rattle.s3r_desk.specs.declared.request.Request.{Request}
use Rattle.s3r_desk.specs.declared.request.Answer.{Answer}
use Rattle.s3r_desk.specs.declared.worker_turn.WorkerTurn.{WorkerTurn}
use Rattle.s3r_desk.specs.declared.worker_turn.WorkerTurn.TheVariants as worker
use Rattle.s3r_desk.specs.declared.worker_turn.TurnOutcome.{TurnOutcome}
use Rattle.s3r_desk.specs.declared.turning.Turn.{Turn}
use Rattle.s3r_desk.specs.declared.turning.Turn.TheVariants.{Step, Copy, Jobs, Work}
use Rattle.s3r_desk.specs.Events.{began, Events, known, history_at}
use Rattle.s3r_desk.specs.Careful.{IsLicensed, AreCareful}
use Rattle.s3r_desk.specs.JobTurns.{StepComes, StepOrIdle, IsJobTurn}
use Rattle.s3r_desk.specs.Rounds.{rounds, IsThere}
use Rattle.s3r_desk.specs.Works.{Reads, IsWorkerTurn, Made, Then, AreMade}
use Rattle.s3r_desk.specs.Responds.{turn_of, IsStepped, IsWorked, TurnsBy}
use Rattle.s3r_desk.specs.Laws.{TurnsAreCareful}
use Rattle.s3r_desk.proofs.Careful.{careful_then}
use Rattle.s3r_desk.proofs.Licensed.{known_there, step_careful}
use Rattle.s3r_desk.proofs.CopyCareful.{touch_careful, copy_careful, copied_careful}
use Rattle.s3r_desk.proofs.RoundLemmas.{rounds_there}

-- ---- a turn of a region's jobs

step_licensed : (now : Events) (r : ℕ) (step : NextStep) → IsLicensed now r (command_of step)
step_licensed now r (steps.Finish job) = tt
step_licensed now r (steps.Prepare job) = tt
step_licensed now r (steps.Move job to) = tt
step_licensed now r (steps.Line job line) = tt

module _ (n : ℕ) (room : ℕ → ℕ) (r : ℕ) (now : Events) (some : IsSome (known now r)) where
  step_begins : (step : NextStep) → refusal n r (history_at now r) (command_of step) ≡ None → AreCareful n now (began r (command_of step) ∷ [])
  step_begins step accepted = (
    (λ lt. record {
      history = history_at now r;
      is_known = known_there (known now r) some;
      accepted = accepted;
      licensed = step_licensed now r step;
    }),
    tt,
  )

  step_comes : (step : NextStep) (events : Events) (result : Result JobOutcome DeskFault)
      → refusal n r (history_at now r) (command_of step) ≡ None → StepComes room r (history_at now r) step events result → AreCareful n now events
  step_comes step events (Ok outcome) accepted comes = subst (λ (l : Events). AreCareful n now l) (sym comes.2) (step_begins step accepted)
  step_comes step events (Err (faults.Volume v)) accepted comes = subst (λ (l : Events). AreCareful n now l) (sym comes.2) (step_begins step accepted)
  step_comes step events (Err (faults.Full v)) accepted comes = subst (λ (l : Events). AreCareful n now l) (sym comes.2) tt
  step_comes step events (Err (faults.Damaged v offset)) accepted comes = absurd comes
  step_comes step events (Err (faults.Disagree from to sent last settled received)) accepted comes = absurd comes
  step_comes step events (Err faults.OutOfMemory) accepted comes = subst (λ (l : Events). AreCareful n now l) (sym comes) (step_begins step accepted)

  or_idle_careful : (o : Option NextStep) (events : Events) (result : Result JobOutcome DeskFault)
      → StepOrIdle o n room r (history_at now r) events result → AreCareful n now events
  or_idle_careful None events result did = subst (λ (l : Events). AreCareful n now l) (sym did.1) tt
  or_idle_careful (Some step) events result did = step_comes step events result did.accepted did.comes

pub jobs_careful : (P : ℕ → History → Type 0) (n : ℕ) (room : ℕ → ℕ) (r : ℕ) (before events : Events) (result : Result JobOutcome DeskFault)
    → IsJobTurn P n room r before result events → AreCareful n before events
jobs_careful P n room r before events result turn =
    subst (λ (l : Events). AreCareful n before l) (sym turn.parts)
    (careful_then n before turn.touched turn.rest (touch_careful P n before r turn.touched turn.touches)
    (⊎_elim
    (λ w. or_idle_careful n room r (turn.touched ++ before) w.0 (step_after r (history_at (turn.touched ++ before) r)) turn.rest result w.1)
    (λ none. subst (λ (l : Events). AreCareful n (turn.touched ++ before) l) (sym none.0) tt)
    turn.comes))

stepped_careful : (P : ℕ → History → Type 0) (n : ℕ) (room : ℕ → ℕ) (r : ℕ) (before events : Events) (result : Result Answer DeskFault) (b : Bool)
    → IsStepped P n room r before result events b → AreCareful n before events
stepped_careful P n room r before events result true did = jobs_careful P n room r before events did.0 did.2
stepped_careful P n room r before events result false did = subst (λ (l : Events). AreCareful n before l) (sym did.1) tt

-- ---- turns one after another

pub worker_careful : (turn : WorkerTurn) (n : ℕ) (room : ℕ → ℕ) (now : Image) (before : Events) (result : Result TurnOutcome DeskFault) (events : Events)
    → IsThere n turn → IsWorkerTurn turn n room now before result events → AreCareful n before events
worker_careful (worker.Copy s d) n room now before result events there did =
    copy_careful (Reads n now) room n s d before events did.0 there.0 there.1 did.2
worker_careful (worker.Jobs r) n room now before result events there did = jobs_careful (Reads n now) n room r before events did.0 did.2

made_careful : (turns : List WorkerTurn) (n : ℕ) (room : ℕ → ℕ) (start : Image) (before past : Events) (made : Made) (events : Events)
    → AllByRecursion (IsThere n) turns → AreMade turns n room start before past made events → AreCareful n (past ++ before) events
made_careful [] n room start before past made events there did = subst (λ (l : Events). AreCareful n (past ++ before) l) (sym did.1) tt
made_careful (turn ∷ turns) n room start before past made events there did =
    behind did.3 (worker_careful turn n room did.0 (past ++ before) did.3 did.2 there.0 did.4)
    (λ rest ahead. made_careful turns n room start before (did.2 ++ past) rest ahead there.1) did.5
  where
    behind : (result : Result TurnOutcome DeskFault) → AreCareful n (past ++ before) did.2
        → ((rest : Made) (ahead : Events) → AreMade turns n room start before (did.2 ++ past) rest ahead → AreCareful n ((did.2 ++ past) ++ before) ahead)
        → Then n did.0 result did.2 made events (λ rest ahead. AreMade turns n room start before (did.2 ++ past) rest ahead)
        → AreCareful n (past ++ before) events
    behind (Ok outcome) one all t =
        subst (λ (l : Events). AreCareful n (past ++ before) l) (sym t.3)
        (careful_then n (past ++ before) did.2 t.1 one
        (subst (λ (l : Events). AreCareful n l t.1) (append_assoc did.2 past before) (all t.0 t.1 t.4)))
    behind (Err fault) one all t = subst (λ (l : Events). AreCareful n (past ++ before) l) (sym t.1) one

worked_careful : (n : ℕ) (room : ℕ → ℕ) (seen : Image) (k : ℕ) (before : Events) (result : Result Answer DeskFault) (events : Events)
    → IsWorked n room seen k before result events → AreCareful n before events
worked_careful n room seen k before result events did = ⊎_elim
    (λ w. made_careful (rounds k n) n room seen before [] w.0 events (rounds_there k n) w.1)
    (λ none. subst (λ (l : Events). AreCareful n before l) (sym none.1) tt)
    did

-- ---- each turn

turns_by_careful : (n : ℕ) (room : ℕ → ℕ) (seen : Image) (before : Events) (request : Request) (result : Result Answer DeskFault)
    (events : Events) (t : Turn) → TurnsBy t n room seen before request result events → AreCareful n before events
turns_by_careful n room seen before request result events Step turn = step_careful (Reads n seen) n room before request result events turn.0
turns_by_careful n room seen before request result events (Copy s d) turn = copied_careful (Reads n seen) room n s d before events result _ refl turn.0
turns_by_careful n room seen before request result events (Jobs r) turn = stepped_careful (Reads n seen) n room r before events result (nat_lt r n) turn.0
turns_by_careful n room seen before request result events (Work k) turn = worked_careful n room seen k before result events turn

pub turns_careful : TurnsAreCareful
turns_careful n room seen before request result events turn = turns_by_careful n room seen before request result events (turn_of request) turn
