-- The desk puts nothing out.
use Rattle.std.proofs.Common.{◌≡◌, ℕ, Bool, true, false, List, [], ◌∷◌, ◌++◌, Option, Some, None, Result, Ok, Err, refl, ◌∙◌, ap, ⊎_elim}
use Rattle.s3r_jobs.specs.declared.turn.NextStep.{NextStep}
use Rattle.s3r_batches.specs.Turns.{step_after}
use Rattle.s3r_world.specs.Image.{Image}
use Rattle.s3r_history.specs.Words.{History}
use Rattle.s3r_history.specs.declared.due.Due.{Due}
use Rattle.s3r_desk.specs.declared.copy_outcome.CopyOutcome.{CopyOutcome}
use Rattle.s3r_desk.specs.declared.copy_outcome.CopyOutcome.TheVariants as outcomes
use Rattle.s3r_desk.specs.declared.fault.DeskFault.{DeskFault}
use Rattle.s3r_desk.specs.declared.fault.DeskFault.TheVariants as faults
use Rattle.s3r_desk.specs.declared.job_outcome.JobOutcome.{JobOutcome}
use Rattle.s3r_desk.specs.declared.worker_turn.WorkerTurn.{WorkerTurn}
use Rattle.s3r_desk.specs.declared.worker_turn.WorkerTurn.TheVariants as worker
use Rattle.s3r_desk.specs.declared.worker_turn.TurnOutcome.{TurnOutcome}
use Rattle.s3r_desk.specs.declared.turning.Turn.{Turn}
use Rattle.s3r_desk.specs.declared.turning.Turn.TheVariants.{Step, Copy, Jobs, Work}
use Rattle.s3r_desk.specs.declared.request.Request.{Request}
use Rattle.s3r_desk.specs.declared.request.Answer.{Answer}
use Rattle.s3r_desk.specs.Events.{found, began, answered, Events, history_at}
use Rattle.s3r_desk.specs.Steps.{Commit, Histories, made, after_commit, step}
use Rattle.s3r_desk.specs.Comparing.{disagreement}
use Rattle.s3r_desk.specs.Stopping.{StopsAt, IsStarved}
use Rattle.s3r_desk.specs.Copying.{clean, IsMissed, IsTry, TurnsOut, IsTouched, IsCopyTurn}
use Rattle.s3r_desk.specs.JobTurns.{StepComes, StepOrIdle, IsJobTurn}
use Rattle.s3r_desk.specs.Rounds.{rounds}
use Rattle.s3r_desk.specs.Works.{Reads, IsWorkerTurn, Made, Then, AreMade}
use Rattle.s3r_desk.specs.Responds.{IsBelow, AreTouched, Comes, StepsUnless, IsStepTurn, turn_of, IsCopied, IsStepped, IsWorked, TurnsBy, IsTurn}
use Rattle.s3r_service.specs.Passing.{output_of}
use Rattle.s3r_service.proofs.Passing.{output_then}

touched_silent : (P : ℕ → History → Type 0) (among : ℕ → Type 0) (before events : Events) → AreTouched P among before events → output_of events ≡ []
touched_silent P among before [] t = refl
touched_silent P among before (found r h ∷ events) t = touched_silent P among before events t.2
touched_silent P among before (began r c ∷ events) t = absurd t
touched_silent P among before (answered text ∷ events) t = absurd t

made_silent : (at : Histories) (commits : List Commit) → output_of (made at commits) ≡ []
made_silent at [] = refl
made_silent at (commit ∷ commits) =
    output_then (made (after_commit commit at) commits) (found commit.region (commit.command ∷ at commit.region) ∷ began commit.region commit.command ∷ [])
    ∙ made_silent (after_commit commit at) commits

-- a first part of the commits, and what happened to the next
stops_silent : (room : ℕ → ℕ) (at : Histories) (commits : List Commit) (events : Events) (stops : StopsAt room at commits events) → output_of stops.last ≡ []
    → output_of events ≡ []
stops_silent room at commits events stops last =
    ap output_of stops.events_are ∙ output_then stops.last (made at stops.first) ∙ ap (λ (l : List ℕ). l ++ output_of stops.last) (made_silent at stops.first)
    ∙ last

comes_silent : (room : ℕ → ℕ) (at : Histories) (commits : List Commit) (reply : Answer) (events : Events) (result : Result Answer DeskFault)
    → Comes room at commits reply events result → output_of events ≡ []
comes_silent room at commits reply events (Ok a) comes = ap output_of comes.1 ∙ made_silent at commits
comes_silent room at commits reply events (Err (faults.Volume v)) comes = stops_silent room at commits events comes.stops (ap output_of comes.doubt)
comes_silent room at commits reply events (Err (faults.Full v)) comes = stops_silent room at commits events comes.stops (ap output_of comes.none)
comes_silent room at commits reply events (Err (faults.Damaged v offset)) comes = absurd comes
comes_silent room at commits reply events (Err (faults.Disagree from to sent last settled received)) comes = absurd comes
comes_silent room at commits reply events (Err faults.OutOfMemory) comes = ⊎_elim
    (λ none. ap output_of none)
    (λ (stops, last). stops_silent room at commits events stops (⊎_elim (λ none. ap output_of none) (λ doubt. ap output_of doubt) last))
    comes

steps_silent : (fault : Option DeskFault) (n : ℕ) (room : ℕ → ℕ) (at : Histories) (request : Request) (events : Events) (result : Result Answer DeskFault)
    → StepsUnless fault n room at request events result → output_of events ≡ []
steps_silent None n room at request events result steps = let s = step n at request in comes_silent room at s.commits s.reply events result steps
steps_silent (Some fault) n room at request events result steps = ap output_of steps.1

step_silent : (P : ℕ → History → Type 0) (n : ℕ) (room : ℕ → ℕ) (before : Events) (request : Request) (result : Result Answer DeskFault)
    (events : Events) → IsStepTurn P n room before request result events → output_of events ≡ []
step_silent P n room before request result events t =
    ap output_of t.parts ∙ output_then t.rest t.touched ∙ ap (λ (l : List ℕ). l ++ output_of t.rest) (touched_silent P (IsBelow n) before t.touched t.touches)
    ∙ ⊎_elim
    (λ (known, steps). let at = history_at (t.touched ++ before) in steps_silent (disagreement n at) n room at request t.rest result steps)
    (λ (none, fails). ap output_of none)
    t.steps

-- ---- a turn of the copier

one_silent : (P : ℕ → History → Type 0) (before : Events) (r : ℕ) (events : Events) → IsTouched P before r events → output_of events ≡ []
one_silent P before r events touched = ⊎_elim (λ none. ap output_of none) (λ w. ap output_of w.3) touched

doubt_silent : (s d : ℕ) (now : Events) (t : Due) (doubt : Events) → IsMissed s d now t doubt → output_of doubt ≡ []
doubt_silent s d now t doubt miss = ⊎_elim (λ w. ap output_of w.1) (λ w. ap output_of w.2) miss.missed

try_silent : (s d : ℕ) (now events : Events) (Such : Due → Events → Type 0) (try : IsTry s d now events Such) → output_of try.rest ≡ [] → output_of events ≡ []
try_silent s d now events Such try rest = ap output_of try.parts ∙ output_then try.rest try.doubt
    ∙ ap (λ (l : List ℕ). l ++ output_of try.rest) (doubt_silent s d now try.task try.doubt try.missed) ∙ rest

starved_silent : (room : ℕ → ℕ) (at : Histories) (commits : List Commit) (events : Events) → IsStarved room at commits events → output_of events ≡ []
starved_silent room at commits events starved = ⊎_elim
    (λ none. ap output_of none)
    (λ (stops, last). stops_silent room at commits events stops (⊎_elim (λ none. ap output_of none) (λ doubt. ap output_of doubt) last))
    starved

turns_out_silent : (room : ℕ → ℕ) (s d : ℕ) (now events : Events) (result : Result CopyOutcome DeskFault) → TurnsOut room s d now events result
    → output_of events ≡ []
turns_out_silent room s d now events (Ok outcomes.Idle) ends = ap output_of ends.2
turns_out_silent room s d now events (Ok (outcomes.Settled number outcome)) ends =
    ap output_of ends.5 ∙ made_silent (history_at now) (clean s d (history_at now) ends.0)
turns_out_silent room s d now events (Ok (outcomes.Retried number k)) ends = try_silent s d now events _ ends (ap output_of ends.such.2)
turns_out_silent room s d now events (Ok (outcomes.GaveUp number)) ends = try_silent s d now events _ ends (ap output_of ends.such.2)
turns_out_silent room s d now events (Err (faults.Volume v)) fails = ⊎_elim
    (λ w. ap output_of w.0)
    (λ w. ⊎_elim
    (λ cut. stops_silent room (history_at now) (clean s d (history_at now) cut.0) events cut.2.stops (ap output_of cut.2.doubt))
    (λ try. try_silent s d now events _ try (ap output_of try.such.1))
    w.1)
    fails
turns_out_silent room s d now events (Err (faults.Full v)) fails = ⊎_elim
    (λ cut. stops_silent room (history_at now) (clean s d (history_at now) cut.0) events cut.2.stops (ap output_of cut.2.none))
    (λ w. try_silent s d now events _ w.1 (ap output_of w.1.such.1))
    fails
turns_out_silent room s d now events (Err (faults.Damaged v offset)) fails = ap output_of fails.0
turns_out_silent room s d now events (Err (faults.Disagree from to sent last settled received)) fails = ap output_of fails.0
turns_out_silent room s d now events (Err faults.OutOfMemory) fails = ⊎_elim
    (λ none. ap output_of none)
    (λ w. ⊎_elim
    (λ cut. starved_silent room (history_at now) (clean s d (history_at now) cut.0) events cut.2)
    (λ try. try_silent s d now events _ try (ap output_of try.such))
    w)
    fails

pub copy_silent : (P : ℕ → History → Type 0) (room : ℕ → ℕ) (s d : ℕ) (before : Events) (result : Result CopyOutcome DeskFault) (events : Events)
    → IsCopyTurn P room s d before result events → output_of events ≡ []
copy_silent P room s d before result events t =
    ap output_of t.parts ∙ output_then t.rest (t.receiver ++ t.sender) ∙ ap (λ (l : List ℕ). l ++ output_of t.rest) (output_then t.receiver t.sender
    ∙ ap (λ (l : List ℕ). l ++ output_of t.receiver) (one_silent P before s t.sender t.touches_sender)
    ∙ one_silent P (t.sender ++ before) d t.receiver t.touches_receiver)
    ∙ turns_out_silent room s d ((t.receiver ++ t.sender) ++ before) t.rest result t.comes

copied_silent : (P : ℕ → History → Type 0) (room : ℕ → ℕ) (s d : ℕ) (before : Events) (result : Result Answer DeskFault) (events : Events) (b : Bool)
    → IsCopied P room s d before result events b → output_of events ≡ []
copied_silent P room s d before result events true did = copy_silent P room s d before did.0 events did.2
copied_silent P room s d before result events false did = ap output_of did.1

-- a turn of a region's jobs puts out nothing
job_comes_silent : (room : ℕ → ℕ) (r : ℕ) (h : History) (step : NextStep) (events : Events) (result : Result JobOutcome DeskFault)
    → StepComes room r h step events result → output_of events ≡ []
job_comes_silent room r h step events (Ok outcome) comes = ap output_of comes.2
job_comes_silent room r h step events (Err (faults.Volume v)) comes = ap output_of comes.2
job_comes_silent room r h step events (Err (faults.Full v)) comes = ap output_of comes.2
job_comes_silent room r h step events (Err (faults.Damaged v offset)) comes = absurd comes
job_comes_silent room r h step events (Err (faults.Disagree from to sent last settled received)) comes = absurd comes
job_comes_silent room r h step events (Err faults.OutOfMemory) comes = ap output_of comes

or_idle_silent : (o : Option NextStep) (n : ℕ) (room : ℕ → ℕ) (r : ℕ) (h : History) (events : Events) (result : Result JobOutcome DeskFault)
    → StepOrIdle o n room r h events result → output_of events ≡ []
or_idle_silent None n room r h events result did = ap output_of did.1
or_idle_silent (Some step) n room r h events result did = job_comes_silent room r h step events result did.comes

pub jobs_silent : (P : ℕ → History → Type 0) (n : ℕ) (room : ℕ → ℕ) (r : ℕ) (before : Events) (result : Result JobOutcome DeskFault) (events : Events)
    → IsJobTurn P n room r before result events → output_of events ≡ []
jobs_silent P n room r before result events t =
    ap output_of t.parts ∙ output_then t.rest t.touched ∙ ap (λ (l : List ℕ). l ++ output_of t.rest) (one_silent P before r t.touched t.touches)
    ∙ ⊎_elim
    (λ w. or_idle_silent (step_after r (history_at (t.touched ++ before) r)) n room r (history_at (t.touched ++ before) r) t.rest result w.1)
    (λ none. ap output_of none.0)
    t.comes

stepped_silent : (P : ℕ → History → Type 0) (n : ℕ) (room : ℕ → ℕ) (r : ℕ) (before : Events) (result : Result Answer DeskFault) (events : Events) (b : Bool)
    → IsStepped P n room r before result events b → output_of events ≡ []
stepped_silent P n room r before result events true did = jobs_silent P n room r before did.0 events did.2
stepped_silent P n room r before result events false did = ap output_of did.1

-- nor do turns one after another
pub worker_silent : (turn : WorkerTurn) (n : ℕ) (room : ℕ → ℕ) (now : Image) (before : Events) (result : Result TurnOutcome DeskFault) (events : Events)
    → IsWorkerTurn turn n room now before result events → output_of events ≡ []
worker_silent (worker.Copy s d) n room now before result events did = copy_silent (Reads n now) room s d before did.0 events did.2
worker_silent (worker.Jobs r) n room now before result events did = jobs_silent (Reads n now) n room r before did.0 events did.2

turns_made_silent : (turns : List WorkerTurn) (n : ℕ) (room : ℕ → ℕ) (start : Image) (before past : Events) (made : Made) (events : Events)
    → AreMade turns n room start before past made events → output_of events ≡ []
turns_made_silent [] n room start before past made events did = ap output_of did.1
turns_made_silent (turn ∷ turns) n room start before past made events did =
    behind did.3 (worker_silent turn n room did.0 (past ++ before) did.3 did.2 did.4)
    (λ rest ahead. turns_made_silent turns n room start before (did.2 ++ past) rest ahead) did.5
  where
    behind : (result : Result TurnOutcome DeskFault) → output_of did.2 ≡ []
        → ((rest : Made) (ahead : Events) → AreMade turns n room start before (did.2 ++ past) rest ahead → output_of ahead ≡ [])
        → Then n did.0 result did.2 made events (λ rest ahead. AreMade turns n room start before (did.2 ++ past) rest ahead) → output_of events ≡ []
    behind (Ok outcome) one all t =
        ap output_of t.3 ∙ output_then t.1 did.2 ∙ ap (λ (l : List ℕ). l ++ output_of t.1) one ∙ all t.0 t.1 t.4
    behind (Err fault) one all t = ap output_of t.1 ∙ one

worked_silent : (n : ℕ) (room : ℕ → ℕ) (seen : Image) (k : ℕ) (before : Events) (result : Result Answer DeskFault) (events : Events)
    → IsWorked n room seen k before result events → output_of events ≡ []
worked_silent n room seen k before result events did = ⊎_elim
    (λ w. turns_made_silent (rounds k n) n room seen before [] w.0 events w.1)
    (λ none. ap output_of none.1)
    did

turns_by_silent : (n : ℕ) (room : ℕ → ℕ) (seen : Image) (before : Events) (request : Request) (result : Result Answer DeskFault)
    (events : Events) (t : Turn) → TurnsBy t n room seen before request result events → output_of events ≡ []
turns_by_silent n room seen before request result events Step turn = step_silent (Reads n seen) n room before request result events turn.0
turns_by_silent n room seen before request result events (Copy s d) turn = copied_silent (Reads n seen) room s d before result events _ turn.0
turns_by_silent n room seen before request result events (Jobs r) turn = stepped_silent (Reads n seen) n room r before result events _ turn.0
turns_by_silent n room seen before request result events (Work k) turn = worked_silent n room seen k before result events turn

pub turn_silent : (n : ℕ) (room : ℕ → ℕ) (seen : Image) (before : Events) (request : Request) (result : Result Answer DeskFault) (events : Events)
    → IsTurn n room seen before request result events → output_of events ≡ []
turn_silent n room seen before request result events turn = turns_by_silent n room seen before request result events (turn_of request) turn
