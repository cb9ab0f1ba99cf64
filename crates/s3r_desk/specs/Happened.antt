-- What calls on single regions do.
use Rattle.std.specs.Prelude.{◌≡◌, ℕ, ◌+◌, ◌<◌, ◌≤◌, nat_lt, ◌&&◌, [], ◌∷◌, ◌++◌, List, length, Option, Some, None, IsSome, Result, Ok, Err, slice_get}
use Rattle.s3r_world.specs.declared.world.Side.TheVariants as side
use Rattle.s3r_world.specs.Outside.{Outside, Counts, NoneFalls, Rises}
use Rattle.s3r_names.specs.declared.outcome.Outcome.{Outcome}
use Rattle.s3r_record.specs.declared.command.Command.{Command}
use Rattle.s3r_record.specs.declared.command.Command.TheVariants as command
use Rattle.s3r_queue.specs.declared.inbox.Arrival.TheVariants as arrivals
use Rattle.s3r_history.specs.Words.{History}
use Rattle.s3r_history.specs.Accepts.{refusal}
use Rattle.s3r_history.specs.declared.due.Due.{Due}
use Rattle.s3r_store.specs.Commits.{length_with}
use Rattle.s3r_store.specs.declared.store.Store.{Store}
use Rattle.s3r_store.specs.Knows.{IsStoreAfter}
use Rattle.s3r_desk.specs.declared.fault.DeskFault.{DeskFault}
use Rattle.s3r_desk.specs.declared.fault.DeskFault.TheVariants as faults
use Rattle.s3r_desk.specs.Events.{found, began, Events, known, history_at}
use Rattle.s3r_desk.specs.Keeping.{Keeps}
use Rattle.s3r_desk.specs.Progress.{Happens}
use Rattle.s3r_desk.specs.declared.request.Answer.{Answer}
use Rattle.s3r_desk.specs.Responds.{IsCopied, IsStepped}
use Rattle.s3r_desk.specs.declared.job_outcome.JobOutcome.{JobOutcome}
use Rattle.s3r_jobs.specs.declared.turn.NextStep.{NextStep}
use Rattle.s3r_batches.specs.Turns.{step_after}
use Rattle.s3r_desk.specs.JobTurns.{IsStepMade, StepOrIdle, IsJobTurn}
use Rattle.s3r_desk.specs.declared.copy_outcome.CopyOutcome.{CopyOutcome}
use Rattle.s3r_desk.specs.declared.copy_outcome.CopyOutcome.TheVariants as outcomes
use Rattle.s3r_desk.specs.Steps.{made, FitRooms}
use Rattle.s3r_desk.specs.Copying.{due_of, arrival_at, outcome_at, delivery, tried, TurnsOut, IsTouched, IsCopyTurn, AreCounted}

-- Events that are such came behind those before: what is known of the regions then, and what came to pass.
pub record Happened (Such : Events → Type 0) (before : Events) (a b : List Store) (old new : Outside) : Type 0 where
  pub events : Events
  pub such : Such events
  pub keeps : Keeps (events ++ before) b new
  pub happens : Happens (length a) events old new

-- a region was touched, or why not
abbrev pub IsTouch : {A : Type 0} → (ℕ → History → Type 0) → Events → ℕ → Result A DeskFault → Events → Type 0
IsTouch P before r (Ok x) events = IsTouched P before r events × IsSome (known (events ++ before) r)
IsTouch P before r (Err (faults.Volume v)) events = (v ≡ r) × (known before r ≡ None) × (events ≡ [])
IsTouch P before r (Err (faults.Full v)) events = ⊥
IsTouch P before r (Err (faults.Damaged v offset)) events = (v ≡ r) × (known before r ≡ None) × (events ≡ [])
IsTouch P before r (Err (faults.Disagree from to sent last settled received)) events = ⊥
IsTouch P before r (Err faults.OutOfMemory) events = events ≡ []

-- a command that its region accepts was committed, or is in doubt, or passes the room
abbrev pub IsCommit : {A : Type 0} → (ℕ → ℕ) → Events → ℕ → Command → Result A DeskFault → Events → Type 0
IsCommit room before r c (Ok x) events =
    (length_with r (history_at before r) c ≤ room r) × (events ≡ found r (c ∷ history_at before r) ∷ began r c ∷ [])
IsCommit room before r c (Err (faults.Volume v)) events = (v ≡ r) × (length_with r (history_at before r) c ≤ room r) × (events ≡ began r c ∷ [])
IsCommit room before r c (Err (faults.Full v)) events = (v ≡ r) × (room r < length_with r (history_at before r) c) × (events ≡ [])
IsCommit room before r c (Err (faults.Damaged v offset)) events = ⊥
IsCommit room before r c (Err (faults.Disagree from to sent last settled received)) events = ⊥
IsCommit room before r c (Err faults.OutOfMemory) events = events ≡ began r c ∷ []

-- an attempt was noted at s, where there had been so many
abbrev pub IsTried : (ℕ → ℕ) → (s d number attempts : ℕ) → Events → Result CopyOutcome DeskFault → Events → Type 0
IsTried room s d number attempts before (Ok outcome) events =
    (outcome ≡ tried number (attempts + 1)) × IsCommit room before s (command.Attempt d number) (Ok outcome) events
IsTried room s d number attempts before (Err fault) events = IsCommit {A = CopyOutcome} room before s (command.Attempt d number) (Err fault) events

-- a task was settled at s
abbrev pub IsSettled : (ℕ → ℕ) → (s d number : ℕ) → Outcome → Events → Result CopyOutcome DeskFault → Events → Type 0
IsSettled room s d number outcome before (Ok given) events =
    (given ≡ outcomes.Settled number outcome) × IsCommit room before s (command.Settle d number outcome) (Ok given) events
IsSettled room s d number outcome before (Err fault) events =
    IsCommit {A = CopyOutcome} room before s (command.Settle d number outcome) (Err fault) events

-- a task was received at d, now or before
abbrev pub IsDelivered : (ℕ → ℕ) → (s d : ℕ) → Due → Events → Result Outcome DeskFault → Events → Type 0
IsDelivered room s d t before (Ok outcome) events = let at = history_at before in let commits = delivery s d t (arrival_at s d (at d) t) in
    (outcome ≡ outcome_at s d (at d) t) × FitRooms room at commits × (events ≡ made at commits)
IsDelivered room s d t before (Err fault) events = (arrival_at s d (history_at before d) t ≡ arrivals.New)
    × IsCommit {A = Outcome} room before d (command.Receive s t.number t.effect) (Err fault) events

-- what a turn comes to behind its touches
pub record Carries (room : ℕ → ℕ) (s d : ℕ) (now : Events) (result : Result CopyOutcome DeskFault) (counts later : Counts) (events : Events) : Type 0 where
  pub comes : TurnsOut room s d now events result
  pub counted : AreCounted result events counts later

-- so it does where the receiver's touch failed: that fault, counted before, is another one than those that are answered or noted
pub record Misses (room : ℕ → ℕ) (s d : ℕ) (now : Events) (result : Result CopyOutcome DeskFault) (counts later : Counts) (events : Events) : Type 0 where
  pub comes : TurnsOut room s d now events result
  pub counted : (start : Counts) → Rises 1 (side.Volume d) start counts → NoneFalls start counts → AreCounted result events start later

-- a whole turn
pub record Copies (P : ℕ → History → Type 0) (room : ℕ → ℕ) (s d : ℕ) (before : Events) (result : Result CopyOutcome DeskFault) (counts later : Counts)
    (events : Events) : Type 0 where
  pub turn : IsCopyTurn P room s d before result events
  pub counted : AreCounted result events counts later

-- so much for a request that asks for it between these, of n regions
pub record CopiesBetween (P : ℕ → History → Type 0) (n : ℕ) (room : ℕ → ℕ) (s d : ℕ) (before : Events) (result : Result Answer DeskFault)
    (counts later : Counts) (events : Events) : Type 0 where
  pub turn : IsCopied P room s d before result events (nat_lt s n && nat_lt d n)
  pub counted : AreCounted result events counts later

-- the step of a job was made at r, one of n
abbrev pub MakesStep : ℕ → (ℕ → ℕ) → ℕ → NextStep → Events → Result JobOutcome DeskFault → Events → Type 0
MakesStep n room r step before result events = IsStepMade n room r (history_at before r) step events result

-- the next step of r's jobs was, where one of them has one
abbrev pub StepsOrIdles : ℕ → (ℕ → ℕ) → ℕ → Events → Result JobOutcome DeskFault → Events → Type 0
StepsOrIdles n room r before result events = let h = history_at before r in StepOrIdle (step_after r h) n room r h events result

-- a turn of a region's jobs
pub record JobsStep (P : ℕ → History → Type 0) (n : ℕ) (room : ℕ → ℕ) (r : ℕ) (before : Events) (result : Result JobOutcome DeskFault)
    (counts later : Counts) (events : Events) : Type 0 where
  pub turn : IsJobTurn P n room r before result events
  pub counted : AreCounted result events counts later

-- so much for a request that asks for it, where there are n regions
pub record StepsJobs (P : ℕ → History → Type 0) (n : ℕ) (room : ℕ → ℕ) (r : ℕ) (before : Events) (result : Result Answer DeskFault)
    (counts later : Counts) (events : Events) : Type 0 where
  pub turn : IsStepped P n room r before result events (nat_lt r n)
  pub counted : AreCounted result events counts later

-- ---- one store of several

abbrev pub StoreHas : (Store → Type 0) → List Store → ℕ → Type 0
StoreHas P stores r = (s : Store) → slice_get stores r ≡ Some s → P s

-- it was read
abbrev pub IsReadAt : List Store → ℕ → Type 0
IsReadAt stores r = StoreHas (λ s. IsSome s.held) stores r

-- each history that its state is after accepts the command
abbrev pub IsAcceptedAt : List Store → ℕ → Command → Type 0
IsAcceptedAt stores r c = StoreHas (λ s. (h : History) → IsStoreAfter s h → refusal s.regions s.v h c ≡ None) stores r

-- the first pending task to d is this one, where there is one
abbrev pub IsFirstDueAt : List Store → (s d : ℕ) → Option Due → Type 0
IsFirstDueAt stores s d o = StoreHas (λ x. (h : History) → IsStoreAfter x h → due_of x.v d h ≡ o) stores s

abbrev pub IsDueAt : List Store → (s d : ℕ) → Due → Type 0
IsDueAt stores s d t = IsFirstDueAt stores s d (Some t)

-- the store was read, and its state went on to be after the command
abbrev pub GoesOnAt : List Store → List Store → ℕ → Command → Type 0
GoesOnAt a b r c = StoreHas (λ s. StoreHas (λ x. IsSome x.held × ((h : History) → IsStoreAfter s h → IsStoreAfter x (c ∷ h))) b r) a r

-- every other store is as it was
abbrev pub AreLeftBut : ℕ → List Store → List Store → Type 0
AreLeftBut r a b = (q : ℕ) → (q ≡ r → ⊥) → slice_get b q ≡ slice_get a q
