-- What the desk does at a request.
use Rattle.std.specs.Prelude.{◌≡◌, ◌⊎◌, ℕ, ◌+◌, ◌<◌, ◌≤◌, nat_lt, Bool, true, false, ◌&&◌, List, [], ◌∷◌, ◌++◌, length, Option, Some, None, Result, Ok, Err, OnErr, IsSome}
use Rattle.s3r_world.specs.Image.{Image}
use Rattle.s3r_world.specs.declared.world.Side.TheVariants as side
use Rattle.s3r_world.specs.Outside.{Outside, Looks, Counts, Rises}
use Rattle.s3r_record.specs.declared.command.Command.{Command}
use Rattle.s3r_history.specs.Words.{History}
use Rattle.s3r_history.specs.Accepts.{refusal}
use Rattle.s3r_desk.specs.declared.committing.Committed.{Committed}
use Rattle.s3r_desk.specs.declared.committing.Committed.TheVariants as committed
use Rattle.s3r_store.specs.Stands.{StandsFor}
use Rattle.s3r_store.specs.Commits.{length_with}
use Rattle.s3r_store.specs.declared.store.Store.{Store}
use Rattle.s3r_desk.specs.declared.fault.DeskFault.{DeskFault}
use Rattle.s3r_desk.specs.declared.fault.DeskFault.TheVariants as faults
use Rattle.s3r_history.specs.declared.refusal.Refusal.TheVariants as refusals
use Rattle.s3r_desk.specs.declared.copy_outcome.CopyOutcome.{CopyOutcome}
use Rattle.s3r_desk.specs.declared.job_outcome.JobOutcome.{JobOutcome}
use Rattle.s3r_desk.specs.declared.work_summary.WorkSummary.{WorkSummary}
use Rattle.s3r_desk.specs.declared.turning.Turn.{Turn}
use Rattle.s3r_desk.specs.declared.turning.Turn.TheVariants.{Step, Copy, Jobs, Work}
use Rattle.s3r_desk.specs.declared.request.Request.{Request}
use Rattle.s3r_desk.specs.declared.request.Request.TheVariants as request
use Rattle.s3r_desk.specs.declared.request.Answer.{Answer}
use Rattle.s3r_desk.specs.declared.request.Answer.TheVariants as answer
use Rattle.s3r_desk.specs.Events.{found, began, answered, Events, known, history_at}
use Rattle.s3r_desk.specs.declared.planning.Plan.TheVariants.{Commits}
use Rattle.s3r_desk.specs.declared.planning.Reply.{Reply}
use Rattle.s3r_desk.specs.Steps as steps
use Rattle.s3r_desk.specs.Steps.{Histories, Commit, step, made_of, made, FitRooms}
use Rattle.s3r_desk.specs.Comparing.{disagreement}
use Rattle.s3r_desk.specs.Stopping.{IsBegun, PassesRoom, IsStarved}
use Rattle.s3r_desk.specs.Copying.{IsCopyTurn, AreCounted}
use Rattle.s3r_desk.specs.JobTurns.{IsJobTurn}
use Rattle.s3r_desk.specs.Damage.{IsDamage}
use Rattle.s3r_desk.specs.Rounds.{rounds}
use Rattle.s3r_desk.specs.Works.{Reads, Made, AreMade, worked}
use Rattle.s3r_desk.specs.Keeping.{Keeps}
use Rattle.s3r_desk.specs.Progress.{Happens}

-- all of so many regions
abbrev pub IsBelow : ℕ → ℕ → Type 0
IsBelow n r = r < n

-- The first region among those that a turn touches that isn't known.
pub record IsNext (among : ℕ → Type 0) (events : Events) (v : ℕ) : Type 0 where
  pub here : among v
  pub unread : known events v ≡ None
  pub others : (r : ℕ) → among r → r < v → IsSome (known events r)

-- regions among those that a turn touches weren't known, and were found, in order, to have histories that have P
abbrev pub AreTouched : (ℕ → History → Type 0) → (ℕ → Type 0) → Events → Events → Type 0
AreTouched P among before [] = Unit {0}
AreTouched P among before (found r h ∷ events) = IsNext among (events ++ before) r × P r h × AreTouched P among before events
AreTouched P among before (began r c ∷ events) = ⊥
AreTouched P among before (answered text ∷ events) = ⊥

-- the history of each of them is known
abbrev pub AreKnown : (ℕ → Type 0) → Events → Type 0
AreKnown among events = (r : ℕ) → among r → IsSome (known events r)

-- What a request comes to where all histories are known: its step, whole; or a first part of its commits, and the next
-- in doubt or past its volume's room.
abbrev pub Comes : (ℕ → ℕ) → Histories → List Commit → Answer → Events → Result Answer DeskFault → Type 0
Comes room at commits reply events (Ok a) = (a ≡ reply) × (events ≡ made at commits) × FitRooms room at commits
Comes room at commits reply events (Err (faults.Volume v)) = IsBegun room v at commits events
Comes room at commits reply events (Err (faults.Full v)) = PassesRoom room v at commits events
Comes room at commits reply events (Err (faults.Damaged v offset)) = ⊥
Comes room at commits reply events (Err (faults.Disagree from to sent last settled received)) = ⊥
Comes room at commits reply events (Err faults.OutOfMemory) = IsStarved room at commits events

-- a pair of regions disagrees so, and nothing is done; or none does, and the request's step is made
abbrev pub StepsUnless : Option DeskFault → ℕ → (ℕ → ℕ) → Histories → Request → Events → Result Answer DeskFault → Type 0
StepsUnless None n room at request events result = let s = step n at request in Comes room at s.commits s.reply events result
StepsUnless (Some fault) n room at request events result = (result ≡ Err fault) × (events ≡ [])

-- all pairs are compared, and then the step is made
abbrev pub Steps : ℕ → (ℕ → ℕ) → Events → Request → Events → Result Answer DeskFault → Type 0
Steps n room before request events result = let at = history_at before in StepsUnless (disagreement n at) n room at request events result

-- a touch of the next region failed: by its volume's fault, its damage or want of memory
abbrev pub FailsToTouch : {A : Type 0} → (ℕ → Type 0) → Events → Result A DeskFault → Type 0
FailsToTouch among events (Ok a) = ⊥
FailsToTouch among events (Err (faults.Volume v)) = IsNext among events v
FailsToTouch among events (Err (faults.Full v)) = ⊥
FailsToTouch among events (Err (faults.Damaged v offset)) = IsNext among events v
FailsToTouch among events (Err (faults.Disagree from to sent last settled received)) = ⊥
FailsToTouch among events (Err faults.OutOfMemory) = (v : ℕ) × IsNext among events v

-- All regions are touched in order, and then all pairs are compared and the request's step is made; or a touch fails.
pub record IsStepTurn (P : ℕ → History → Type 0) (n : ℕ) (room : ℕ → ℕ) (before : Events) (request : Request) (result : Result Answer DeskFault)
    (events : Events) : Type 0 where
  pub touched : Events
  pub rest : Events
  pub parts : events ≡ rest ++ touched
  pub touches : AreTouched P (IsBelow n) before touched
  pub steps : (AreKnown (IsBelow n) (touched ++ before) × Steps n room (touched ++ before) request rest result)
      ⊎ ((rest ≡ []) × FailsToTouch (IsBelow n) (touched ++ before) result)

-- a request takes a turn of the copier, or of a region's jobs, or rounds of them, or is a step over all regions
abbrev pub turn_of : Request → Turn
turn_of (request.CreateBucket name region locked) = Step
turn_of (request.HeadBucket name) = Step
turn_of (request.DeleteBucket name) = Step
turn_of (request.PutVersioning name enabled) = Step
turn_of (request.GetVersioning name) = Step
turn_of (request.PutReplication name config) = Step
turn_of (request.GetReplication name) = Step
turn_of (request.DeleteReplication name) = Step
turn_of (request.ListVersions name prefix after limit) = Step
turn_of (request.PutObject b key body tags hold class) = Step
turn_of (request.GetObject b key version head) = Step
turn_of (request.DeleteObject b key version) = Step
turn_of (request.PutTags b key version tags gone) = Step
turn_of (request.GetTags b key version) = Step
turn_of (request.PutHold b key version hold) = Step
turn_of (request.GetHold b key version) = Step
turn_of (request.Copy from to) = Copy from to
turn_of (request.CreateJob spec) = Step
turn_of (request.SetJobPriority id priority) = Step
turn_of (request.SetJobStatus id ready) = Step
turn_of (request.JobTurn region) = Jobs region
turn_of (request.Work rounds) = Work rounds

-- what a turn came to, as its answer
abbrev pub copied : Result CopyOutcome DeskFault → Result Answer DeskFault
copied (Ok outcome) = Ok (answer.Copied outcome)
copied (Err fault) = Err fault

-- The copier makes its turn where both regions are there. Else nothing is touched.
abbrev pub IsCopied : (ℕ → History → Type 0) → (ℕ → ℕ) → (s d : ℕ) → Events → Result Answer DeskFault → Events → Bool → Type 0
IsCopied P room s d before result events true =
    (outcome : Result CopyOutcome DeskFault) × (result ≡ copied outcome) × IsCopyTurn P room s d before outcome events
IsCopied P room s d before result events false = (result ≡ Ok (answer.Refused refusals.InvalidArgument)) × (events ≡ [])

-- what a turn of jobs came to, as its answer
abbrev pub stepped : Result JobOutcome DeskFault → Result Answer DeskFault
stepped (Ok outcome) = Ok (answer.JobStep outcome)
stepped (Err fault) = Err fault

-- The turn of a region's jobs is made where the region is there. Else nothing is touched.
abbrev pub IsStepped : (ℕ → History → Type 0) → ℕ → (ℕ → ℕ) → ℕ → Events → Result Answer DeskFault → Events → Bool → Type 0
IsStepped P n room r before result events true =
    (outcome : Result JobOutcome DeskFault) × (result ≡ stepped outcome) × IsJobTurn P n room r before outcome events
IsStepped P n room r before result events false = (result ≡ Ok (answer.Refused refusals.InvalidArgument)) × (events ≡ [])

-- what rounds came to, as their answer
abbrev pub as_worked : Result WorkSummary DeskFault → Result Answer DeskFault
as_worked (Ok summary) = Ok (answer.Worked summary)
as_worked (Err fault) = Err fault

-- The turns of so many rounds are made in order, up to the first fault. Where there is no memory none is made.
abbrev pub IsWorked : ℕ → (ℕ → ℕ) → Image → ℕ → Events → Result Answer DeskFault → Events → Type 0
IsWorked n room seen k before result events =
    ((made : Made) × AreMade (rounds k n) n room seen before [] made events × (result ≡ as_worked (worked k made)))
    ⊎ ((result ≡ Err faults.OutOfMemory) × (events ≡ []))

abbrev pub TurnsBy : Turn → ℕ → (ℕ → ℕ) → Image → Events → Request → Result Answer DeskFault → Events → Type 0
TurnsBy Step n room seen before request result events = IsStepTurn (Reads n seen) n room before request result events × IsDamage n seen result
TurnsBy (Copy s d) n room seen before request result events =
    IsCopied (Reads n seen) room s d before result events (nat_lt s n && nat_lt d n) × IsDamage n seen result
TurnsBy (Jobs r) n room seen before request result events = IsStepped (Reads n seen) n room r before result events (nat_lt r n) × IsDamage n seen result
TurnsBy (Work k) n room seen before request result events = IsWorked n room seen k before result events

-- a request takes its turn, the volumes being as they are seen
abbrev pub IsTurn : ℕ → (ℕ → ℕ) → Image → Events → Request → Result Answer DeskFault → Events → Type 0
IsTurn n room seen before request result events = TurnsBy (turn_of request) n room seen before request result events

-- what a volume's bytes stand for
abbrev pub AsRead : ℕ → Outside → ℕ → History → Type 0
AsRead n w r h = StandsFor n r h (w.as_read.volume r)

-- a touch of this region failed
abbrev pub FailsAt : {A : Type 0} → ℕ → Result A DeskFault → Type 0
FailsAt r (Ok a) = ⊥
FailsAt r (Err (faults.Volume v)) = v ≡ r
FailsAt r (Err (faults.Full v)) = ⊥
FailsAt r (Err (faults.Damaged v offset)) = v ≡ r
FailsAt r (Err (faults.Disagree from to sent last settled received)) = ⊥
FailsAt r (Err faults.OutOfMemory) = Unit {0}

-- The regions were touched in order, up to the first fault.
pub record Touches (before : Events) (result : Result (Unit {0}) DeskFault) (a b : List Store) (old new : Outside) : Type 0 where
  pub touched : Events
  pub touches : AreTouched (AsRead (length a) old) (IsBelow (length a)) before touched
  pub keeps : Keeps (touched ++ before) b new
  pub looks : Looks old new
  pub happens : Happens (length a) touched old new
  pub fails : OnErr result (FailsToTouch (IsBelow (length a)) (touched ++ before) result)

-- A command was committed to a region of this history, or not.
abbrev pub CommitsOne : Events → ℕ → ℕ → History → Command → ℕ → Result Committed DeskFault → List Store → Outside → Outside → Type 0
CommitsOne before n r h c room (Ok (committed.At index)) b old new =
    (index ≡ length h + 1) × (refusal n r h c ≡ None) × (length_with r h c ≤ room) × Keeps (found r (c ∷ h) ∷ began r c ∷ before) b new
    × Happens n (found r (c ∷ h) ∷ began r c ∷ []) old new
CommitsOne before n r h c room (Ok (committed.Refused why)) b old new = (refusal n r h c ≡ Some why) × Keeps before b new × Happens n [] old new
CommitsOne before n r h c room (Err (faults.Volume v)) b old new =
    (v ≡ r) × (refusal n r h c ≡ None) × (length_with r h c ≤ room) × Keeps (began r c ∷ before) b new × Happens n (began r c ∷ []) old new
CommitsOne before n r h c room (Err (faults.Full v)) b old new = (v ≡ r) × (refusal n r h c ≡ None) × (room < length_with r h c) × Keeps before b new
    × Happens n [] old new
CommitsOne before n r h c room (Err (faults.Damaged v offset)) b old new = ⊥
CommitsOne before n r h c room (Err (faults.Disagree from to sent last settled received)) b old new = ⊥
CommitsOne before n r h c room (Err faults.OutOfMemory) b old new = (refusal n r h c ≡ None) × Keeps (began r c ∷ before) b new
    × Happens n (began r c ∷ []) old new

-- A step was made, all regions being read: whole, or its commit is in doubt, or nothing was done.
pub record Came (before : Events) (s : steps.Step) (result : Result Answer DeskFault) (room : ℕ → ℕ) (a b : List Store) (old new : Outside) : Type 0 where
  pub rest : Events
  pub comes : Comes room (history_at before) s.commits s.reply rest result
  pub keeps : Keeps (rest ++ before) b new
  pub happens : Happens (length a) rest old new

-- A request was answered, all regions being read: a pair of them disagrees, or its step was made.
pub record Answers (before : Events) (request : Request) (result : Result Answer DeskFault) (room : ℕ → ℕ) (a b : List Store) (old new : Outside) : Type 0 where
  pub rest : Events
  pub steps : Steps (length a) room before request rest result
  pub keeps : Keeps (rest ++ before) b new
  pub happens : Happens (length a) rest old new

-- a command was committed to a region, and answered so
abbrev pub Makes : Events → ℕ → Command → Reply → Result Answer DeskFault → (ℕ → ℕ) → List Store → List Store → Outside → Outside → Type 0
Makes before r c reply result room a b old new = Came before (made_of (length a) (history_at before) (Commits r c reply)) result room a b old new

-- The desk did this at a request.
pub record Responds (before : Events) (request : Request) (result : Result Answer DeskFault) (room : ℕ → ℕ) (a b : List Store) (old new : Outside)
    (counts later : Counts) : Type 0 where
  pub events : Events
  pub turn : IsTurn (length a) room old.as_read before request result events
  pub keeps : Keeps (events ++ before) b new
  pub happens : Happens (length a) events old new
  pub counted : AreCounted result events counts later

-- a fault was counted, and is told of its volume
abbrev pub HasCause : {A : Type 0} → ℕ → Result A DeskFault → Counts → Counts → Type 0
HasCause n (Ok a) old new = Unit {0}
HasCause n (Err (faults.Volume v)) old new = (v < n) × Rises 1 (side.Volume v) old new
HasCause n (Err (faults.Full v)) old new = v < n
HasCause n (Err (faults.Damaged v offset)) old new = v < n
HasCause n (Err (faults.Disagree from to sent last settled received)) old new = Unit {0}
HasCause n (Err faults.OutOfMemory) old new = Unit {0}
