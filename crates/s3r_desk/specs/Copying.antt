-- What a turn of the copier does, from a region s to a region d.
use Rattle.std.specs.Prelude.{◌≡◌, ◌≢◌, ◌⊎◌, ℕ, ◌+◌, ◌<◌, ◌≤◌, ◌==◌, not, Bool, false, List, [], ◌∷◌, ◌++◌, Option, Some, None, IsSome, Result, Ok, Err, if◌then◌else◌}
use Rattle.s3r_world.specs.declared.world.Side.TheVariants as side
use Rattle.s3r_world.specs.Outside.{Counts, Rises}
use Rattle.s3r_names.specs.declared.outcome.Outcome.{Outcome}
use Rattle.s3r_record.specs.declared.command.Command.{Command}
use Rattle.s3r_record.specs.declared.command.Command.TheVariants as command
use Rattle.s3r_queue.specs.declared.inbox.Arrival.{Arrival}
use Rattle.s3r_queue.specs.declared.inbox.Arrival.TheVariants as arrivals
use Rattle.s3r_queue.specs.Received.{arrival_of}
use Rattle.s3r_history.specs.Words.{History}
use Rattle.s3r_history.specs.Deeds.{deeds, judge}
use Rattle.s3r_history.specs.Tasks.{last_from}
use Rattle.s3r_history.specs.declared.due.Due.{Due}
use Rattle.s3r_history.specs.Due.{first_due}
use Rattle.s3r_store.specs.Commits.{length_with}
use Rattle.s3r_desk.specs.declared.copy_outcome.CopyOutcome.{CopyOutcome}
use Rattle.s3r_desk.specs.declared.copy_outcome.CopyOutcome.TheVariants as outcomes
use Rattle.s3r_desk.specs.declared.fault.DeskFault.{DeskFault}
use Rattle.s3r_desk.specs.declared.fault.DeskFault.TheVariants as faults
use Rattle.s3r_desk.specs.Events.{found, began, answered, Events, known, history_at}
use Rattle.s3r_desk.specs.Steps.{Commit, Histories, made, FitRooms}
use Rattle.s3r_desk.specs.Comparing.{pair_fault}
use Rattle.s3r_desk.specs.Stopping.{IsBegun, PassesRoom, IsStarved}

-- ---- the commits of a turn

-- the first pending task of region s, whose history is h, to region d
abbrev pub due_of : ℕ → ℕ → History → Option Due
due_of s d h = first_due h (deeds s h) d

-- whether d, whose history is k, received the task
abbrev pub arrival_at : ℕ → ℕ → History → Due → Arrival
arrival_at s d k t = arrival_of (last_from (deeds d k) s) t.number

-- what a task came to, or comes to now
abbrev pub outcome_by : Arrival → Outcome → Outcome
outcome_by arrivals.New now = now
outcome_by (arrivals.Again outcome) now = outcome
outcome_by (arrivals.Behind watermark) now = now

abbrev pub outcome_at : ℕ → ℕ → History → Due → Outcome
outcome_at s d k t = outcome_by (arrival_at s d k t) (judge d k t.effect)

abbrev pub receive : ℕ → ℕ → Due → Commit
receive s d t = record { region = d; command = command.Receive s t.number t.effect }

-- the task is received where it wasn't yet
abbrev pub delivery : ℕ → ℕ → Due → Arrival → List Commit
delivery s d t arrivals.New = receive s d t ∷ []
delivery s d t (arrivals.Again outcome) = []
delivery s d t (arrivals.Behind watermark) = []

abbrev pub settle : ℕ → ℕ → Due → Outcome → Commit
settle s d t outcome = record { region = s; command = command.Settle d t.number outcome }

-- a clean turn: the task is received, and then settled as it came to
abbrev pub clean : ℕ → ℕ → Histories → Due → List Commit
clean s d at t = delivery s d t (arrival_at s d (at d) t) ++ settle s d t (outcome_at s d (at d) t) ∷ []

-- a missed turn: one attempt is noted
abbrev pub attempt : ℕ → ℕ → Due → Commit
attempt s d t = record { region = s; command = command.Attempt d t.number }

-- what so many attempts come to: the eighth gives the task up
abbrev pub tried : ℕ → ℕ → CopyOutcome
tried number attempts = if attempts == 8 then outcomes.GaveUp number else outcomes.Retried number attempts

-- ---- what a turn comes to behind its touches

-- both regions are known, and they don't disagree
pub record IsCompared (s d : ℕ) (now : Events) : Type 0 where
  pub from : IsSome (known now s)
  pub to : IsSome (known now d)
  pub within : pair_fault s d (history_at now s) (history_at now d) ≡ None

-- a task is pending besides
pub record IsDue (s d : ℕ) (now : Events) (t : Due) : Type 0 where
  pub compared : IsCompared s d now
  pub due : due_of s d (history_at now s) ≡ Some t

-- A call on the receiver failed, which isn't the sender: its touch, or the task's Receive, which is in doubt.
pub record IsMissed (s d : ℕ) (now : Events) (t : Due) (doubt : Events) : Type 0 where
  pub apart : s ≢ d
  pub from : IsSome (known now s)
  pub due : due_of s d (history_at now s) ≡ Some t
  pub missed : ((known now d ≡ None) × (doubt ≡ []))
      ⊎ (IsCompared s d now × (arrival_at s d (history_at now d) t ≡ arrivals.New) × (doubt ≡ began d (command.Receive s t.number t.effect) ∷ []))

-- behind the missed call, the attempt's commit came to such events
pub record IsTry (s d : ℕ) (now events : Events) (Such : Due → Events → Type 0) : Type 0 where
  pub task : Due
  pub doubt : Events
  pub rest : Events
  pub missed : IsMissed s d now task doubt
  pub such : Such task rest
  pub parts : events ≡ rest ++ doubt

-- a region that is to be read couldn't be: the sender, or the receiver behind it
abbrev pub IsUnread : (s d : ℕ) → Events → ℕ → Type 0
IsUnread s d now v = ((v ≡ s) × (known now s ≡ None)) ⊎ ((v ≡ d) × IsSome (known now s) × (known now d ≡ None))

-- how a fault of a turn leaves its commits
abbrev pub Fails : (ℕ → ℕ) → (s d : ℕ) → Events → Events → DeskFault → Type 0
Fails room s d now events (faults.Volume v) = ((events ≡ []) × IsUnread s d now v × (IsSome (known now s) → due_of s d (history_at now s) ≡ None))
    ⊎ ((v ≡ s) × (((t : Due) × IsDue s d now t × IsBegun room v (history_at now) (clean s d (history_at now) t) events)
    ⊎ IsTry s d now events (λ t rest. (length_with s (history_at now s) (command.Attempt d t.number) ≤ room s)
    × (rest ≡ began s (command.Attempt d t.number) ∷ []))))
Fails room s d now events (faults.Full v) = ((t : Due) × IsDue s d now t × PassesRoom room v (history_at now) (clean s d (history_at now) t) events)
    ⊎ ((v ≡ s) × IsTry s d now events (λ t rest. (room s < length_with s (history_at now s) (command.Attempt d t.number)) × (rest ≡ [])))
Fails room s d now events (faults.Damaged v offset) = (events ≡ []) × IsUnread s d now v
Fails room s d now events (faults.Disagree from to sent last settled received) = (events ≡ []) × IsSome (known now s) × IsSome (known now d)
    × (pair_fault s d (history_at now s) (history_at now d) ≡ Some (faults.Disagree from to sent last settled received))
Fails room s d now events faults.OutOfMemory = (events ≡ [])
    ⊎ (((t : Due) × IsDue s d now t × IsStarved room (history_at now) (clean s d (history_at now) t) events)
    ⊎ IsTry s d now events (λ t rest. rest ≡ began s (command.Attempt d t.number) ∷ []))

-- an attempt was noted, and came to that
abbrev pub IsNoted : (ℕ → ℕ) → (s d : ℕ) → Events → Events → CopyOutcome → Type 0
IsNoted room s d now events outcome = IsTry s d now events (λ t rest. (outcome ≡ tried t.number (t.attempts + 1))
    × FitRooms room (history_at now) (attempt s d t ∷ []) × (rest ≡ made (history_at now) (attempt s d t ∷ [])))

-- the turn was made whole
abbrev pub Ends : (ℕ → ℕ) → (s d : ℕ) → Events → Events → CopyOutcome → Type 0
Ends room s d now events outcomes.Idle = IsCompared s d now × (due_of s d (history_at now s) ≡ None) × (events ≡ [])
Ends room s d now events (outcomes.Settled number outcome) = (t : Due) × IsDue s d now t × (number ≡ t.number)
    × (outcome ≡ outcome_at s d (history_at now d) t) × FitRooms room (history_at now) (clean s d (history_at now) t)
    × (events ≡ made (history_at now) (clean s d (history_at now) t))
Ends room s d now events (outcomes.Retried number attempts) = IsNoted room s d now events (outcomes.Retried number attempts)
Ends room s d now events (outcomes.GaveUp number) = IsNoted room s d now events (outcomes.GaveUp number)

abbrev pub TurnsOut : (ℕ → ℕ) → (s d : ℕ) → Events → Events → Result CopyOutcome DeskFault → Type 0
TurnsOut room s d now events (Ok outcome) = Ends room s d now events outcome
TurnsOut room s d now events (Err fault) = Fails room s d now events fault

-- ---- the turn

-- a region of which nothing was known was found to have a history that has P, or nothing happened
abbrev pub IsTouched : (ℕ → History → Type 0) → Events → ℕ → Events → Type 0
IsTouched P before r events = (events ≡ []) ⊎ ((known before r ≡ None) × (h : History) × P r h × (events ≡ found r h ∷ []))

-- The sender is touched, then the receiver; they are compared; and the first pending task is carried, or missed.
pub record IsCopyTurn (P : ℕ → History → Type 0) (room : ℕ → ℕ) (s d : ℕ) (before : Events) (result : Result CopyOutcome DeskFault)
    (events : Events) : Type 0 where
  pub sender : Events
  pub receiver : Events
  pub rest : Events
  pub parts : events ≡ rest ++ (receiver ++ sender)
  pub touches_sender : IsTouched P before s sender
  pub touches_receiver : IsTouched P (sender ++ before) d receiver
  pub comes : TurnsOut room s d ((receiver ++ sender) ++ before) rest result

-- the fault is the receiver's, which isn't the sender
abbrev pub is_missed : DeskFault → ℕ → ℕ → Bool
is_missed (faults.Volume v) s d = not (s == d)
is_missed (faults.Full v) s d = false
is_missed (faults.Damaged v offset) s d = false
is_missed (faults.Disagree from to sent last settled received) s d = false
is_missed faults.OutOfMemory s d = false

-- no volume is told to be damaged
abbrev pub IsNoDamage : DeskFault → Type 0
IsNoDamage (faults.Volume v) = Unit {0}
IsNoDamage (faults.Full v) = Unit {0}
IsNoDamage (faults.Damaged v offset) = ⊥
IsNoDamage (faults.Disagree from to sent last settled received) = Unit {0}
IsNoDamage faults.OutOfMemory = Unit {0}

-- ---- what is counted

-- the command is an attempt about this receiver
abbrev pub attempt_about : ℕ → Command → ℕ
attempt_about v (command.CreateBucket name locked) = 0
attempt_about v (command.DeleteBucket name) = 0
attempt_about v (command.SetVersioning name enabled) = 0
attempt_about v (command.SetReplication name config regions) = 0
attempt_about v (command.DropReplication name) = 0
attempt_about v (command.Put bucket key tags hold class body) = 0
attempt_about v (command.Marker bucket key) = 0
attempt_about v (command.Remove bucket key id) = 0
attempt_about v (command.SetTags bucket key id tags) = 0
attempt_about v (command.SetHold bucket key id hold) = 0
attempt_about v (command.Receive from number effect) = 0
attempt_about v (command.Settle to number outcome) = 0
attempt_about v (command.Attempt to number) = if to == v then 1 else 0
attempt_about v (command.CreateJob spec manifest) = 0
attempt_about v (command.MoveJob job state) = 0
attempt_about v (command.SetPriority job priority) = 0
attempt_about v (command.Prepare job) = 0
attempt_about v (command.Line job line) = 0
attempt_about v (command.Finish job body) = 0

-- how many attempts about it began
abbrev pub attempts_about : ℕ → Events → ℕ
attempts_about v [] = 0
attempts_about v (found r h ∷ events) = attempts_about v events
attempts_about v (began r c ∷ events) = attempts_about v events + attempt_about v c
attempts_about v (answered text ∷ events) = attempts_about v events

-- the result is a fault of this volume
abbrev pub fails_at : {A : Type 0} → ℕ → Result A DeskFault → ℕ
fails_at v (Ok x) = 0
fails_at v (Err (faults.Volume u)) = if u == v then 1 else 0
fails_at v (Err (faults.Full u)) = 0
fails_at v (Err (faults.Damaged u offset)) = 0
fails_at v (Err (faults.Disagree from to sent last settled received)) = 0
fails_at v (Err faults.OutOfMemory) = 0

-- each attempt about a volume, and a fault of it that is answered, was counted
abbrev pub AreCounted : {A : Type 0} → Result A DeskFault → Events → Counts → Counts → Type 0
AreCounted result events old new = (v : ℕ) → Rises (attempts_about v events + fails_at v result) (side.Volume v) old new
