-- What turns of the copier that were made whole come to.
use Rattle.std.specs.Prelude.{◌≡◌, ◌≢◌, ℕ, ◌<◌, ◌≤◌, Bool, true, false, List, [], ◌∷◌, ◌++◌, length, Option, Some, None, Result, Ok, Err}
use Rattle.s3r_world.specs.Image.{Image}
use Rattle.s3r_world.specs.declared.world.Side.TheVariants as side
use Rattle.s3r_world.specs.Outside.{Counts, Rises}
use Rattle.s3r_history.specs.declared.due.Due.{Due}
use Rattle.s3r_history.specs.Words.{History}
use Rattle.s3r_history.specs.Agree.{Agrees}
use Rattle.s3r_store.specs.Stands.{StandsFor}
use Rattle.s3r_desk.specs.declared.copy_outcome.CopyOutcome.{CopyOutcome}
use Rattle.s3r_desk.specs.declared.copy_outcome.CopyOutcome.TheVariants as outcomes
use Rattle.s3r_desk.specs.declared.fault.DeskFault.{DeskFault}
use Rattle.s3r_desk.specs.declared.fault.DeskFault.TheVariants as faults
use Rattle.s3r_desk.specs.Events.{found, began, answered, Events}
use Rattle.s3r_desk.specs.Steps.{Histories, FitRooms}
use Rattle.s3r_desk.specs.Careful.{IsWhatIsKnown, LeadAll}
use Rattle.s3r_desk.specs.Copying.{due_of, outcome_at, clean, attempt, IsCopyTurn, AreCounted}
use Rattle.s3r_desk.specs.Damage.{IsDamage}
use Rattle.s3r_drain.specs.Drain.{turned, turns, pending}

-- the turn was clean: nothing was due, or what was due is settled
abbrev pub is_clean : Result CopyOutcome DeskFault → Bool
is_clean (Ok outcomes.Idle) = true
is_clean (Ok (outcomes.Settled number outcome)) = true
is_clean (Ok (outcomes.Retried number attempts)) = false
is_clean (Ok (outcomes.GaveUp number)) = false
is_clean (Err fault) = false

-- what a clean turn in which this is due comes to
abbrev pub clean_by : ℕ → ℕ → Histories → Option Due → CopyOutcome
clean_by s d at None = outcomes.Idle
clean_by s d at (Some t) = outcomes.Settled t.number (outcome_at s d (at d) t)

-- what a clean turn from s to d comes to: Idle exactly where nothing is due
abbrev pub clean_outcome : ℕ → ℕ → Histories → CopyOutcome
clean_outcome s d at = clean_by s d at (due_of s d (at s))

-- ---- one turn

-- A clean turn comes to that, and its events lead the histories to those behind a clean turn.
abbrev pub CleanTurnsTurn : Type 0
CleanTurnsTurn = (n s d : ℕ) (room : ℕ → ℕ) (seen : Image) (before events : Events) (result : Result CopyOutcome DeskFault) (at later : Histories)
    → s < n → d < n → IsCopyTurn (λ r h. StandsFor n r h (seen.volume r)) room s d before result events → is_clean result ≡ true
    → ((r : ℕ) → r < n → IsWhatIsKnown before r (at r)) → LeadAll n events at later
    → (result ≡ Ok (clean_outcome s d at)) × ((r : ℕ) → r < n → later r ≡ turned s d at r)

-- the volume's count hasn't risen, and doesn't stand at a number at which it stays
abbrev pub IsUncounted : ℕ → Counts → Counts → Type 0
IsUncounted v old new = Rises 1 (side.Volume v) old new → ⊥

-- the volume stands for some lawful history
abbrev pub IsSoundVolume : ℕ → Image → ℕ → Type 0
IsSoundVolume n seen r = (k : History) × StandsFor n r k (seen.volume r)

-- Nothing disturbs a turn: no fault of its volumes was counted, their rooms have what it may commit, they are sound, the regions
-- agree, and it wasn't in want of memory.
pub record IsUndisturbed (n s d : ℕ) (room : ℕ → ℕ) (seen : Image) (at : Histories) (result : Result CopyOutcome DeskFault) (old new : Counts) : Type 0 where
  pub sender : IsUncounted s old new
  pub receiver : IsUncounted d old new
  pub fits : (t : Due) → due_of s d (at s) ≡ Some t → FitRooms room at (clean s d at t) × FitRooms room at (attempt s d t ∷ [])
  pub sender_sound : IsSoundVolume n seen s
  pub receiver_sound : IsSoundVolume n seen d
  pub agree : Agrees s d (at s) (at d)
  pub memory : result ≢ Err faults.OutOfMemory

-- Such a turn is clean.
abbrev pub UndisturbedTurnsAreClean : Type 0
UndisturbedTurnsAreClean = (n s d : ℕ) (room : ℕ → ℕ) (seen : Image) (before events : Events) (result : Result CopyOutcome DeskFault) (at later : Histories)
    (old new : Counts) → s < n → d < n → IsCopyTurn (λ r h. StandsFor n r h (seen.volume r)) room s d before result events
    → IsDamage n seen result → AreCounted result events old new
    → ((r : ℕ) → r < n → IsWhatIsKnown before r (at r)) → LeadAll n events at later
    → IsUndisturbed n s d room seen at result old new → is_clean result ≡ true

-- ---- many turns

-- nothing but answers that were put out
abbrev pub AreAnswers : Events → Type 0
AreAnswers [] = Unit {0}
AreAnswers (found r h ∷ events) = ⊥
AreAnswers (began r c ∷ events) = ⊥
AreAnswers (answered text ∷ events) = AreAnswers events

-- What happened in a clean turn behind these events, and what was answered behind it.
pub record IsCleanTurn (n s d : ℕ) (room : ℕ → ℕ) (before events : Events) : Type 0 where
  pub seen : Image
  pub result : Result CopyOutcome DeskFault
  pub turn : Events
  pub answers : Events
  pub parts : events ≡ answers ++ turn
  pub clean : is_clean result ≡ true
  pub is_turn : IsCopyTurn (λ r h. StandsFor n r h (seen.volume r)) room s d before result turn
  pub are_answers : AreAnswers answers

-- the events of several turns, the newest first
abbrev pub all_events : List Events → Events
all_events [] = []
all_events (events ∷ earlier) = events ++ all_events earlier

-- clean turns one behind another, the newest first, the first of them behind these events
abbrev pub AreCleanTurns : ℕ → ℕ → ℕ → (ℕ → ℕ) → Events → List Events → Type 0
AreCleanTurns n s d room before [] = Unit {0}
AreCleanTurns n s d room before (events ∷ earlier) = IsCleanTurn n s d room (all_events earlier ++ before) events × AreCleanTurns n s d room before earlier

-- Clean turns in a row lead the histories to those behind so many clean turns.
abbrev pub CleanTurnsInTurn : Type 0
CleanTurnsInTurn = (n s d : ℕ) (room : ℕ → ℕ) (before : Events) (all : List Events) (at later : Histories) → s < n → d < n
    → AreCleanTurns n s d room before all
    → ((r : ℕ) → r < n → IsWhatIsKnown before r (at r)) → LeadAll n (all_events all) at later
    → (r : ℕ) → r < n → later r ≡ turns s d (length all) at r

-- As many as tasks are pending leave none that is due.
abbrev pub CleanTurnsEmptyTheQueue : Type 0
CleanTurnsEmptyTheQueue = (n s d : ℕ) (room : ℕ → ℕ) (before : Events) (all : List Events) (at later : Histories) → s < n → d < n
    → AreCleanTurns n s d room before all
    → ((r : ℕ) → r < n → IsWhatIsKnown before r (at r)) → LeadAll n (all_events all) at later
    → pending s d (at s) ≤ length all → due_of s d (later s) ≡ None
