-- What clean turns of the copier leave, from a region s to a region d.
use Rattle.std.specs.Prelude.{◌≡◌, ◌↔◌, ℕ, zero, suc, ◌+◌, ◌-◌, ◌<◌, ◌≤◌, min, nat_le, length, filter, Option, Some, None, slice_get}
use Rattle.s3r_names.specs.declared.outcome.Outcome.{Outcome}
use Rattle.s3r_queue.specs.Tasks.{is_pending, waits}
use Rattle.s3r_history.specs.declared.due.Due.{Due}
use Rattle.s3r_history.specs.Words.{History}
use Rattle.s3r_history.specs.Deeds.{deeds}
use Rattle.s3r_history.specs.Placed.{prescribed}
use Rattle.s3r_history.specs.Tasks.{sent, first, settled_with, attempts, task_state, tasks_to}
use Rattle.s3r_history.specs.Accepts.{IsLawful}
use Rattle.s3r_history.specs.Agree.{Agrees}
use Rattle.s3r_desk.specs.Steps.{Histories, after_commits}
use Rattle.s3r_desk.specs.Careful.{AreAgreed}
use Rattle.s3r_desk.specs.Copying.{due_of, outcome_at, clean}

-- the histories behind a clean turn in which this is due
abbrev pub turned_by : ℕ → ℕ → Histories → Option Due → Histories
turned_by s d at None = at
turned_by s d at (Some t) = after_commits (clean s d at t) at

-- the histories behind a clean turn; they are what they were where nothing is due
abbrev pub turned : ℕ → ℕ → Histories → Histories
turned s d at = turned_by s d at (due_of s d (at s))

-- the histories behind so many clean turns
abbrev pub turns : ℕ → ℕ → ℕ → Histories → Histories
turns s d zero at = at
turns s d (suc m) at = turned s d (turns s d m at)

-- how many tasks of region s, whose history is h, to region d are pending
abbrev pub pending : ℕ → ℕ → History → ℕ
pending s d h = length (filter waits (tasks_to h (deeds s h) d))

-- ---- one turn

-- Nothing is due exactly where no task is pending.
abbrev pub NothingIsDue : Type 0
NothingIsDue = (s d : ℕ) (h : History) → (due_of s d h ≡ None) ↔ (pending s d h ≡ 0)

-- Of all tasks, each given by its sender, its receiver and its number, only those that are among some were settled. None was tried
-- and none prescribed, so each other one keeps its state.
pub record SettlesOnly (IsAmong : ℕ → ℕ → ℕ → Type 0) (at later : Histories) : Type 0 where
  pub others : (r to n : ℕ) → (IsAmong r to n → ⊥) → settled_with (later r) to n ≡ settled_with (at r) to n
  pub tries : (r to n : ℕ) → attempts (later r) to n ≡ attempts (at r) to n
  pub prescribes : (r to : ℕ) → prescribed (deeds r (later r)) to ≡ prescribed (deeds r (at r)) to

-- the task of this number from s to d
abbrev pub IsTheTask : ℕ → ℕ → ℕ → ℕ → ℕ → ℕ → Type 0
IsTheTask s d number r to n = (r ≡ s) × (to ≡ d) × (n ≡ number)

-- A clean turn settles the first pending task as it came to, and no other.
abbrev pub OneTurnSettlesTheFirst : Type 0
OneTurnSettlesTheFirst = (s d : ℕ) (at : Histories) (t : Due) → due_of s d (at s) ≡ Some t
    → (t.number ≡ first (at s) (deeds s (at s)) d)
    × (settled_with (turned s d at s) d t.number ≡ Some (outcome_at s d (at d) t))
    × SettlesOnly (IsTheTask s d t.number) at (turned s d at)

-- ---- many turns

-- So many clean turns leave so many tasks fewer pending, down to none. Nothing is asked of the histories, and both regions may be
-- one.
abbrev pub TurnsDrain : Type 0
TurnsDrain = (s d m : ℕ) (at : Histories) → pending s d (turns s d m at s) ≡ pending s d (at s) - m

-- In a lawful history tasks end in turn: those that ended, also by being given up, are those before the first pending one.
abbrev pub TheFirstEnded : Type 0
TheFirstEnded = (n r d number : ℕ) (h : History) → IsLawful n r h → 1 ≤ number → number ≤ sent (deeds r h) d
    → is_pending (task_state h d number) ≡ nat_le (first h (deeds r h) d) number

-- So the pending ones are the others, up to the last.
abbrev pub TheLastArePending : Type 0
TheLastArePending = (n r d : ℕ) (h : History) → IsLawful n r h → first h (deeds r h) d + pending r d h ≡ sent (deeds r h) d + 1

-- the number is one of the first so many pending tasks from region s, whose history is h, to region d
pub record IsAmongFirst (s d m : ℕ) (h : History) (number : ℕ) : Type 0 where
  pub from : first h (deeds s h) d ≤ number
  pub below : number < first h (deeds s h) d + m
  pub to_sent : number ≤ sent (deeds s h) d

-- The task of this number was due behind these histories, as it was prescribed at the start, and came to this there.
pub record HasItsTurn (s d number : ℕ) (at before : Histories) (outcome : Outcome) : Type 0 where
  pub task : Due
  pub due : due_of s d (before s) ≡ Some task
  pub number_is : task.number ≡ number
  pub effect : slice_get (prescribed (deeds s (at s)) d) (number - 1) ≡ Some task.effect
  pub outcome_is : outcome ≡ outcome_at s d (before d) task

-- So many clean turns settle the first so many pending tasks, each in its own turn: number `first + i` behind i turns.
abbrev pub TurnsSettleTheFirst : Type 0
TurnsSettleTheFirst = (n s d m number : ℕ) (at : Histories) → IsLawful n s (at s) → IsAmongFirst s d m (at s) number
    → (outcome : Outcome) × (settled_with (turns s d m at s) d number ≡ Some outcome)
    × HasItsTurn s d number at (turns s d (number - first (at s) (deeds s (at s)) d) at) outcome

-- They settle no other.
abbrev pub TurnsSettleNoOther : Type 0
TurnsSettleNoOther = (n s d m : ℕ) (at : Histories) → IsLawful n s (at s)
    → SettlesOnly (λ r to number. (r ≡ s) × (to ≡ d) × IsAmongFirst s d m (at s) number) at (turns s d m at)

-- The first pending number is then so many higher, up to one above all.
abbrev pub TheFirstRises : Type 0
TheFirstRises = (n s d m : ℕ) (at : Histories) → IsLawful n s (at s)
    → let later = turns s d m at s in first later (deeds s later) d ≡ first (at s) (deeds s (at s)) d + min m (pending s d (at s))

-- Regions that agree on what s sent to d agree behind the turns. So each task that they settled was received, and came to that.
abbrev pub TurnsKeepAgreement : Type 0
TurnsKeepAgreement = (s d m : ℕ) (at : Histories) → Agrees s d (at s) (at d) → Agrees s d (turns s d m at s) (turns s d m at d)

-- All other pairs of regions agree as before, so turns may follow one another between any of them.
abbrev pub AllStayAgreed : Type 0
AllStayAgreed = (n s d m : ℕ) (at : Histories) → AreAgreed n at → AreAgreed n (turns s d m at)
