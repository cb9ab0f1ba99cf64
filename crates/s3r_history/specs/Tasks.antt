-- The tasks of a region, and what it received.
use Rattle.std.specs.Prelude.{ℕ, suc, ◌==◌, ◌&&◌, List, [], ◌∷◌, ◌++◌, Option, Some, None, if◌then◌else◌, length}
use Rattle.std.specs.List.{list_any}
use Rattle.s3r_names.specs.declared.outcome.Outcome.{Outcome}
use Rattle.s3r_record.specs.declared.command.Command.{Command}
use Rattle.s3r_record.specs.declared.command.Command.TheVariants as command
use Rattle.s3r_queue.specs.declared.inbox.Noted.{Noted}
use Rattle.s3r_queue.specs.declared.task.Task.{Task}
use Rattle.s3r_queue.specs.declared.task.TaskState.{TaskState}
use Rattle.s3r_queue.specs.Tasks.{state_by, waits, first_of}
use Rattle.s3r_history.specs.Words.{History, newest}
use Rattle.s3r_history.specs.declared.sent.Prescribed.{Prescribed}
use Rattle.s3r_history.specs.Past.{Carried, Past}
use Rattle.s3r_history.specs.Placed.{prescribed, placed}

abbrev pub sent : Past → ℕ → ℕ
sent past d = length (prescribed past d)

-- what a command settles the task of this region and number with
abbrev pub settlement : ℕ → ℕ → ℕ → Command → Option Outcome
settlement d n place (command.CreateBucket name locked) = None
settlement d n place (command.DeleteBucket name) = None
settlement d n place (command.SetVersioning name enabled) = None
settlement d n place (command.SetReplication name config regions) = None
settlement d n place (command.DropReplication name) = None
settlement d n place (command.Put bucket key tags hold class body) = None
settlement d n place (command.Marker bucket key) = None
settlement d n place (command.Remove bucket key id) = None
settlement d n place (command.SetTags bucket key id tags) = None
settlement d n place (command.SetHold bucket key id hold) = None
settlement d n place (command.Receive from number effect) = None
settlement d n place (command.Settle to number outcome) = if (to == d) && (number == n) then Some outcome else None
settlement d n place (command.Attempt to number) = None
settlement d n place (command.CreateJob spec manifest) = None
settlement d n place (command.MoveJob job state) = None
settlement d n place (command.SetPriority job priority) = None
settlement d n place (command.Prepare job) = None
settlement d n place (command.Line job line) = None
settlement d n place (command.Finish job body) = None

-- what the task came to, by the last command that settles it
abbrev pub settled_with : History → ℕ → ℕ → Option Outcome
settled_with h d n = newest (settlement d n) h

-- how many attempts were made for it
abbrev pub attempts : History → ℕ → ℕ → ℕ
attempts [] d n = 0
attempts (command.CreateBucket name locked ∷ h) d n = attempts h d n
attempts (command.DeleteBucket name ∷ h) d n = attempts h d n
attempts (command.SetVersioning name enabled ∷ h) d n = attempts h d n
attempts (command.SetReplication name config regions ∷ h) d n = attempts h d n
attempts (command.DropReplication name ∷ h) d n = attempts h d n
attempts (command.Put bucket key tags hold class body ∷ h) d n = attempts h d n
attempts (command.Marker bucket key ∷ h) d n = attempts h d n
attempts (command.Remove bucket key id ∷ h) d n = attempts h d n
attempts (command.SetTags bucket key id tags ∷ h) d n = attempts h d n
attempts (command.SetHold bucket key id hold ∷ h) d n = attempts h d n
attempts (command.Receive from number effect ∷ h) d n = attempts h d n
attempts (command.Settle to number outcome ∷ h) d n = attempts h d n
attempts (command.Attempt to number ∷ h) d n = if (to == d) && (number == n) then suc (attempts h d n) else attempts h d n
attempts (command.CreateJob spec manifest ∷ h) d n = attempts h d n
attempts (command.MoveJob job state ∷ h) d n = attempts h d n
attempts (command.SetPriority job priority ∷ h) d n = attempts h d n
attempts (command.Prepare job ∷ h) d n = attempts h d n
attempts (command.Line job line ∷ h) d n = attempts h d n
attempts (command.Finish job body ∷ h) d n = attempts h d n

abbrev pub task_state : History → ℕ → ℕ → TaskState
task_state h d n = state_by (settled_with h d n) (attempts h d n)

-- these effects as tasks, the first of them having this number
abbrev pub tasks_from : {E : Type 0} → History → ℕ → ℕ → List E → List (Task E)
tasks_from h d n [] = []
tasks_from h d n (effect ∷ es) = record { effect = effect; outcome = settled_with h d n; attempts = attempts h d n } ∷ tasks_from h d (suc n) es

-- the tasks to a region, the first first
abbrev pub tasks_to : History → Past → ℕ → List (Task Carried)
tasks_to h past d = tasks_from h d 1 (prescribed past d)

-- the same, each effect with the index of the command that prescribed it
abbrev pub placed_tasks : History → Past → ℕ → List (Task Prescribed)
placed_tasks h past d = tasks_from h d 1 (placed past d)

-- the number of the first pending task, one above all where none is pending
abbrev pub first : History → Past → ℕ → ℕ
first h past d = first_of (tasks_to h past d)

-- the number that a Settle or an Attempt must have: 0 where no task is pending
abbrev pub next_task : History → Past → ℕ → ℕ
next_task h past d = if list_any waits (tasks_to h past d) then first h past d else 0

-- ---- what was received

-- an effect that was received, with its number and what it came to
pub record Received : Type 0 where
  pub number : ℕ
  pub effect : Carried
  pub outcome : Outcome

-- what a command receives from a region; it came to that
abbrev pub receipt : ℕ → Outcome → Command → List Received
receipt s came_to (command.CreateBucket name locked) = []
receipt s came_to (command.DeleteBucket name) = []
receipt s came_to (command.SetVersioning name enabled) = []
receipt s came_to (command.SetReplication name config regions) = []
receipt s came_to (command.DropReplication name) = []
receipt s came_to (command.Put bucket key tags hold class body) = []
receipt s came_to (command.Marker bucket key) = []
receipt s came_to (command.Remove bucket key id) = []
receipt s came_to (command.SetTags bucket key id tags) = []
receipt s came_to (command.SetHold bucket key id hold) = []
receipt s came_to (command.Receive from number effect) =
    if from == s then record { number = number; effect = effect; outcome = came_to } ∷ [] else []
receipt s came_to (command.Settle to number outcome) = []
receipt s came_to (command.Attempt to number) = []
receipt s came_to (command.CreateJob spec manifest) = []
receipt s came_to (command.MoveJob job state) = []
receipt s came_to (command.SetPriority job priority) = []
receipt s came_to (command.Prepare job) = []
receipt s came_to (command.Line job line) = []
receipt s came_to (command.Finish job body) = []

-- what was received from a region, the newest first
abbrev pub received : Past → ℕ → List Received
received [] s = []
received (d ∷ past) s = receipt s d.outcome d.command ++ received past s

-- the last of it
abbrev pub last_of : List Received → Option Noted
last_of [] = None
last_of (r ∷ rs) = Some (record { number = r.number; outcome = r.outcome })

abbrev pub last_from : Past → ℕ → Option Noted
last_from past s = last_of (received past s)
